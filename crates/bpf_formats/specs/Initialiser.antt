-- Programs as initialisers in C, as `tcpdump -dd` prints them (docs/MACHINE.md, "Programs as numbers").
use Rattle.std.specs.Prelude.{◌++◌, List, codes, decimal, false, ℕ}
use Rattle.std.specs.Fmt.{digits}
use Rattle.std.specs.List.{flat_map}
use Rattle.bpf_insn.specs.Word.{code_of, constant_of, false_jump_of, true_jump_of}
use Rattle.bpf_formats.specs.Hex.{hex_digits}

-- the fields of a `struct sock_filter`: the code in hexadecimal, jt and jf in decimal, k by eight hexadecimal digits
abbrev pub initialiser : ℕ → ℕ → ℕ → ℕ → List ℕ
initialiser code jt jf k =
    codes "{ 0x"
    ++ (digits 16 false code
    ++ (codes ", " ++ (decimal jt ++ (codes ", " ++ (decimal jf ++ (codes ", 0x" ++ (hex_digits 8 k ++ codes " },\n")))))))

-- a word as a line
abbrev pub dd_line : ℕ → List ℕ
dd_line it = initialiser (code_of it) (true_jump_of it) (false_jump_of it) (constant_of it)

-- the text that is printed of words: each on a separate line
abbrev pub dd_text : List ℕ → List ℕ
dd_text words = flat_map dd_line words
