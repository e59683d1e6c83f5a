-- How a program is printed (docs/MACHINE.md, "How a program is printed").
use Rattle.std.specs.Prelude.{◌≡◌, ◌∷◌, ◌++◌, Err, List, Ok, Result, [], codes, nat_le, true, ℕ}
use Rattle.std.specs.Fmt.{decimal}
use Rattle.std.specs.List.{flat_map, list_all}
use Rattle.bpf_insn.specs.declared.instruction.Insn.{Insn}
use Rattle.bpf_insn.specs.declared.instruction.Insn.TheVariants.{Alu, CopyFromX, CopyToX, Jump, JumpIf, LoadAbsolute, LoadCell, LoadConstant, LoadIndexed, LoadLength, LoadXCell, LoadXConstant, LoadXHeader, LoadXLength, Negate, ReturnA, ReturnConstant, Store, StoreX}
use Rattle.bpf_insn.specs.declared.instruction.Operand.{Operand}
use Rattle.bpf_insn.specs.declared.instruction.Operand.TheVariants.{K, X}
use Rattle.bpf_insn.specs.declared.instruction.WordFault.{WordFault}
use Rattle.bpf_insn.specs.Word.{instruction_of}
use Rattle.bpf_asm.specs.Statement.{load_name, operation_name, test_name}

abbrev pub printed_operand : Operand → List ℕ
printed_operand (K k) = codes "#" ++ decimal k
printed_operand X = codes "x"

-- the mnemonic, one space if something follows, and the rest without a space
abbrev pub printed_insn : Insn → List ℕ
printed_insn (LoadAbsolute size k) = load_name size ++ (codes " [" ++ decimal k ++ codes "]")
printed_insn (LoadIndexed size k) = load_name size ++ (codes " [x+" ++ decimal k ++ codes "]")
printed_insn (LoadConstant k) = codes "ld #" ++ decimal k
printed_insn (LoadCell k) = codes "ld M[" ++ decimal k ++ codes "]"
printed_insn LoadLength = codes "ld len"
printed_insn (LoadXConstant k) = codes "ldx #" ++ decimal k
printed_insn (LoadXCell k) = codes "ldx M[" ++ decimal k ++ codes "]"
printed_insn LoadXLength = codes "ldx len"
printed_insn (LoadXHeader k) = codes "ldx 4*([" ++ decimal k ++ codes "]&0xf)"
printed_insn (Store k) = codes "st M[" ++ decimal k ++ codes "]"
printed_insn (StoreX k) = codes "stx M[" ++ decimal k ++ codes "]"
printed_insn (Alu operation operand) = operation_name operation ++ (codes " " ++ printed_operand operand)
printed_insn Negate = codes "neg"
printed_insn CopyToX = codes "tax"
printed_insn CopyFromX = codes "txa"
printed_insn (Jump k) = codes "ja +" ++ decimal k
printed_insn (JumpIf test operand offsets) =
    test_name test
    ++ (codes " " ++ (printed_operand operand ++ (codes "," ++ (decimal offsets.jt ++ (codes "," ++ decimal offsets.jf)))))
printed_insn (ReturnConstant k) = codes "ret #" ++ decimal k
printed_insn ReturnA = codes "ret a"

-- an instruction's line, ended by LF
abbrev pub printed_line : Result Insn WordFault → List ℕ
printed_line (Ok insn) = printed_insn insn ++ 10 ∷ []
printed_line (Err fault) = []

-- an instruction after `; `, which ends the line before it
abbrev pub printed_after : Result Insn WordFault → List ℕ
printed_after (Ok insn) = codes "; " ++ printed_insn insn
printed_after (Err fault) = []

abbrev pub printed_first : Result Insn WordFault → List ℕ
printed_first (Ok insn) = printed_insn insn
printed_first (Err fault) = []

-- the one spelling of a program
abbrev pub printed : List ℕ → List ℕ
printed words = flat_map (λ word. printed_line (instruction_of word)) words

-- the same on one line, with `; ` between two instructions
abbrev pub printed_in_line : List ℕ → List ℕ
printed_in_line [] = []
printed_in_line (word ∷ words) = printed_first (instruction_of word) ++ flat_map (λ next. printed_after (instruction_of next)) words

-- no byte of a text is a control character: LF, CR or another below the space, which is 32
abbrev pub IsPrintable : List ℕ → Type 0
IsPrintable text = list_all (λ byte. nat_le 32 byte) text ≡ true
