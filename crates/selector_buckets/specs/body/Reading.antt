-- What is read from words, if they are a selector.
use Rattle.std.specs.Prelude.{◌==◌, ◌+◌, ◌/◌, ◌%◌, ◌++◌, ◌∷◌, if◌then◌else◌, List, [], drop, length, slice_index, suc, take, zero, ℕ}
use Rattle.bpf_insn.specs.declared.instruction.Insn.TheVariants.{CopyToX, LoadAbsolute}
use Rattle.bpf_insn.specs.declared.instruction.Size.TheVariants.{Word}
use Rattle.bpf_insn.specs.Word.{word_of}
use Rattle.selector_buckets.specs.declared.hash.HashBy.{HashBy}
use Rattle.selector_buckets.specs.declared.hash.HashBy.TheVariants.{Addresses, Both, Ports}

-- what is hashed: the first word loads the address or the header's length, and only with both does the fourth copy A
abbrev pub by_of : List ℕ → HashBy
by_of words =
    if slice_index words 0 == word_of (LoadAbsolute Word 12) then Addresses else if slice_index words 3 == word_of CopyToX then Both else Ports

-- the members at the leaves of a tree, by the lowest bytes of their words
unfoldable pub leaves : ℕ → List ℕ → List ℕ
leaves zero words = slice_index words 0 % 256 ∷ []
leaves (suc depth) words = leaves depth (take (length words / 2) (drop 1 words)) ++ leaves depth (drop (1 + length words / 2) words)
