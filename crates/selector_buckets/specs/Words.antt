-- The words of a selector: the hash is brought into A, and a tree of comparisons leads to the return of its bucket.
use Rattle.std.specs.Prelude.{◌*◌, ◌+◌, ◌++◌, ◌-◌, ◌^◌, ◌∷◌, List, [], drop, length, slice_index, suc, take, zero, ℕ}
use Rattle.bpf_insn.specs.declared.instruction.Insn.TheVariants.{Alu, CopyToX, JumpIf, LoadAbsolute, LoadIndexed, LoadXHeader, ReturnConstant}
use Rattle.bpf_insn.specs.declared.instruction.Operand.TheVariants.{K, X}
use Rattle.bpf_insn.specs.declared.instruction.Operation.TheVariants.{Add, Mul}
use Rattle.bpf_insn.specs.declared.instruction.Size.TheVariants.{Half, Word}
use Rattle.bpf_insn.specs.declared.instruction.Test.TheVariants.{GreaterOrEqual}
use Rattle.bpf_insn.specs.Table.{offsets}
use Rattle.bpf_insn.specs.Word.{word_of}
use Rattle.selector_buckets.specs.declared.TheConstants.{MULTIPLIER}
use Rattle.selector_buckets.specs.declared.hash.HashBy.{HashBy}
use Rattle.selector_buckets.specs.declared.hash.HashBy.TheVariants.{Addresses, Both, Ports}
use Rattle.selector_buckets.specs.Buckets.{BucketsValue}
use Rattle.selector_buckets.specs.Hash.{width_of}

abbrev pub source_words : List ℕ
source_words = word_of (LoadAbsolute Word 12) ∷ []

-- the source port comes after the IPv4 header, whose length is loaded into X
abbrev pub port_words : List ℕ
port_words = word_of (LoadXHeader 0) ∷ word_of (LoadIndexed Half 0) ∷ []

abbrev pub multiply_words : List ℕ
multiply_words = word_of (Alu Mul (K MULTIPLIER)) ∷ []

abbrev pub key_words : HashBy → List ℕ
key_words Addresses = source_words
key_words Ports = port_words
key_words Both = port_words ++ multiply_words ++ word_of CopyToX ∷ [] ++ source_words ++ word_of (Alu Add X) ∷ []

abbrev pub hash_words : HashBy → List ℕ
hash_words by = key_words by ++ multiply_words

-- of a part of the table with 2^depth buckets, the first of which has the hashes from low on: a test against the middle, whose jump
-- passes over the first half
unfoldable pub tree_words : ℕ → ℕ → ℕ → List ℕ → List ℕ
tree_words zero low width members = word_of (ReturnConstant (slice_index members 0)) ∷ []
tree_words (suc depth) low width members =
    word_of (JumpIf GreaterOrEqual (K (low + 2 ^ depth * width)) (offsets (2 * 2 ^ depth - 1) 0))
    ∷ (tree_words depth low width (take (2 ^ depth) members) ++ tree_words depth (low + 2 ^ depth * width) width (drop (2 ^ depth) members))

abbrev pub selector_words : HashBy → BucketsValue → List ℕ
selector_words by buckets = hash_words by ++ tree_words buckets.depth 0 (width_of (length buckets.members)) buckets.members
