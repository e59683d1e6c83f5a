-- The result of an expression's program, the places of its far jumps, and that a short program has none.
use Rattle.std.specs.Prelude.{◌≡◌, ◌+◌, ◌<◌, List, ℕ}
use Rattle.bpf_insn.specs.declared.instruction.Insn.TheVariants.{Jump}
use Rattle.bpf_verify.specs.Path.{IsAt}
use Rattle.bpf_machine.specs.Meaning.{Ret, ending_of}
use Rattle.filter_tree.specs.Tree.{Tree}
use Rattle.filter_tree.specs.Truth.{truth_of}
pub use Rattle.filter_tree.specs.Answer.{IsPacket, answer_of}

-- on each packet the program returns the answer of the expression
abbrev pub AnswersFor : Tree → List ℕ → Type 0
AnswersFor tree program = (packet : List ℕ) → IsPacket packet → ending_of program packet ≡ Ret (answer_of (truth_of tree packet))

-- a JA, the jump that may be far, is only at a place after which the size has room for 255 instructions
abbrev pub HasFarJumpsOnly : ℕ → List ℕ → Type 0
HasFarJumpsOnly size program = (pc k : ℕ) → IsAt program pc (Jump k) → pc + 255 < size

-- no instruction of the program is a JA
abbrev pub HasNoFarJump : List ℕ → Type 0
HasNoFarJump program = (pc k : ℕ) → ¬ IsAt program pc (Jump k)
