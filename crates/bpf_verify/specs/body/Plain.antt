-- The knowledge of the pass about words that it classifies by their codes.
use Rattle.std.specs.Prelude.{◌≡◌, ◌+◌, ◌∷◌, List, None, Ok, [], slice_index_or, ℕ}
use Rattle.bpf_insn.specs.declared.instruction.Insn.{Insn}
use Rattle.bpf_insn.specs.declared.instruction.Insn.TheVariants.{JumpIf}
use Rattle.bpf_insn.specs.declared.instruction.Offsets.{Offsets}
use Rattle.bpf_insn.specs.declared.instruction.Operand.{Operand}
use Rattle.bpf_insn.specs.declared.instruction.Operand.TheVariants.{K, X}
use Rattle.bpf_insn.specs.declared.instruction.Test.{Test}
use Rattle.bpf_insn.specs.Table.{Uses, offsets, uses_all, uses_jumps}
use Rattle.bpf_insn.specs.Word.{instruction_of}
use Rattle.bpf_verify.specs.declared.plain.Plain.{Plain}
use Rattle.bpf_verify.specs.declared.plain.TheConstants.{NONE, PLAIN}
use Rattle.bpf_verify.specs.Path.{IsReturn, successors}
use Rattle.bpf_verify.specs.Accepted.{instruction_fault}
use Rattle.bpf_verify.specs.body.Pass.{FindsCell, cells_after}

-- the instruction has no fault at any place, goes on to the next one, and finds the cell that it loads in the set before; the
-- other set is that after it
pub record GoesOn (insn : Insn) (before after : ℕ) : Type 0 where
  pub faultless : (len pc : ℕ) → instruction_fault len pc insn ≡ None
  pub goes_on : (pc : ℕ) → successors insn pc ≡ (pc + 1) ∷ []
  pub no_return : ¬ IsReturn insn
  pub finds : FindsCell insn before
  pub leaves : after ≡ cells_after insn before

-- the word is of such an instruction
abbrev pub IsPlain : ℕ → ℕ → ℕ → Type 0
IsPlain word before after = (insn : Insn) × (instruction_of word ≡ Ok insn) × GoesOn insn before after

-- the entry of a code in the table of plain words
abbrev pub plain_of : ℕ → Plain
plain_of code = slice_index_or PLAIN code NONE

-- the fields that conditional jumps use, with a constant and with X
abbrev pub uses_constant_test : Test → Uses
uses_constant_test test = uses_all (λ jt jf k. JumpIf test (K k) (offsets jt jf))

abbrev pub uses_x_test : Test → Uses
uses_x_test test = uses_jumps (λ jt jf. JumpIf test X (offsets jt jf))

-- the word is a conditional jump's with these offsets
abbrev pub IsBranch : ℕ → Offsets → Type 0
IsBranch word offsets = (test : Test) × ((operand : Operand) × (instruction_of word ≡ Ok (JumpIf test operand offsets)))

-- the places to which a conditional jump leads
abbrev pub targets : ℕ → Offsets → List ℕ
targets pc offsets = (pc + 1 + offsets.jt) ∷ (pc + 1 + offsets.jf) ∷ []
