-- Straight code: what functions of a compiler that write it ensure.
use Rattle.std.specs.Prelude.{◌≡◌, [], List, None, length, ℕ}
use Rattle.bpf_insn.specs.declared.instruction.Insn.{Insn}
use Rattle.bpf_verify.specs.Accepted.{instruction_fault}
use Rattle.filter_emit.specs.Guards.{IsGuard}
use Rattle.filter_emit.specs.Fixups.{IsLonger}
use Rattle.filter_emit.specs.Pieces.{AreInstructions, IsJump}

-- the meaning of straight code: what the words behind it and those at its beginning have to do with each other
abbrev pub Step : Type 1
Step = List ℕ → List ℕ → Type 0

-- the instruction has no fault wherever it stands: it is no jump
abbrev pub NeverFaults : Insn → Type 0
NeverFaults insn = (len pc : ℕ) → instruction_fault len pc insn ≡ None

-- each word of these places is an instruction's, and none is a JA
abbrev pub IsJumpless : ℕ → ℕ → List ℕ → Type 0
IsJumpless from until code = AreInstructions (λ pc insn. ¬ IsJump insn) from until code

-- what a function that writes straight code ensures: each instruction of it goes on to the next
pub record Extends (step : Step) (weight : ℕ) (before after : List ℕ) : Type 0 where
  pub longer : IsLonger before after
  pub straight : IsGuard (λ at_yes at_no words. step at_yes words) weight (length before) (length after) after []
  pub jumpless : IsJumpless (length before) (length after) after
