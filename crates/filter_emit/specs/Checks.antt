-- Code that tests A and X.
use Rattle.std.specs.Prelude.{◌≡◌, if◌then◌else◌, Bool, List, ℕ}
use Rattle.bpf_insn.specs.declared.instruction.Operand.{Operand}
use Rattle.bpf_insn.specs.declared.instruction.Test.{Test}
use Rattle.bpf_machine.specs.Meaning.{Cells, holds, mean, operand_value}
use Rattle.filter_emit.specs.Runs.{LoadsStored}

-- the words go to one of two targets by a check of A and X, leave this in A, and leave X and the cells unchanged
pub record Checks (left : ℕ → ℕ) (check : ℕ → ℕ → Bool) (at_yes at_no words : List ℕ) : Type 0 where
  pub loads_stored : (d : ℕ) → LoadsStored d at_yes → LoadsStored d at_no → LoadsStored d words
  pub goes : (packet : List ℕ) (a x : ℕ) (cells : Cells) → mean words a x cells packet ≡ mean (if check a x then at_yes else at_no) (left a) x cells packet

-- a conditional jump asks its test
abbrev pub asks : Test → Operand → ℕ → ℕ → Bool
asks test operand a x = holds test a (operand_value operand x)
