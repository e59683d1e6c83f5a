-- A Program as contracts see it.
use Rattle.std.specs.Prelude.{◌≤◌, List, length, ℕ}
use Rattle.bpf_verify.specs.declared.TheConstants.{MAX_INSTRUCTIONS}
use Rattle.bpf_verify.specs.Accepted.{IsAccepted}

-- a program: its words, and what a configuration counts for it
pub record ProgramValue : Type 0 where
  pub words : List ℕ
  pub charge : ℕ

-- the words are accepted, and the charge is at least their number and at most the greatest number of instructions
pub record IsProgram (program : ProgramValue) : Type 0 where
  pub accepted : IsAccepted program.words
  pub covers : length program.words ≤ program.charge
  pub limited : program.charge ≤ MAX_INSTRUCTIONS
