-- The state of a run of the code: the rest of the run means what the whole program means.
use Rattle.std.specs.Prelude.{◌≡◌, ◌∷◌, ◌++◌, ◌+◌, ◌-◌, ◌<◌, ◌≤◌, IsSome, List, Some, [], drop, length, slice_index, ℕ}
use Rattle.bpf_verify.specs.Path.{IsPath, IsStoredOn}
use Rattle.bpf_machine.specs.Meaning.{Cells, Run, no_cells, run_after}

-- the array has the value of each cell that was stored
unfoldable pub Holds : Cells → List ℕ → Type 0
Holds cells numbers = (cell number : ℕ) → cells cell ≡ Some number → slice_index numbers cell ≡ number

-- the run from a place on
abbrev pub run_from : List ℕ → ℕ → ℕ → ℕ → Cells → List ℕ → Run
run_from program pc a x cells packet = run_after 0 (drop pc program) a x cells packet

-- so many words were met before
abbrev pub after_steps : ℕ → Run → Run
after_steps steps run = (run.0, run.1 + steps)

-- the run came to pc along a path, and each cell that the path stored has a value
pub record IsSafe (program : List ℕ) (pc : ℕ) (cells : Cells) : Type 0 where
  pub inside : pc < length program
  pub earlier : List ℕ
  pub path : IsPath program (earlier ++ pc ∷ [])
  pub valued : (cell : ℕ) → IsStoredOn program earlier cell → IsSome (cells cell)

-- the rest from pc on means what the whole means, and the places before it that no jump passed over were met
pub record IsRunning (program packet : List ℕ) (pc passed_over a x : ℕ) (numbers : List ℕ) : Type 0 where
  pub cells : Cells
  pub hold : Holds cells numbers
  pub safe : IsSafe program pc cells
  pub before : passed_over ≤ pc
  pub same : run_after 0 program 0 0 no_cells packet ≡ after_steps (pc - passed_over) (run_from program pc a x cells packet)
