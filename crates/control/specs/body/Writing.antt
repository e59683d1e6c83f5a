-- The part of a text that is written if a write fails.
use Rattle.std.specs.Prelude.{◌≡◌, ◌++◌, List, Option, ℕ}
use Rattle.control.specs.Replay.{WasWritten}

-- a beginning of the bytes; the failures are so many then
pub record IsWrittenInPart (failures : ℕ) (before after : Option (List ℕ)) (bytes : List ℕ) : Type 0 where
  pub told : List ℕ
  pub untold : List ℕ
  pub beginning : bytes ≡ told ++ untold
  pub written : WasWritten failures before after told
