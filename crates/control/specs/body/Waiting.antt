-- Replies that wait to be written together.
use Rattle.std.specs.Prelude.{◌≡◌, ◌++◌, Err, List, Option, Result, ℕ}
use Rattle.std.specs.Io.KnownBytes.{Appends}
use Rattle.control.specs.declared.fault.ReplayFault.{ReplayFault}
use Rattle.control.specs.declared.fault.ReplayFault.TheVariants.{WriteFailed}
use Rattle.control.specs.Streams.{OutputValue}
use Rattle.control.specs.body.Writing.{IsWrittenInPart}

-- all of a text was written but its end, which waits
pub record WritesAllBut (waiting : List ℕ) (before after : Option (List ℕ)) (text : List ℕ) : Type 0 where
  pub told : List ℕ
  pub is : text ≡ told ++ waiting
  pub written : Appends before after told

-- the bytes that wait were written, or a beginning of them if that failed; if a write had failed before, nothing was done
abbrev pub WritesWaiting : Result (Unit {0}) ReplayFault → List ℕ → OutputValue → OutputValue → Result (Unit {0}) ReplayFault → Type 0
WritesWaiting (Err WriteFailed) waiting before after result = (result ≡ Err WriteFailed) × (after ≡ before)
WritesWaiting answered waiting before after (Err WriteFailed) = IsWrittenInPart after.failures before.taken after.taken waiting
WritesWaiting answered waiting before after result = (result ≡ answered) × Appends before.taken after.taken waiting
