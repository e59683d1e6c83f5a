-- How `serve` fails: what it wrote, and what it reports to people (docs/COMMANDS.md, "serve").
use Rattle.std.specs.Prelude.{◌≡◌, ◌≢◌, ◌++◌, List, Option, [], codes, ℕ}
use Rattle.command_line.specs.Ending.{AppendsBeginning, line_of}
use Rattle.command_line.specs.declared.ending.Failure.{Failure}
use Rattle.command_line.specs.declared.ending.Failure.TheVariants.{BindFailed, WriteFailed}
use Rattle.config_image.specs.Image.{Group}
use Rattle.serve_udp.specs.declared.bound.BindFault.{BindFault}
use Rattle.serve_udp.specs.declared.bound.BindFault.TheVariants.{Control, Front, OutOfMemory, Worker}
use Rattle.serve_udp.specs.Service.{BeginsServedFrom, IsServeFailure, WritesReadyOrNothing}

-- the socket that could not be bound; there is none if memory was refused
abbrev pub socket_name : BindFault → List ℕ
socket_name (Front error) = codes "--front"
socket_name (Control error) = codes "--control"
socket_name (Worker error) = codes "a worker's socket"
socket_name OutOfMemory = []

-- which socket could not be bound, and why; what the system says of that is its own
abbrev pub IsBindLine : BindFault → List ℕ → Type 0
IsBindLine fault line = (rest : List ℕ) × (line ≡ codes "cannot bind " ++ (socket_name fault ++ rest))

-- the line of a failure was appended; if a socket was not bound, why may come first. If a write fails, a beginning of either
pub data IsServeTold (failure : Failure) (before after : Option (List ℕ)) : Type 0 where
  told_alone : AppendsBeginning before after (line_of failure) → IsServeTold failure before after
  told_after_why : failure ≡ BindFailed → (fault : BindFault) (line : List ℕ) → IsBindLine fault line → (between : Option (List ℕ)) →
      AppendsBeginning before between line → AppendsBeginning between after (line_of failure) → IsServeTold failure before after

-- a switch that begins with these rules ended with a failure; if no write failed the line `ready` was written or nothing, and nothing if a
-- socket was not bound; if one failed, a beginning of what it writes for its workers
pub record FailsServing (opening : List Group) (workers : ℕ) (before after told_before told_after : Option (List ℕ)) (failure : Failure) : Type 0 where
  pub of_serve : IsServeFailure failure
  pub written : failure ≢ WriteFailed → WritesReadyOrNothing before after
  pub begun : failure ≡ WriteFailed → BeginsServedFrom opening workers before after
  pub not_bound : failure ≡ BindFailed → after ≡ before
  pub told : IsServeTold failure told_before told_after

abbrev pub EndsServing : List Group → ℕ → (before after told_before told_after : Option (List ℕ)) → Type 0
EndsServing opening workers before after told_before told_after =
    (failure : Failure) × FailsServing opening workers before after told_before told_after failure
