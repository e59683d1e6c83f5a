-- What was printed if a write failed.
use Rattle.std.proofs.Common.{◌≡◌, Err, Ok, Result}
use Rattle.std.specs.Prelude.{IfErr}
use Rattle.command_line.specs.declared.ending.Failure.{Failure}
use Rattle.command_line.specs.declared.ending.Failure.TheVariants.{WriteFailed}

pub begun_if : {A : Type 0} (P : Type 0) (result : Result A Failure) → P → IfErr result (λ failure. failure ≡ WriteFailed → P)
begun_if P (Ok value) holds = tt
begun_if P (Err failure) holds = λ is. holds
