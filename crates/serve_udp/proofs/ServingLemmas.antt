-- Failures of the service.
use Rattle.std.proofs.Common.{◌≡◌, ◌≢◌, ◌⊎◌, Err, IfErr, Ok, Option, List, Result, inr, rules, subst, ℕ}
use Rattle.command_line.specs.declared.ending.Failure.{Failure}
use Rattle.command_line.specs.declared.ending.Failure.TheVariants.{WriteFailed}
use Rattle.command_line.specs.declared.control_address.ControlAddress.{ControlAddress}
use Rattle.config_image.specs.Image.{Group}
use Rattle.dispatch.specs.Batch.{Parts}
use Rattle.command_line.specs.Ending.{AppendsBeginning}
use Rattle.ipv4_fields.specs.declared.endpoint.Endpoint.{Endpoint}
use Rattle.serve_udp.specs.Service.{BeginsCounted, HasReady, IsServeFailure, WritesReady, WritesReadyOrNothing}

pub write_is_of_serve : (failure : Failure) → failure ≡ WriteFailed → IsServeFailure failure
write_is_of_serve failure is = search rules

-- the only failure is that of a write
pub only_writes : {A : Type 0} (result : Result A Failure) → IfErr result (λ failure. failure ≡ WriteFailed) → IfErr result IsServeFailure
only_writes {A = A} (Ok done) failed = failed
only_writes {A = A} (Err failure) failed = write_is_of_serve failure failed

pub only_writes_end : {A : Type 0} (result : Result A Failure) (before after : Option (List ℕ)) → IfErr result (λ failure. failure ≡ WriteFailed)
    → IfErr result (λ failure. failure ≢ WriteFailed → WritesReadyOrNothing before after)
only_writes_end {A = A} (Ok done) before after failed = failed
only_writes_end {A = A} (Err failure) before after failed = λ other. absurd (other failed)

-- if that failed, a beginning of the line of totals was written
pub begins_totals : {A : Type 0} (result : Result A Failure) (control : ControlAddress) (opening : List Group) (AreStarts : List Parts → Type 0)
    (before after : Option (List ℕ)) → BeginsCounted control opening AreStarts before after
    → IfErr result (λ failure. failure ≡ WriteFailed → BeginsCounted control opening AreStarts before after)
begins_totals (Ok done) control opening AreStarts before after begun = tt
begins_totals (Err failure) control opening AreStarts before after begun = λ is. begun

-- if that failed, the line `ready` was written whole
pub has_ready : {A : Type 0} (result : Result A Failure) (Quiet : Type 0) (before between after : Option (List ℕ)) (front : Endpoint) (control : ControlAddress) (text : List ℕ)
    → WritesReady front control before between → AppendsBeginning between after text → IfErr result (λ failure. failure ≡ WriteFailed → Quiet ⊎ HasReady front control before after)
has_ready (Ok done) Quiet before between after front control text ready begun = tt
has_ready (Err failure) Quiet before between after front control text ready (told, left, appended, whole) = λ is. inr (between, told, ready, appended)

pub begun_weaker : {A : Type 0} (result : Result A Failure) (P Q : Type 0) → (P → Q) → IfErr result (λ failure. failure ≡ WriteFailed → P)
    → IfErr result (λ failure. failure ≡ WriteFailed → Q)
begun_weaker (Ok done) P Q weaker begun = tt
begun_weaker (Err failure) P Q weaker begun = λ is. weaker (begun is)

pub begun_between : {A : Type 0} (result : Result A Failure) (P : Option (List ℕ) → Option (List ℕ) → Type 0) (before before' after after' : Option (List ℕ))
    → before ≡ before' → after ≡ after' → IfErr result (λ failure. failure ≡ WriteFailed → P before after) → IfErr result (λ failure. failure ≡ WriteFailed → P before' after')
begun_between result P before before' after after' first last begun =
    subst (λ bytes. IfErr result (λ failure. failure ≡ WriteFailed → P before' bytes)) last
    (subst (λ bytes. IfErr result (λ failure. failure ≡ WriteFailed → P bytes after)) first begun)

-- a failure that is not that of a write leaves nothing to say of one
pub never_written : {A : Type 0} (result : Result A Failure) (Said : Type 0) → IfErr result (λ failure. failure ≢ WriteFailed) → IfErr result (λ failure. failure ≡ WriteFailed → Said)
never_written {A = A} (Ok done) Said not = not
never_written {A = A} (Err failure) Said not = λ is. absurd (not is)
