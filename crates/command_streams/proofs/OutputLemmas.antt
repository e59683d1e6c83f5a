-- Failures of an output that are passed on or reported.
use Rattle.std.proofs.Common.{◌≡◌, ◌≢◌, Err, Ok, Result, ap, refl, subst, sym, ℕ}
use Rattle.std.specs.Prelude.{IfErr, IfOk, IsErrAnd, OnErr}
use Rattle.command_line.specs.declared.ending.Failure.{Failure}
use Rattle.command_line.specs.declared.ending.Failure.TheVariants.{BindFailed, NoAnswer, OutOfMemory, PollFailed, ReadFailed, RulesChanged, SpawnFailed, WriteFailed}
use Rattle.command_line.specs.declared.ending.Status.{Status}
use Rattle.command_line.specs.declared.ending.Status.TheVariants.{Done, Failed, Misused, Refused}
use Rattle.command_streams.specs.Endings.{CountsFailure, EndsByCause, EndsByOneCause}
use Rattle.command_streams.specs.Failures.{FailuresValue, HasCause, OutputFails}
use Rattle.command_streams.proofs.FailureLemmas.{cause_borrow}

-- a failure that is not that of a write
pub counts_none : (failure : Failure) (before after : FailuresValue) → failure ≢ WriteFailed → after ≡ before → CountsFailure failure before after
counts_none ReadFailed before after other kept = kept
counts_none WriteFailed before after other kept = absurd (other refl)
counts_none OutOfMemory before after other kept = kept
counts_none SpawnFailed before after other kept = kept
counts_none BindFailed before after other kept = kept
counts_none PollFailed before after other kept = kept
counts_none NoAnswer before after other kept = kept
counts_none RulesChanged before after other kept = kept

pub counts_failure : (A : Type 0) (failure : Failure) (before after : FailuresValue) → OutputFails {A = A} (Err failure) before after → CountsFailure failure before after
counts_failure A ReadFailed before after fails = fails
counts_failure A WriteFailed before after fails = fails
counts_failure A OutOfMemory before after fails = fails
counts_failure A SpawnFailed before after fails = fails
counts_failure A BindFailed before after fails = fails
counts_failure A PollFailed before after fails = fails
counts_failure A NoAnswer before after fails = fails
counts_failure A RulesChanged before after fails = fails

output_fails : (A : Type 0) (failure : Failure) (before after : FailuresValue) → CountsFailure failure before after → OutputFails {A = A} (Err failure) before after
output_fails A ReadFailed before after counts = counts
output_fails A WriteFailed before after counts = counts
output_fails A OutOfMemory before after counts = counts
output_fails A SpawnFailed before after counts = counts
output_fails A BindFailed before after counts = counts
output_fails A PollFailed before after counts = counts
output_fails A NoAnswer before after counts = counts
output_fails A RulesChanged before after counts = counts

-- no write was tried
pub fails_unwritten : {A : Type 0} (result : Result A Failure) (before after : FailuresValue) → IfErr result (λ failure. failure ≢ WriteFailed) → after ≡ before
    → OutputFails result before after
fails_unwritten (Ok value) before after other kept = kept
fails_unwritten {A = A} (Err failure) before after other kept = output_fails A failure before after (counts_none failure before after other kept)

-- the same of an error that is passed on
pub fails_otherwise : {A : Type 0} (result : Result A Failure) (failure : Failure) (before after : FailuresValue) → IsErrAnd result (λ given. given ≡ failure)
    → failure ≢ WriteFailed → after ≡ before → OutputFails result before after
fails_otherwise (Ok value) failure before after is other kept = kept
fails_otherwise {A = A} (Err given) failure before after is other kept =
    output_fails A given before after (subst (λ (f : Failure). CountsFailure f before after) (sym is) (counts_none failure before after other kept))

-- an error of a call that wrote is passed on
pub fails_alike : {A : Type 0} (B : Type 0) (result : Result A Failure) (failure : Failure) (before mid after : FailuresValue) → IsErrAnd result (λ given. given ≡ failure)
    → mid ≡ before → OutputFails {A = B} (Err failure) mid after → OutputFails result before after
fails_alike B (Ok value) failure before mid after is kept fails = absurd is
fails_alike {A = A} B (Err given) failure before mid after is kept fails =
    subst (λ (n : FailuresValue). OutputFails {A = A} (Err given) n after) kept
    (output_fails A given mid after (subst (λ (f : Failure). CountsFailure f mid after) (sym is) (counts_failure B failure mid after fails)))

-- ---- statuses

module _ (Reports : Failure → Type 0) (before after : FailuresValue) where
  pub ends_in_failure : (status : Status) (failure : Failure) → status ≡ Failed → Reports failure → CountsFailure failure before after
      → EndsByCause Reports status before after
  ends_in_failure status failure is reports counts = subst (λ (s : Status). EndsByCause Reports s before after) (sym is) (failure, reports, counts)

  pub ends_unfailed : (status : Status) → status ≢ Failed → after ≡ before → EndsByCause Reports status before after
  ends_unfailed Done other kept = kept
  ends_unfailed Refused other kept = kept
  ends_unfailed Misused other kept = kept
  ends_unfailed Failed other kept = absurd (other refl)

  -- only the failure of a write was reported
  pub ends_unwritten : (status : Status) → (status ≡ Failed → Reports WriteFailed) → EndsByCause (λ failure. failure ≡ WriteFailed) status before after
      → EndsByCause Reports status before after
  ends_unwritten Done reports ends = ends
  ends_unwritten Refused reports ends = ends
  ends_unwritten Misused reports ends = ends
  ends_unwritten Failed reports (failure, is, counts) = (WriteFailed, reports refl, subst (λ (f : Failure). CountsFailure f before after) is counts)

  -- a command's end, of which a failure is reported
  pub ends_reported : (ended : Result Status Failure) (status : Status) → IfOk ended (λ given. status ≡ given) → OnErr ended (status ≡ Failed)
      → IfErr ended Reports → IfOk ended (λ given. given ≢ Failed) → OutputFails ended before after → EndsByCause Reports status before after
  ends_reported (Ok given) status is failed reports other fails =
      subst (λ (s : Status). EndsByCause Reports s before after) (sym is) (ends_unfailed given other fails)
  ends_reported (Err failure) status is failed reports other fails =
      ends_in_failure status failure failed reports (counts_failure Status failure before after fails)

  -- the same of a command that may read
  pub ends_once : (status : Status) (failure : Failure) (read read' : ℕ) → status ≡ Failed → Reports failure
      → HasCause {A = Status} (Err failure) read read' before after → EndsByOneCause Reports status read read' before after
  ends_once status failure read read' is reports cause =
      subst (λ (s : Status). EndsByOneCause Reports s read read' before after) (sym is) (failure, reports, cause)

  pub ends_unread : (status : Status) (read : ℕ) → (status ≡ Failed → Reports WriteFailed) → EndsByCause (λ failure. failure ≡ WriteFailed) status before after
      → EndsByOneCause Reports status read read before after
  ends_unread Done read reports ends = (refl, ends)
  ends_unread Refused read reports ends = (refl, ends)
  ends_unread Misused read reports ends = (refl, ends)
  ends_unread Failed read reports (failure, is, counts) =
      (WriteFailed, reports refl, (refl, subst (λ (f : Failure). CountsFailure f before after) is counts))

-- the same by another report
pub ends_as : (Reports Reports' : Failure → Type 0) (before after : FailuresValue) (status : Status) → ((failure : Failure) → Reports failure → Reports' failure)
    → EndsByCause Reports status before after → EndsByCause Reports' status before after
ends_as Reports Reports' before after Done more ends = ends
ends_as Reports Reports' before after Refused more ends = ends
ends_as Reports Reports' before after Misused more ends = ends
ends_as Reports Reports' before after Failed more (failure, reports, counts) = (failure, more failure reports, counts)

-- ---- the borrow stays the same

counts_borrow : (failure : Failure) (before after : FailuresValue) → CountsFailure failure before after → after.borrow ≡ before.borrow
counts_borrow ReadFailed before after counts = ap (λ (f : FailuresValue). f.borrow) counts
counts_borrow WriteFailed before after counts = ap (λ (f : FailuresValue). f.borrow) counts
counts_borrow OutOfMemory before after counts = ap (λ (f : FailuresValue). f.borrow) counts
counts_borrow SpawnFailed before after counts = ap (λ (f : FailuresValue). f.borrow) counts
counts_borrow BindFailed before after counts = ap (λ (f : FailuresValue). f.borrow) counts
counts_borrow PollFailed before after counts = ap (λ (f : FailuresValue). f.borrow) counts
counts_borrow NoAnswer before after counts = ap (λ (f : FailuresValue). f.borrow) counts
counts_borrow RulesChanged before after counts = ap (λ (f : FailuresValue). f.borrow) counts

pub ends_borrow : (Reports : Failure → Type 0) (status : Status) (before after : FailuresValue) → EndsByCause Reports status before after
    → after.borrow ≡ before.borrow
ends_borrow Reports Done before after ends = ap (λ (f : FailuresValue). f.borrow) ends
ends_borrow Reports Refused before after ends = ap (λ (f : FailuresValue). f.borrow) ends
ends_borrow Reports Misused before after ends = ap (λ (f : FailuresValue). f.borrow) ends
ends_borrow Reports Failed before after (failure, reports, counts) = counts_borrow failure before after counts

pub once_borrow : (Reports : Failure → Type 0) (status : Status) (read read' : ℕ) (before after : FailuresValue)
    → EndsByOneCause Reports status read read' before after → after.borrow ≡ before.borrow
once_borrow Reports Done read read' before after ends = ap (λ (f : FailuresValue). f.borrow) ends.1
once_borrow Reports Refused read read' before after ends = ap (λ (f : FailuresValue). f.borrow) ends.1
once_borrow Reports Misused read read' before after ends = ap (λ (f : FailuresValue). f.borrow) ends.1
once_borrow Reports Failed read read' before after (failure, reports, cause) = cause_borrow {A = Status} (Err failure) read read' before after cause
