-- How a command ends that may read a file and write, by one cause.
use Rattle.std.proofs.Common.{◌≡◌, ◌≢◌, ◌⊎◌, Err, Ok, Result, inl, inr, refl, subst, sym, ℕ}
use Rattle.std.specs.Prelude.{IfErr, IfOk, OnErr}
use Rattle.command_line.specs.declared.ending.Failure.{Failure}
use Rattle.command_line.specs.declared.ending.Failure.TheVariants.{BindFailed, NoAnswer, OutOfMemory, PollFailed, ReadFailed, RulesChanged, SpawnFailed, WriteFailed}
use Rattle.command_line.specs.declared.ending.Status.{Status}
use Rattle.command_line.specs.declared.ending.Status.TheVariants.{Done, Failed, Misused, Refused}
use Rattle.command_streams.specs.Endings.{EndsByCause, EndsByOneCause}
use Rattle.command_streams.specs.Failures.{FailuresValue, HasCause, InputFails, OutputFails}
use Rattle.command_streams.proofs.OutputLemmas.{ends_once, ends_unread}

-- ---- causes

-- a file was not read
unread_cause : (A B : Type 0) (failure : Failure) (read read' : ℕ) (written : FailuresValue) → (failure ≡ ReadFailed) ⊎ (failure ≡ OutOfMemory)
    → InputFails {A = A} (Err failure) read read' → HasCause {A = B} (Err failure) read read' written written
unread_cause A B failure read read' written (inl is) input =
    subst (λ (f : Failure). HasCause {A = B} (Err f) read read' written written) (sym is)
    (subst (λ (f : Failure). InputFails {A = A} (Err f) read read') is input, refl)
unread_cause A B failure read read' written (inr is) input =
    subst (λ (f : Failure). HasCause {A = B} (Err f) read read' written written) (sym is)
    (subst (λ (f : Failure). InputFails {A = A} (Err f) read read') is input, refl)

-- no file was read
output_cause : (A B : Type 0) (failure : Failure) (read : ℕ) (written written' : FailuresValue) → failure ≢ ReadFailed
    → OutputFails {A = A} (Err failure) written written' → HasCause {A = B} (Err failure) read read written written'
output_cause A B ReadFailed read written written' other output = absurd (other refl)
output_cause A B WriteFailed read written written' other output = (refl, output)
output_cause A B OutOfMemory read written written' other output = (refl, output)
output_cause A B SpawnFailed read written written' other output = (refl, output)
output_cause A B BindFailed read written written' other output = (refl, output)
output_cause A B PollFailed read written written' other output = (refl, output)
output_cause A B NoAnswer read written written' other output = (refl, output)
output_cause A B RulesChanged read written written' other output = (refl, output)

pub write_unread : (failure : Failure) → failure ≡ WriteFailed → failure ≢ ReadFailed
write_unread failure is same = cc

-- ---- statuses

module _ (Reports : Failure → Type 0) where
  pub reads_once : (A : Type 0) (read read' : ℕ) (written : FailuresValue) (status : Status) (failure : Failure) → status ≡ Failed → Reports failure
      → (failure ≡ ReadFailed) ⊎ (failure ≡ OutOfMemory) → InputFails {A = A} (Err failure) read read'
      → EndsByOneCause Reports status read read' written written
  reads_once A read read' written status failure is reports cause input =
      ends_once Reports written written status failure read read' is reports (unread_cause A Status failure read read' written cause input)

  pub writes_once : (A : Type 0) (read read' : ℕ) (written written' : FailuresValue) (status : Status) (failure : Failure) → status ≡ Failed → Reports failure
      → failure ≢ ReadFailed → OutputFails {A = A} (Err failure) written written' → read' ≡ read → EndsByOneCause Reports status read read' written written'
  writes_once A read read' written written' status failure is reports other output kept =
      subst (λ (r : ℕ). EndsByOneCause Reports status read r written written') (sym kept)
      (ends_once Reports written written' status failure read read is reports (output_cause A Status failure read written written' other output))

  -- only the failure of a write may have been reported
  pub refuses_once : (read read' : ℕ) (written written' : FailuresValue) (status : Status) → read' ≡ read → (status ≡ Failed → Reports WriteFailed)
      → EndsByCause (λ failure. failure ≡ WriteFailed) status written written' → EndsByOneCause Reports status read read' written written'
  refuses_once read read' written written' status kept reports ends =
      subst (λ (r : ℕ). EndsByOneCause Reports status read r written written') (sym kept) (ends_unread Reports written written' status read reports ends)

  unfailed_once : (read : ℕ) (written written' : FailuresValue) (status : Status) → status ≢ Failed → written' ≡ written
      → EndsByOneCause Reports status read read written written'
  unfailed_once read written written' Done other kept = (refl, kept)
  unfailed_once read written written' Refused other kept = (refl, kept)
  unfailed_once read written written' Misused other kept = (refl, kept)
  unfailed_once read written written' Failed other kept = absurd (other refl)

  -- a command's end that is reported, if no file was read
  pub reported_once : (written written' : FailuresValue) (ended : Result Status Failure) (status : Status) → IfOk ended (λ given. status ≡ given)
      → OnErr ended (status ≡ Failed) → IfErr ended Reports → IfOk ended (λ given. given ≢ Failed) → OutputFails ended written written'
      → IfErr ended (λ failure. failure ≢ ReadFailed) → (read : ℕ) → EndsByOneCause Reports status read read written written'
  reported_once written written' (Ok given) status is failed reports other output unread read =
      subst (λ (s : Status). EndsByOneCause Reports s read read written written') (sym is) (unfailed_once read written written' given other output)
  reported_once written written' (Err failure) status is failed reports other output unread read =
      writes_once Status read read written written' status failure failed reports unread output refl

-- the same by another report
pub once_as : (Reports Reports' : Failure → Type 0) (read read' : ℕ) (written written' : FailuresValue) (status : Status)
    → ((failure : Failure) → Reports failure → Reports' failure) → EndsByOneCause Reports status read read' written written'
    → EndsByOneCause Reports' status read read' written written'
once_as Reports Reports' read read' written written' Done more ends = ends
once_as Reports Reports' read read' written written' Refused more ends = ends
once_as Reports Reports' read read' written written' Misused more ends = ends
once_as Reports Reports' read read' written written' Failed more (failure, reports, cause) = (failure, more failure reports, cause)
