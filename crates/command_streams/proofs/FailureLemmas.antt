-- Failures of devices, and their causes.
use Rattle.std.proofs.Common.{◌≡◌, ◌==◌, ◌⊎◌, Bool, Err, List, None, Ok, Option, Result, ap, false, if◌then◌else◌, inl, inr, refl, true, ℕ}
use Rattle.std.specs.Prelude.{IfErr}
use Rattle.dispatch.specs.Memory.{MOST_FAILURES}
use Rattle.control.specs.Streams.{InputValue}
use Rattle.command_line.specs.Input.{IsInput}
use Rattle.command_line.specs.declared.ending.Failure.{Failure}
use Rattle.command_line.specs.declared.ending.Failure.TheVariants.{BindFailed, NoAnswer, OutOfMemory, PollFailed, ReadFailed, RulesChanged, SpawnFailed, WriteFailed}
use Rattle.command_streams.specs.Failures.{FailuresValue, HasCause, InputFails, OutputFails, known_after}

-- what is known of an input after a call is known of it before
pub is_known_after : (input input' : InputValue) (bytes : List ℕ) → IsInput input.coming bytes → IsInput (known_after input input') bytes
is_known_after input input' bytes is = forgotten (input'.failures == MOST_FAILURES) input.coming is
  where
    forgotten : (most : Bool) (known : Option (List ℕ)) → IsInput known bytes → IsInput (if most then None else known) bytes
    forgotten true known is = tt
    forgotten false known is = is

-- only a write may have failed
pub write_cause : {A : Type 0} (result : Result A Failure) (read read' : ℕ) (written written' : FailuresValue) → IfErr result (λ failure. (failure ≡ WriteFailed) ⊎ (failure ≡ OutOfMemory)) → read' ≡ read
    → OutputFails result written written' → HasCause result read read' written written'
write_cause (Ok answer) read read' written written' failed kept output = (kept, output)
write_cause (Err ReadFailed) read read' written written' failed kept output = elim failed [ inl e ↦ cc | inr e ↦ cc ]
write_cause (Err WriteFailed) read read' written written' failed kept output = (kept, output)
write_cause (Err OutOfMemory) read read' written written' failed kept output = (kept, output)
write_cause (Err SpawnFailed) read read' written written' failed kept output = (kept, output)
write_cause (Err BindFailed) read read' written written' failed kept output = (kept, output)
write_cause (Err PollFailed) read read' written written' failed kept output = (kept, output)
write_cause (Err NoAnswer) read read' written written' failed kept output = (kept, output)
write_cause (Err RulesChanged) read read' written written' failed kept output = (kept, output)

-- only a read may have failed
pub read_cause : {A : Type 0} (result : Result A Failure) (read read' : ℕ) (written : FailuresValue) → IfErr result (λ failure. (failure ≡ ReadFailed) ⊎ (failure ≡ OutOfMemory))
    → InputFails result read read' → HasCause result read read' written written
read_cause (Ok answer) read read' written failed input = (input, refl)
read_cause (Err ReadFailed) read read' written failed input = (input, refl)
read_cause (Err WriteFailed) read read' written failed input = elim failed [ inl e ↦ cc | inr e ↦ cc ]
read_cause (Err OutOfMemory) read read' written failed input = (input, refl)
read_cause (Err SpawnFailed) read read' written failed input = (input, refl)
read_cause (Err BindFailed) read read' written failed input = (input, refl)
read_cause (Err PollFailed) read read' written failed input = (input, refl)
read_cause (Err NoAnswer) read read' written failed input = (input, refl)
read_cause (Err RulesChanged) read read' written failed input = (input, refl)

-- the failure of a call that may read and write
pub both_causes : (A B : Type 0) (failure : Failure) (read read' : ℕ) (written written' : FailuresValue) → InputFails {A = A} (Err failure) read read'
    → OutputFails {A = A} (Err failure) written written' → HasCause {A = B} (Err failure) read read' written written'
both_causes A B ReadFailed read read' written written' input output = (input, output)
both_causes A B WriteFailed read read' written written' input output = (input, output)
both_causes A B OutOfMemory read read' written written' input output = (input, output)
both_causes A B SpawnFailed read read' written written' input output = (input, output)
both_causes A B BindFailed read read' written written' input output = (input, output)
both_causes A B PollFailed read read' written written' input output = (input, output)
both_causes A B NoAnswer read read' written written' input output = (input, output)
both_causes A B RulesChanged read read' written written' input output = (input, output)

-- ---- the borrow stays the same

pub cause_borrow : {A : Type 0} (result : Result A Failure) (read read' : ℕ) (written written' : FailuresValue) → HasCause result read read' written written'
    → written'.borrow ≡ written.borrow
cause_borrow (Ok answer) read read' written written' cause = ap (λ (f : FailuresValue). f.borrow) cause.1
cause_borrow (Err ReadFailed) read read' written written' cause = ap (λ (f : FailuresValue). f.borrow) cause.1
cause_borrow (Err WriteFailed) read read' written written' cause = ap (λ (f : FailuresValue). f.borrow) cause.1
cause_borrow (Err OutOfMemory) read read' written written' cause = ap (λ (f : FailuresValue). f.borrow) cause.1
cause_borrow (Err SpawnFailed) read read' written written' cause = ap (λ (f : FailuresValue). f.borrow) cause.1
cause_borrow (Err BindFailed) read read' written written' cause = ap (λ (f : FailuresValue). f.borrow) cause.1
cause_borrow (Err PollFailed) read read' written written' cause = ap (λ (f : FailuresValue). f.borrow) cause.1
cause_borrow (Err NoAnswer) read read' written written' cause = ap (λ (f : FailuresValue). f.borrow) cause.1
cause_borrow (Err RulesChanged) read read' written written' cause = ap (λ (f : FailuresValue). f.borrow) cause.1
