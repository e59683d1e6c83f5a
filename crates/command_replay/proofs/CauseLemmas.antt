-- Causes of a replay that failed, whose last flush may fail, too.
use Rattle.std.proofs.Common.{◌≡◌, ◌⊎◌, ◌∙◌, Bool, Err, Ok, Result, ap, false, inl, inr, suc, true, ℕ}
use Rattle.control.specs.declared.fault.ReplayFault.{ReplayFault}
use Rattle.control.specs.declared.fault.ReplayFault.TheVariants as fault
use Rattle.control.specs.Replay.{FailedBy}
use Rattle.control.specs.Streams.{InputValue, OutputValue}
use Rattle.command_replay.specs.body.Opened.{failures_after}
use Rattle.command_line.specs.declared.ending.Failure.{Failure}
use Rattle.command_line.specs.declared.ending.Failure.TheVariants.{BindFailed, NoAnswer, OutOfMemory, PollFailed, ReadFailed, RulesChanged, SpawnFailed, WriteFailed}
use Rattle.command_streams.specs.Failures.{CountsUpTo, FailuresValue, HasCause, one_more}
use Rattle.dispatch.specs.declared.device.Failed.{Failed}
use Rattle.std.specs.Result.{is_err}
use Rattle.command_replay.specs.Replaying.{HasCauseThenFlush, ReplayHasCause}

-- the flush need not fail
pub then_flush : {A : Type 0} (result : Result A Failure) (read read' : ℕ) (written written' : FailuresValue) → HasCause result read read' written written'
    → HasCauseThenFlush result read read' written written'
then_flush (Ok answer) read read' written written' cause = cause
then_flush (Err ReadFailed) read read' written written' cause = cause
then_flush (Err WriteFailed) read read' written written' cause = inl (cause.0, inl cause.1)
then_flush (Err OutOfMemory) read read' written written' cause = cause
then_flush (Err SpawnFailed) read read' written written' cause = cause
then_flush (Err BindFailed) read read' written written' cause = cause
then_flush (Err PollFailed) read read' written written' cause = cause
then_flush (Err NoAnswer) read read' written written' cause = cause
then_flush (Err RulesChanged) read read' written written' cause = cause

pub replay_then_flush : {A : Type 0} (quiet : Bool) (result : Result A Failure) (read read' : ℕ) (written written' : FailuresValue)
    → ReplayHasCause quiet result read read' written written' → HasCauseThenFlush result read read' written written'
replay_then_flush false result read read' written written' cause = cause
replay_then_flush true result read read' written written' cause = then_flush result read read' written written' cause

-- the input failed at most once
pub reads_once : (A : Type 0) (failure : Failure) (read read' : ℕ) (written written' : FailuresValue) → HasCauseThenFlush {A = A} (Err failure) read read' written written'
    → (read' ≡ read) ⊎ (read' ≡ suc read)
reads_once A ReadFailed read read' written written' cause = inr cause.0
reads_once A WriteFailed read read' written written' cause = elim cause [ inl none ↦ inl none.0 | inr once ↦ inr once.0 ]
reads_once A OutOfMemory read read' written written' cause = inl cause.0
reads_once A SpawnFailed read read' written written' cause = inl cause.0
reads_once A BindFailed read read' written written' cause = inl cause.0
reads_once A PollFailed read read' written written' cause = inl cause.0
reads_once A NoAnswer read read' written written' cause = inl cause.0
reads_once A RulesChanged read read' written written' cause = inl cause.0

pub flush_failed : (result : Result (Unit {0}) Failed) (before after : FailuresValue) → is_err result ≡ true → CountsUpTo result before after → after ≡ one_more before
flush_failed (Ok done) before after is counts = absurd cc
flush_failed (Err why) before after is counts = counts

-- the replies could not be flushed after a replay over a new output
pub flush_cause : (A : Type 0) (result : Result (Unit {0}) ReplayFault) (input input' : InputValue) (output output' : OutputValue) (opened mid after : FailuresValue)
    → output.failures ≡ 0 → FailedBy result input input' output output' → mid ≡ failures_after output'.failures opened → after ≡ one_more mid
    → HasCauseThenFlush {A = A} (Err WriteFailed) input.failures input'.failures opened after
flush_cause A result input input' output output' opened mid after none failed left flushed = flushed_by result failed
  where
    so_often : (n : ℕ) → output'.failures ≡ n → after ≡ one_more (failures_after n opened)
    so_often n is = flushed ∙ ap one_more (left ∙ ap (λ m. failures_after m opened) is)

    flushed_by : (result : Result (Unit {0}) ReplayFault) → FailedBy result input input' output output'
        → HasCauseThenFlush {A = A} (Err WriteFailed) input.failures input'.failures opened after
    flushed_by (Ok done) failed = inl (failed.0, inl (so_often 0 (failed.1 ∙ none)))
    flushed_by (Err fault.ReadFailed) failed = inr (failed.0, so_often 0 (failed.1 ∙ none))
    flushed_by (Err fault.WriteFailed) failed = inl (failed.0, inr (so_often 1 (failed.1 ∙ ap suc none)))
    flushed_by (Err fault.OutOfMemory) failed = inl (failed.0, inl (so_often 0 (failed.1 ∙ none)))

-- ---- the borrow stays the same

pub flush_borrow : {A : Type 0} (result : Result A Failure) (read read' : ℕ) (written written' : FailuresValue) → HasCauseThenFlush result read read' written written'
    → written'.borrow ≡ written.borrow
flush_borrow (Ok answer) read read' written written' cause = ap (λ (f : FailuresValue). f.borrow) cause.1
flush_borrow (Err ReadFailed) read read' written written' cause = ap (λ (f : FailuresValue). f.borrow) cause.1
flush_borrow (Err WriteFailed) read read' written written' cause = elim cause [
  | inl none ↦ elim none.1 [ inl one ↦ ap (λ (f : FailuresValue). f.borrow) one | inr two ↦ ap (λ (f : FailuresValue). f.borrow) two ]
  | inr once ↦ ap (λ (f : FailuresValue). f.borrow) once.1
]
flush_borrow (Err OutOfMemory) read read' written written' cause = ap (λ (f : FailuresValue). f.borrow) cause.1
flush_borrow (Err SpawnFailed) read read' written written' cause = ap (λ (f : FailuresValue). f.borrow) cause.1
flush_borrow (Err BindFailed) read read' written written' cause = ap (λ (f : FailuresValue). f.borrow) cause.1
flush_borrow (Err PollFailed) read read' written written' cause = ap (λ (f : FailuresValue). f.borrow) cause.1
flush_borrow (Err NoAnswer) read read' written written' cause = ap (λ (f : FailuresValue). f.borrow) cause.1
flush_borrow (Err RulesChanged) read read' written written' cause = ap (λ (f : FailuresValue). f.borrow) cause.1
