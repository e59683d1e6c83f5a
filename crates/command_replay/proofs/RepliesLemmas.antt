-- What a replay that failed has written, told of the input and the output that it was given.
use Rattle.std.proofs.Common.{◌≡◌, ◌==◌, ◌∙◌, ◌<◌, ◌++◌, Bool, Err, List, None, Ok, Option, Result, Some, [], ap, append_assoc, arith, false, if◌then◌else◌, inl, inr, refl, subst, suc, sym, true, ℕ}
use Rattle.std.proofs.lemmas.List.{append-nil}
use Rattle.std.specs.Prelude.{OnOk}
use Rattle.std.specs.Io.KnownBytes.{Appends, Consumes, IsAtEnd, Keeps}
use Rattle.dispatch.specs.Memory.{MOST_FAILURES}
use Rattle.control.specs.declared.fault.ReplayFault.{ReplayFault}
use Rattle.control.specs.declared.fault.ReplayFault.TheVariants as fault
use Rattle.control.specs.Replay.{AnsweredAllLines, AnsweredFirstLines, FailedBy, IsReplayed, IsTextOfLines, WasRead, WasWritten, WroteBeginning}
use Rattle.control.specs.Script.{at_start, no_request}
use Rattle.control.specs.Streams.{InputValue, OutputValue}
use Rattle.command_line.specs.declared.ending.Failure.{Failure}
use Rattle.command_line.specs.declared.ending.Failure.TheVariants.{WriteFailed}
use Rattle.command_replay.specs.body.Failing.{failure_of_replay}
use Rattle.command_line.specs.Input.{BeginsInput, IsInput}
use Rattle.command_replay.specs.Replaying.{AreRepliesTo, IsTextOfInput, RepliesBefore, RepliesToFirstLines}
use Rattle.command_streams.specs.Failures.{known_after}
use Rattle.command_streams.proofs.FailureLemmas.{is_known_after}
use Rattle.std.proofs.KnownBytes.{Appends-kept, Appends-nil}

-- ---- what was read

begins : (known coming : Option (List ℕ)) (lines rest : List ℕ) → Consumes known coming (lines ++ rest) → BeginsInput known lines
begins None coming lines rest read = tt
begins (Some bytes) None lines rest read = absurd read
begins (Some bytes) (Some later) lines rest read = (rest ++ later, read ∙ append_assoc lines rest later)

-- what was read up to a failed read, unless that was the last failure that can be counted
begins_if : (input input' : InputValue) (lines part : List ℕ) → WasRead input'.failures input.coming input'.coming (lines ++ part) → BeginsInput (known_after input input') lines
begins_if input input' lines part read = begins_told input.coming input'.coming read (input'.failures == MOST_FAILURES) refl
  where
    begins_told : (known coming : Option (List ℕ)) → WasRead input'.failures known coming (lines ++ part) → (most : Bool) → (input'.failures == MOST_FAILURES) ≡ most → BeginsInput (if most then None else known) lines
    begins_told known coming read true is = tt
    begins_told None coming read false is = tt
    begins_told (Some bytes) None read false is = absurd cc
    begins_told (Some bytes) (Some later) read false is = (part ++ later, read ∙ append_assoc lines part later)

begins_known : (input input' : InputValue) (lines : List ℕ) → BeginsInput input.coming lines → BeginsInput (known_after input input') lines
begins_known input input' lines begins = forgotten (input'.failures == MOST_FAILURES)
  where
    forgotten : (most : Bool) → BeginsInput (if most then None else input.coming) lines
    forgotten true = tt
    forgotten false = begins

pub answered_known : (input input' : InputValue) (replies : List ℕ) → AreRepliesTo input.coming replies → AreRepliesTo (known_after input input') replies
answered_known input input' replies all = record { script = all.script; whole = is_known_after input input' all.script all.whole; are = all.are }

is_whole : (known coming : Option (List ℕ)) (script : List ℕ) → Consumes known coming script → IsAtEnd coming → IsInput known script
is_whole None coming script read end = tt
is_whole (Some bytes) None script read end = absurd read
is_whole (Some bytes) (Some later) script read end = sym (read ∙ (ap (λ rest. script ++ rest) end ∙ append-nil script))

text_of : (input input' : InputValue) (lines rest text : List ℕ) → Consumes input.coming input'.coming (lines ++ rest) → IsTextOfLines input' lines rest text
    → IsTextOfInput (known_after input input') text
text_of input input' lines rest text read (inl answered) =
    inl (lines, answered.0, begins_known input input' lines (begins input.coming input'.coming lines rest read), answered.1)
text_of input input' lines rest text read (inr whole) =
    let all = subst (Consumes input.coming input'.coming) (ap (λ r. lines ++ r) whole.0 ∙ append-nil lines) read in
    inr (answered_known input input' text (record { script = lines; whole = is_whole input.coming input'.coming lines all whole.1; are = whole.2 }))

-- ---- what was written

written_if : (failures : ℕ) (before after : Option (List ℕ)) (told : List ℕ) → (failures ≡ MOST_FAILURES → ⊥) → WasWritten failures before after told → Appends before after told
written_if failures None after told few written = tt
written_if failures (Some bytes) None told few written = absurd (few written)
written_if failures (Some bytes) (Some later) told few written = written

-- whole replies are a beginning of them
begun_before : (why : ReplayFault) (known before after : Option (List ℕ)) → RepliesBefore (failure_of_replay why) known before after → RepliesBefore WriteFailed known before after
begun_before fault.ReadFailed known before after first =
    (first.text, inl (first.lines, first.last, first.read, first.answered), (first.text, [], first.written, sym (append-nil first.text)))
begun_before fault.WriteFailed known before after begun = begun
begun_before fault.OutOfMemory known before after first =
    (first.text, inl (first.lines, first.last, first.read, first.answered), (first.text, [], first.written, sym (append-nil first.text)))

module _ (input input' : InputValue) (output output' : OutputValue) (now after : Option (List ℕ)) (new_output : output.failures ≡ 0)
    (told : output'.failures < MOST_FAILURES → now ≡ output'.taken) (kept : Keeps now after) where
  appended : (text : List ℕ) → output'.failures < MOST_FAILURES → Appends output.taken output'.taken text → Appends output.taken after text
  appended text few written = Appends-kept output.taken now after text (subst (λ taken. Appends output.taken taken text) (sym (told few)) written) kept

  -- a fault ended it
  pub before_fault : (result : Result (Unit {0}) ReplayFault) (why : ReplayFault) → result ≡ Err why
      → (result ≡ Err fault.ReadFailed → AnsweredAllLines input input' output output')
      → (result ≡ Err fault.WriteFailed → WroteBeginning input input' output output')
      → (result ≡ Err fault.OutOfMemory → AnsweredFirstLines input input' output output')
      → FailedBy result input input' output output'
      → RepliesBefore (failure_of_replay why) (known_after input input') output.taken after
  before_fault (Ok done) why is at_read at_write at_memory failed = absurd (cc is)
  before_fault (Err fault.ReadFailed) fault.ReadFailed is at_read at_write at_memory failed =
      let all = at_read refl in
      let none : output'.failures ≡ 0 = failed.1 ∙ new_output in
      record {
        lines = all.lines;
        text = all.text;
        last = all.last;
        read = begins_if input input' all.lines all.part all.read;
        answered = all.answered;
        written = appended all.text (omega arith) all.written;
      }
  before_fault (Err fault.WriteFailed) fault.WriteFailed is at_read at_write at_memory failed =
      let cut = at_write refl in
      let once : output'.failures ≡ 1 = failed.1 ∙ ap suc new_output in (
        cut.text,
        text_of input input' cut.lines cut.rest cut.text cut.read cut.is_text,
        (cut.told, cut.untold, appended cut.told (omega arith) (written_if output'.failures output.taken output'.taken cut.told (λ most. absurd (omega (arith, once, most))) cut.written), cut.beginning),
      )
  before_fault (Err fault.OutOfMemory) fault.OutOfMemory is at_read at_write at_memory failed =
      let some = at_memory refl in
      let none : output'.failures ≡ 0 = failed.1 ∙ new_output in
      record {
        lines = some.lines;
        text = some.text;
        last = some.last;
        read = begins_known input input' some.lines (begins input.coming input'.coming some.lines some.rest some.read);
        answered = some.answered;
        written = appended some.text (omega arith) some.written;
      }
  before_fault (Err _) _ is at_read at_write at_memory failed = absurd (cc is)

  -- the replies could not be flushed
  pub before_failed_flush : (result : Result (Unit {0}) ReplayFault) → OnOk result (IsReplayed input input' output output')
      → (result ≡ Err fault.ReadFailed → AnsweredAllLines input input' output output')
      → (result ≡ Err fault.WriteFailed → WroteBeginning input input' output output')
      → (result ≡ Err fault.OutOfMemory → AnsweredFirstLines input input' output output')
      → FailedBy result input input' output output'
      → RepliesBefore WriteFailed (known_after input input') output.taken after
  before_failed_flush (Ok done) all at_read at_write at_memory failed =
      let none : output'.failures ≡ 0 = failed.1 ∙ new_output in (
        all.text,
        inr (answered_known input input' all.text (record { script = all.script; whole = is_whole input.coming input'.coming all.script all.read all.to_the_end; are = all.is_text })),
        (all.text, [], appended all.text (omega arith) all.written, sym (append-nil all.text)),
      )
  before_failed_flush (Err why) all at_read at_write at_memory failed =
      begun_before why (known_after input input') output.taken after (before_fault (Err why) why refl at_read at_write at_memory failed)

-- the same of an output over a new destination
module _ (input input' : InputValue) (output output' : OutputValue) (before now after : Option (List ℕ)) (opened : output ≡ record { failures = 0; taken = before })
    (told : output'.failures < MOST_FAILURES → now ≡ output'.taken) (kept : Keeps now after) where
  of_output : (failure : Failure) → RepliesBefore failure (known_after input input') output.taken after → RepliesBefore failure (known_after input input') before after
  of_output failure written = subst (λ taken. RepliesBefore failure (known_after input input') taken after) (ap (λ (o : OutputValue). o.taken) opened) written

  no_output_failure : output.failures ≡ 0
  no_output_failure = ap (λ (o : OutputValue). o.failures) opened

  pub fault_told : (result : Result (Unit {0}) ReplayFault) (why : ReplayFault) → result ≡ Err why
      → (result ≡ Err fault.ReadFailed → AnsweredAllLines input input' output output')
      → (result ≡ Err fault.WriteFailed → WroteBeginning input input' output output')
      → (result ≡ Err fault.OutOfMemory → AnsweredFirstLines input input' output output')
      → FailedBy result input input' output output'
      → RepliesBefore (failure_of_replay why) (known_after input input') before after
  fault_told result why is at_read at_write at_memory failed =
      of_output (failure_of_replay why) (before_fault input input' output output' now after no_output_failure told kept result why is at_read at_write at_memory failed)

  pub failed_flush_told : (result : Result (Unit {0}) ReplayFault) → OnOk result (IsReplayed input input' output output')
      → (result ≡ Err fault.ReadFailed → AnsweredAllLines input input' output output')
      → (result ≡ Err fault.WriteFailed → WroteBeginning input input' output output')
      → (result ≡ Err fault.OutOfMemory → AnsweredFirstLines input input' output output')
      → FailedBy result input input' output output'
      → RepliesBefore WriteFailed (known_after input input') before after
  failed_flush_told result all at_read at_write at_memory failed =
      of_output WriteFailed (before_failed_flush input input' output output' now after no_output_failure told kept result all at_read at_write at_memory failed)

-- ---- nothing was written

pub begins_with_none : (known before : Option (List ℕ)) → RepliesToFirstLines known before before
begins_with_none known before = record {
  lines = [];
  text = [];
  last = at_start;
  read = begins_nothing known;
  answered = no_request;
  written = Appends-nil before;
}
  where
    begins_nothing : (known : Option (List ℕ)) → BeginsInput known []
    begins_nothing None = tt
    begins_nothing (Some bytes) = (bytes, refl)
