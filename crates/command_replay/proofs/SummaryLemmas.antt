-- Replies that were counted as they were written, and their summary.
use Rattle.std.proofs.Common.{◌≡◌, ◌∙◌, ◌<◌, ◌++◌, ◌⊎◌, Err, List, None, Ok, Option, Result, Some, [], ap, append_assoc, arith, false, inl, inr, refl, subst, sym, true, ℕ}
use Rattle.std.specs.Prelude.{IfErr, IfOk, OnOk}
use Rattle.std.specs.Io.KnownBytes.{Appends, Keeps}
use Rattle.dispatch.specs.Memory.{MOST_FAILURES}
use Rattle.control.specs.declared.fault.ReplayFault.{ReplayFault}
use Rattle.control.specs.declared.fault.ReplayFault.TheVariants as fault
use Rattle.control.specs.Replay.{AnsweredAllLines, AnsweredFirstLines, FailedBy, IsReplayed, WasWritten, WroteBeginning}
use Rattle.control.specs.Streams.{InputValue, OutputValue}
use Rattle.command_line.specs.declared.ending.Failure.{Failure}
use Rattle.command_line.specs.declared.ending.Failure.TheVariants.{OutOfMemory, WriteFailed}
use Rattle.command_line.specs.declared.ending.Status.{Status}
use Rattle.command_line.specs.declared.ending.Status.TheVariants.{Done}
use Rattle.std.proofs.KnownBytes.{Appends-trans}
use Rattle.command_replay.specs.body.Failing.{failure_of_replay}
use Rattle.command_replay.specs.body.Summarizing.{BeginsSummary, WritesSummary}
use Rattle.command_replay.specs.Replaying.{AreRepliesTo, ReplayWritesBefore, RepliesBefore, WritesAllReplies, WritesBeginningFor, WritesScript}
use Rattle.command_replay.proofs.RepliesLemmas.{failed_flush_told, fault_told}
use Rattle.command_streams.specs.Failures.{known_after}

-- ---- the counts have the text that was written

module _ (before now : Option (List ℕ)) (counts : List ℕ) (appended : Appends before now counts) (taken' : Option (List ℕ)) (counted : taken' ≡ Some counts) where
  as_written : (text : List ℕ) → Appends (Some []) taken' text → Appends before now text
  as_written text written =
      let same : counts ≡ text = subst (λ (taken : Option (List ℕ)). Appends (Some []) taken text) counted written in
      subst (Appends before now) same appended

  as_cut : (failures : ℕ) (told : List ℕ) → WasWritten failures (Some []) taken' told → WasWritten failures before now told
  as_cut failures told written =
      let same : counts ≡ told = subst (λ (taken : Option (List ℕ)). WasWritten failures (Some []) taken told) counted written in
      was_written before now (subst (Appends before now) same appended)
    where
      was_written : (before now : Option (List ℕ)) → Appends before now told → WasWritten failures before now told
      was_written None now one = tt
      was_written (Some a) None one = absurd one
      was_written (Some a) (Some b) one = one

-- how often an output over a new one has failed
few_failures : (result : Result (Unit {0}) ReplayFault) (input input' : InputValue) (output output' : OutputValue) → output.failures ≡ 0 → FailedBy result input input' output output'
    → output'.failures < MOST_FAILURES
few_failures (Ok done) input input' output output' none failed = let same = failed.1 in omega (arith, none, same)
few_failures (Err fault.ReadFailed) input input' output output' none failed = let same = failed.1 in omega (arith, none, same)
few_failures (Err fault.WriteFailed) input input' output output' none failed = let once = failed.1 in omega (arith, none, once)
few_failures (Err fault.OutOfMemory) input input' output output' none failed = let same = failed.1 in omega (arith, none, same)

failed_alike : (result : Result (Unit {0}) ReplayFault) (input input' : InputValue) (failures failures' : ℕ) (taken taken' before now : Option (List ℕ))
    → FailedBy result input input' (record { failures = failures; taken = taken }) (record { failures = failures'; taken = taken' })
    → FailedBy result input input' (record { failures = failures; taken = before }) (record { failures = failures'; taken = now })
failed_alike (Ok done) input input' failures failures' taken taken' before now failed = failed
failed_alike (Err fault.ReadFailed) input input' failures failures' taken taken' before now failed = failed
failed_alike (Err fault.WriteFailed) input input' failures failures' taken taken' before now failed = failed
failed_alike (Err fault.OutOfMemory) input input' failures failures' taken taken' before now failed = failed

module _ (input input' : InputValue) (output output' : OutputValue) (before now after : Option (List ℕ)) (counts : List ℕ)
    (opened : output ≡ record { failures = 0; taken = Some [] })
    (counted : output'.failures < MOST_FAILURES → output'.taken ≡ Some counts) (appended : output'.failures < MOST_FAILURES → Appends before now counts) (kept : Keeps now after) where
  -- the writer, as an output
  abbrev from : OutputValue
  from = record { failures = 0; taken = before }

  abbrev to : OutputValue
  to = record { failures = output'.failures; taken = now }

  none : output.failures ≡ 0
  none = ap (λ (o : OutputValue). o.failures) opened

  starts : output.taken ≡ Some []
  starts = ap (λ (o : OutputValue). o.taken) opened

  failed_here : (result : Result (Unit {0}) ReplayFault) → FailedBy result input input' output output' → FailedBy result input input' from to
  failed_here result failed =
      failed_alike result input input' 0 output'.failures (Some []) output'.taken before now (subst (λ (o : OutputValue). FailedBy result input input' o output') opened failed)

  module _ (few : output'.failures < MOST_FAILURES) where
    written_here : (text : List ℕ) → Appends output.taken output'.taken text → Appends before now text
    written_here text written =
        as_written before now counts (appended few) output'.taken (counted few) text (subst (λ (taken : Option (List ℕ)). Appends taken output'.taken text) starts written)

    all_lines : AnsweredAllLines input input' output output' → AnsweredAllLines input input' from to
    all_lines all = record {
      lines = all.lines;
      part = all.part;
      text = all.text;
      last = all.last;
      read = all.read;
      is_part = all.is_part;
      answered = all.answered;
      written = written_here all.text all.written;
    }

    beginning_here : WroteBeginning input input' output output' → WroteBeginning input input' from to
    beginning_here cut = record {
      lines = cut.lines;
      rest = cut.rest;
      text = cut.text;
      told = cut.told;
      untold = cut.untold;
      read = cut.read;
      is_text = cut.is_text;
      beginning = cut.beginning;
      written = as_cut before now counts (appended few) output'.taken (counted few) output'.failures cut.told
          (subst (λ (taken : Option (List ℕ)). WasWritten output'.failures taken output'.taken cut.told) starts cut.written);
    }

    first_lines : AnsweredFirstLines input input' output output' → AnsweredFirstLines input input' from to
    first_lines some = record {
      lines = some.lines;
      rest = some.rest;
      text = some.text;
      last = some.last;
      read = some.read;
      answered = some.answered;
      written = written_here some.text some.written;
    }

    replayed : IsReplayed input input' output output' → IsReplayed input input' from to
    replayed all = record {
      script = all.script;
      text = all.text;
      read = all.read;
      to_the_end = all.to_the_end;
      is_text = all.is_text;
      written = written_here all.text all.written;
    }

  -- a fault ended it
  pub counted_fault_told : (result : Result (Unit {0}) ReplayFault) (why : ReplayFault) → result ≡ Err why
      → (result ≡ Err fault.ReadFailed → AnsweredAllLines input input' output output')
      → (result ≡ Err fault.WriteFailed → WroteBeginning input input' output output')
      → (result ≡ Err fault.OutOfMemory → AnsweredFirstLines input input' output output')
      → FailedBy result input input' output output'
      → RepliesBefore (failure_of_replay why) (known_after input input') before after
  counted_fault_told result why is at_read at_write at_memory failed =
      let few = few_failures result input input' output output' none failed in
      fault_told input input' from to before now after refl (λ less. refl) kept result why is
      (λ e. all_lines few (at_read e)) (λ e. beginning_here few (at_write e)) (λ e. first_lines few (at_memory e)) (failed_here result failed)

  -- the replies could not be flushed
  pub counted_flush_told : (result : Result (Unit {0}) ReplayFault) → OnOk result (IsReplayed input input' output output')
      → (result ≡ Err fault.ReadFailed → AnsweredAllLines input input' output output')
      → (result ≡ Err fault.WriteFailed → WroteBeginning input input' output output')
      → (result ≡ Err fault.OutOfMemory → AnsweredFirstLines input input' output output')
      → FailedBy result input input' output output'
      → RepliesBefore WriteFailed (known_after input input') before after
  counted_flush_told result all at_read at_write at_memory failed =
      let few = few_failures result input input' output output' none failed in
      failed_flush_told input input' from to before now after refl (λ less. refl) kept result (replayed_if few result all)
      (λ e. all_lines few (at_read e)) (λ e. beginning_here few (at_write e)) (λ e. first_lines few (at_memory e)) (failed_here result failed)
    where
      replayed_if : output'.failures < MOST_FAILURES → (result : Result (Unit {0}) ReplayFault) → OnOk result (IsReplayed input input' output output')
          → OnOk result (IsReplayed input input' from to)
      replayed_if few (Ok done) all = replayed few all
      replayed_if few (Err why) all = tt

-- ---- the summary behind the replies

module _ (known before mid : Option (List ℕ)) (counts : List ℕ) (replied : AreRepliesTo known counts) (written : Appends before mid counts) where
  pub summary_begun : (after : Option (List ℕ)) → BeginsSummary counts mid after → WritesBeginningFor true false known before after
  summary_begun after begun =
      let cut = begun.2 in record {
        replies = counts;
        text = counts ++ begun.0;
        answered = replied;
        asked_for = (begun.0, begun.1, refl);
        begun = (
          counts ++ cut.0,
          cut.1,
          Appends-trans before mid after counts cut.0 written cut.2,
          ap (λ (s : List ℕ). counts ++ s) cut.3 ∙ sym (append_assoc counts cut.0 cut.1),
        );
      }

  pub replies_alone : (after : Option (List ℕ)) → after ≡ mid → WritesAllReplies known before after
  replies_alone after same = record { replies = counts; answered = replied; written = subst (λ (a : Option (List ℕ)). Appends before a counts) (sym same) written }

  pub summary_behind : (after : Option (List ℕ)) → WritesSummary counts mid after → WritesScript true false known Done before after
  summary_behind after whole = record {
    done = refl;
    replies = counts;
    text = counts ++ whole.0;
    answered = replied;
    asked_for = (whole.0, whole.1, refl);
    written = Appends-trans before mid after counts whole.0 written whole.2;
  }

  -- what writing the summary has left
  pub told_behind : (after : Option (List ℕ)) (result : Result Status Failure) → IfErr result (λ failure. (failure ≡ WriteFailed) ⊎ (failure ≡ OutOfMemory))
      → (result ≡ Err OutOfMemory → after ≡ mid) → (result ≡ Err WriteFailed → BeginsSummary counts mid after)
      → IfErr result (λ failure. ReplayWritesBefore true false failure known before after)
  told_behind after (Ok status) why memory begun = tt
  told_behind after (Err failure) (inl is) memory begun =
      subst (λ (f : Failure). ReplayWritesBefore true false f known before after) (sym is) (inr (summary_begun after (begun (ap (λ (f : Failure). Err f) is))))
  told_behind after (Err failure) (inr is) memory begun =
      subst (λ (f : Failure). ReplayWritesBefore true false f known before after) (sym is) (inr (replies_alone after (memory (ap (λ (f : Failure). Err f) is))))

  pub done_behind : (after : Option (List ℕ)) (result : Result Status Failure) → IfOk result (λ status. status ≡ Done) → OnOk result (WritesSummary counts mid after)
      → IfOk result (λ status. WritesScript true false known status before after)
  done_behind after (Err failure) done whole = tt
  done_behind after (Ok status) done whole =
      subst (λ (s : Status). WritesScript true false known s before after) (sym done) (summary_behind after whole)
