use Rattle.std.proofs.Common.{◌∙◌, Err, List, ap, refl, rules, sym, ℕ}
use Rattle.command_replay.specs.body.Opened.{failures_after}
use Rattle.command_replay.proofs.CauseLemmas.{flush_cause, flush_failed}
use Rattle.command_replay.proofs.SummaryLemmas.{counted_fault_told, counted_flush_told}
use Rattle.command_replay.proofs.summarizing.count_written.Goals as goal

pub returns-in-Err-clause-failed_written : goal.returns-in-Err-clause-failed_written
returns-in-Err-clause-failed_written g c =
    let told = c.in-Err.ensures in
    let parts = c.into_parts-written.ensures in
    let why = c.in-Err.fault in
    rw (c.failure_of.ensures)
    (counted_fault_told _ _ _ _ (g.W.CountedWrite.contents c.args.out.now) (g.W.CountedWrite.contents c.into_parts-written.result.0.now) _ c.into_parts-written.result.1
    (ap (λ v. v.output) c.new-output.ensures.opened) parts.counts (rw (sym c.requires.contents) parts.contents) (search rules)
    (Err why) why refl told.text_before_failed_read told.text_before_failed_write told.text_before_no_memory told.device_failed)

pub returns-then-is_err-clause-failed_written : goal.returns-then-is_err-clause-failed_written
returns-then-is_err-clause-failed_written g c =
    let told = c.replay-answer.ensures in
    let parts = c.into_parts-written.ensures in
    counted_flush_told _ _ _ _ (g.W.CountedWrite.contents c.args.out.now) (g.W.CountedWrite.contents c.into_parts-written.result.0.now) _ c.into_parts-written.result.1
    (ap (λ v. v.output) c.new-output.ensures.opened) parts.counts (rw (sym c.requires.contents) parts.contents) (search rules)
    c.replay-answer.result told.script_text told.text_before_failed_read told.text_before_failed_write told.text_before_no_memory told.device_failed

pub returns-then-is_err-clause-device_failed : goal.returns-then-is_err-clause-device_failed
returns-then-is_err-clause-device_failed g c =
    flush_cause (List ℕ) c.replay-answer.result _ _ _ _ _ _ _ (ap (λ v. v.output.failures) c.new-output.ensures.opened) c.replay-answer.ensures.device_failed
    (c.into_parts-written.ensures.failures ∙ ap (failures_after _) c.requires.failures)
    (search (rules, flush_failed _ _ _ (sym c.is_err.ensures.value ∙ c.if-is_err.true) c.flush.ensures.device_failed))

pub returns-in-Err-clause-failed : goal.returns-in-Err-clause-failed
returns-in-Err-clause-failed g c = search rules

pub returns-in-Err-clause-replied : goal.returns-in-Err-clause-replied
returns-in-Err-clause-replied g c = search rules

pub returns-in-Err-clause-written : goal.returns-in-Err-clause-written
returns-in-Err-clause-written g c = search rules
