use Rattle.std.proofs.Common.{◌∙◌, Err, ap, refl, rules, sym}
use Rattle.command_line.specs.declared.ending.Status.{Status}
use Rattle.command_replay.specs.body.Opened.{failures_after}
use Rattle.command_replay.proofs.CauseLemmas.{flush_cause, flush_failed}
use Rattle.command_replay.proofs.RepliesLemmas.{failed_flush_told, fault_told}
use Rattle.command_replay.proofs.replaying.replay_written.Goals as goal

pub returns-in-Err-clause-failed_written : goal.returns-in-Err-clause-failed_written
returns-in-Err-clause-failed_written g c =
    let told = c.in-Err.ensures in
    let why = c.in-Err.fault in
    rw (c.failure_of.ensures)
    (fault_told _ _ _ _ _ (g.W.CountedWrite.contents c.into_inner.result.now) _ (ap (λ v. v.output) c.new-output.ensures.opened) c.into_inner.ensures.contents (search rules)
    (Err why) why refl told.text_before_failed_read told.text_before_failed_write told.text_before_no_memory told.device_failed)

pub returns-then-is_err-clause-failed_written : goal.returns-then-is_err-clause-failed_written
returns-then-is_err-clause-failed_written g c =
    let told = c.replay-answer.ensures in
    failed_flush_told _ _ _ _ _ (g.W.CountedWrite.contents c.into_inner.result.now) _ (ap (λ v. v.output) c.new-output.ensures.opened) c.into_inner.ensures.contents (search rules)
    c.replay-answer.result told.script_text told.text_before_failed_read told.text_before_failed_write told.text_before_no_memory told.device_failed

pub returns-then-is_err-clause-device_failed : goal.returns-then-is_err-clause-device_failed
returns-then-is_err-clause-device_failed g c =
    flush_cause Status c.replay-answer.result _ _ _ _ _ _ _ (ap (λ v. v.output.failures) c.new-output.ensures.opened) c.replay-answer.ensures.device_failed
    (c.into_inner.ensures.failures ∙ ap (failures_after _) c.requires)
    (search (rules, flush_failed _ _ _ (sym c.is_err.ensures.value ∙ c.if-is_err.true) c.flush.ensures.device_failed))

pub returns-in-Err-clause-failed : goal.returns-in-Err-clause-failed
returns-in-Err-clause-failed g c = search rules

pub returns-in-Err-clause-written : goal.returns-in-Err-clause-written
returns-in-Err-clause-written g c = search rules
