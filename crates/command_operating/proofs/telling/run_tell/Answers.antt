use Rattle.std.proofs.Common.{Bool}
use Rattle.command_line.specs.declared.ending.Failure.TheVariants.{WriteFailed}
use Rattle.command_line.specs.declared.ending.Status.{Status}
use Rattle.command_streams.proofs.FailureLemmas.{both_causes}
use Rattle.command_streams.proofs.OutputLemmas.{ends_once, ends_unread}
use Rattle.command_operating.specs.Telling.{stopped, unwritten_refusal}
use Rattle.command_operating.proofs.TellingLemmas.{never_unshown}
use Rattle.command_operating.proofs.telling.run_tell.Goals as goal

pub returns-in-Err-clause-failed : goal.returns-in-Err-clause-failed
returns-in-Err-clause-failed g c = λ is. (
  c.in-Err.fault,
  stopped c.in-Some.address c.in-Err.fault (g.E.Write.contents c.tell_words_or_input.new.errs) c.in-Some.ensures c.in-Err.ensures.never_unread c.in-Err.ensures.stopped c.report.ensures.told,
)

pub returns-in-Err-clause-device_failed : goal.returns-in-Err-clause-device_failed
returns-in-Err-clause-device_failed g c =
    ends_once _ _ _ c.report.result c.in-Err.fault _ _ c.report.ensures.failed
    (stopped c.in-Some.address c.in-Err.fault (g.E.Write.contents c.tell_words_or_input.new.errs) c.in-Some.ensures c.in-Err.ensures.never_unread c.in-Err.ensures.stopped c.report.ensures.told)
    (both_causes Bool Status c.in-Err.fault _ _ _ _ c.in-Err.ensures.input_failed c.in-Err.ensures.device_failed)

pub returns-in_default-clause-failed : goal.returns-in_default-clause-failed
returns-in_default-clause-failed g c = λ is. (WriteFailed, unwritten_refusal c.in_default.ensures (c.refuse_address.ensures.failed is))

pub returns-in_default-clause-device_failed : goal.returns-in_default-clause-device_failed
returns-in_default-clause-device_failed g c =
    ends_unread _ _ _ c.refuse_address.result _ (λ is. unwritten_refusal c.in_default.ensures (c.refuse_address.ensures.failed is)) c.refuse_address.ensures.device_failed

pub returns-in-Ok-true-clause-no_errors : goal.returns-in-Ok-true-clause-no_errors
returns-in-Ok-true-clause-no_errors g c = λ cause. never_unshown c.args.switch.0.now c.in-Some.address c.args.errs.now c.tell_words_or_input.new.errs c.in-Some.ensures cause
