use Rattle.command_line.specs.declared.ending.Failure.TheVariants.{WriteFailed}
use Rattle.command_streams.proofs.OutputLemmas.{counts_failure, ends_in_failure, ends_unwritten}
use Rattle.command_operating.proofs.MeasuringLemmas.{top_failed, top_unwritten}
use Rattle.command_operating.proofs.PrintingLemmas.{begins_text}
use Rattle.command_operating.proofs.ScreenLemmas.{no_top_address, top_begun}
use Rattle.command_operating.proofs.watching.run_top.Goals as goal

pub returns-in_default-clause-failed : goal.returns-in_default-clause-failed
returns-in_default-clause-failed g c = λ is. (
  WriteFailed,
  top_unwritten _ _ _ _ _ _ _ (begins_text _ _ _ _ c.refuse_address.ensures.beginning (λ whole. no_top_address _ _ _ _ whole c.in_default.ensures))
      (c.refuse_address.ensures.failed is),
)

pub returns-in_default-clause-device_failed : goal.returns-in_default-clause-device_failed
returns-in_default-clause-device_failed g c =
    ends_unwritten _ _ _ c.refuse_address.result
    (λ is.
    top_unwritten _ _ _ _ _ _ _ (begins_text _ _ _ _ c.refuse_address.ensures.beginning (λ whole. no_top_address _ _ _ _ whole c.in_default.ensures))
    (c.refuse_address.ensures.failed is))
    c.refuse_address.ensures.device_failed

pub returns-in-Err-clause-failed : goal.returns-in-Err-clause-failed
returns-in-Err-clause-failed g c = λ is. (
  c.in-Err.failure,
  top_failed _ _ _ _ _ _ _ c.in-Some.address c.in-Err.failure c.in-Some.ensures c.in-Err.ensures.fault c.in-Err.ensures.fewer
      (λ unwritten. top_begun _ c.in-Some.address _ _ _ _ c.in-Some.ensures (c.in-Err.ensures.begun unwritten)) c.report.ensures.told,
)

pub returns-in-Err-clause-device_failed : goal.returns-in-Err-clause-device_failed
returns-in-Err-clause-device_failed g c =
    ends_in_failure _ _ _ c.report.result c.in-Err.failure c.report.ensures.failed
    (top_failed _ _ _ _ _ _ _ c.in-Some.address c.in-Err.failure c.in-Some.ensures c.in-Err.ensures.fault c.in-Err.ensures.fewer
    (λ unwritten. top_begun _ c.in-Some.address _ _ _ _ c.in-Some.ensures (c.in-Err.ensures.begun unwritten)) c.report.ensures.told)
    (counts_failure (Unit {0}) c.in-Err.failure _ _ c.in-Err.ensures.device_failed)
