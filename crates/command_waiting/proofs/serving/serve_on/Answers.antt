use Rattle.std.proofs.Common.{refl}
use Rattle.command_line.specs.declared.ending.Failure.TheVariants.{OutOfMemory}
use Rattle.command_streams.proofs.OutputLemmas.{counts_failure, ends_in_failure}
use Rattle.command_waiting.proofs.ServeLemmas.{fails_serving, fails_without_memory}
use Rattle.command_waiting.proofs.serving.serve_on.Goals as goal

pub returns-in_default-clause-failed : goal.returns-in_default-clause-failed
returns-in_default-clause-failed g c = λ is. (OutOfMemory, fails_without_memory _ _ _ _ _ c.report.ensures.told)

pub returns-in_default-clause-device_failed : goal.returns-in_default-clause-device_failed
returns-in_default-clause-device_failed g c =
    ends_in_failure _ _ _ c.report.result OutOfMemory c.report.ensures.failed (fails_without_memory _ _ _ _ _ c.report.ensures.told) refl

pub returns-clause-failed : goal.returns-clause-failed
returns-clause-failed g c = λ is. (
  c.in-Err.failure,
  fails_serving g.W.CountedWrite.contents c.args.sockets.place _ _ _ _ _ _ c.in-Err.failure c.in-Err.ensures.no_input c.in-Err.ensures.ready_or_nothing
      c.in-Err.ensures.begun c.in-Err.ensures.not_bound c.report-in-Err.ensures.told,
)

pub returns-clause-device_failed : goal.returns-clause-device_failed
returns-clause-device_failed g c =
    ends_in_failure _ _ _ c.report-in-Err.result c.in-Err.failure c.report-in-Err.ensures.failed
    (fails_serving g.W.CountedWrite.contents c.args.sockets.place _ _ _ _ _ _ c.in-Err.failure c.in-Err.ensures.no_input c.in-Err.ensures.ready_or_nothing
    c.in-Err.ensures.begun c.in-Err.ensures.not_bound c.report-in-Err.ensures.told)
    (counts_failure (Unit {0}) c.in-Err.failure _ _ c.in-Err.ensures.device_failed)
