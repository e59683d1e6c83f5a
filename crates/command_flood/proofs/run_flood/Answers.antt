use Rattle.std.proofs.Common.{rules}
use Rattle.command_streams.proofs.OutputLemmas.{counts_failure, ends_in_failure}
use Rattle.command_flood.proofs.FailingLemmas.{flood_fails}
use Rattle.command_flood.proofs.run_flood.Goals as goal

pub returns-in-Err-clause-done : goal.returns-in-Err-clause-done
returns-in-Err-clause-done g c = search rules

pub returns-in-Err-clause-done_or_failed : goal.returns-in-Err-clause-done_or_failed
returns-in-Err-clause-done_or_failed g c = search rules

pub returns-in-Err-clause-failed : goal.returns-in-Err-clause-failed
returns-in-Err-clause-failed g c = λ is.
    let why = c.in-Err.ensures in (
      c.in-Err.failure,
      flood_fails g.W.CountedWrite.contents _ _ _ _ _ _ c.in-Err.failure why.nothing_written why.begun why.no_input why.no_socket c.report.ensures.told,
    )

pub returns-in-Err-clause-device_failed : goal.returns-in-Err-clause-device_failed
returns-in-Err-clause-device_failed g c =
    let why = c.in-Err.ensures in
    ends_in_failure _ _ _ c.report.result c.in-Err.failure c.report.ensures.failed
    (flood_fails g.W.CountedWrite.contents _ _ _ _ _ _ c.in-Err.failure why.nothing_written why.begun why.no_input why.no_socket c.report.ensures.told)
    (counts_failure (Unit {0}) c.in-Err.failure _ _ why.device_failed)

pub returns-in-Err-clause-no_errors : goal.returns-in-Err-clause-no_errors
returns-in-Err-clause-no_errors g c = search rules

pub returns-in-Ok-clause-done : goal.returns-in-Ok-clause-done
returns-in-Ok-clause-done g c = search rules

pub returns-in-Ok-clause-done_or_failed : goal.returns-in-Ok-clause-done_or_failed
returns-in-Ok-clause-done_or_failed g c = search rules

pub returns-in-Ok-clause-failed : goal.returns-in-Ok-clause-failed
returns-in-Ok-clause-failed g c = search rules

pub returns-in-Ok-clause-no_errors : goal.returns-in-Ok-clause-no_errors
returns-in-Ok-clause-no_errors g c = search rules
