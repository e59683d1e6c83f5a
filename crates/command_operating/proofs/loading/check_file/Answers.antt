use Rattle.std.proofs.Common.{refl, rules}
use Rattle.command_operating.specs.Showing.{checked, file_refused}
use Rattle.command_operating.proofs.CauseLemmas.{once_as, write_unread, writes_once}
use Rattle.command_operating.proofs.LoadingLemmas.{fail_measures, fail_unread}
use Rattle.command_operating.proofs.loading.check_file.Goals as goal

pub returns-in-Ok-print_line-clause-done : goal.returns-in-Ok-print_line-clause-done
returns-in-Ok-print_line-clause-done g c = λ is. checked _ c.in-Ok.file.config c.in-Ok.ensures.made (search rules)

pub returns-in-Err-clause-refused : goal.returns-in-Err-clause-refused
returns-in-Err-clause-refused g c = λ is. file_refused _ _ (c.in-Err.ensures.refused is)

pub returns-in-Err-clause-failed : goal.returns-in-Err-clause-failed
returns-in-Err-clause-failed g c = λ is. let unread = c.in-Err.ensures.failed is in (unread.0, fail_unread _ _ _ _ _ _ _ _ (λ failure cause. cause) unread.0 unread.1)

pub returns-in-Err-clause-device_failed : goal.returns-in-Err-clause-device_failed
returns-in-Err-clause-device_failed g c = once_as _ _ _ _ _ _ c.in-Err.status (fail_unread _ _ _ _ _ _ _ _ (λ failure cause. cause)) c.in-Err.ensures.device_failed

pub returns-clause-failed : goal.returns-clause-failed
returns-clause-failed g c = λ is. (
  c.in-Err-print_line.failure,
  fail_measures _ _ _ _ _ _ _ _ refl c.in-Ok.file.config c.in-Ok.ensures.made c.in-Err-print_line.failure c.in-Err-print_line.ensures.cause (search rules)
      (rw c.in-Ok.ensures.no_errors at c.report.ensures.told),
)

pub returns-clause-device_failed : goal.returns-clause-device_failed
returns-clause-device_failed g c =
    writes_once _ (Unit {0}) _ _ _ _ c.report.result c.in-Err-print_line.failure c.report.ensures.failed
    (fail_measures _ _ _ _ _ _ _ _ refl c.in-Ok.file.config c.in-Ok.ensures.made c.in-Err-print_line.failure c.in-Err-print_line.ensures.cause (search rules)
    (rw c.in-Ok.ensures.no_errors at c.report.ensures.told))
    (write_unread _ c.in-Err-print_line.ensures.cause) (rw c.in-Ok.ensures.unwritten at c.in-Err-print_line.ensures.device_failed) c.in-Ok.ensures.none_failed
