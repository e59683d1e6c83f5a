use Rattle.std.proofs.Common.{refl}
use Rattle.command_line.specs.declared.ending.Failure.TheVariants.{BindFailed, OutOfMemory}
use Rattle.command_streams.proofs.OutputLemmas.{ends_in_failure}
use Rattle.command_waiting.proofs.ServeLemmas.{fails_unbound, fails_without_memory}
use Rattle.command_waiting.proofs.serving.report_bind.Goals as goal

pub returns-in-OutOfMemory-clause-told : goal.returns-in-OutOfMemory-clause-told
returns-in-OutOfMemory-clause-told g c = λ opening workers. (OutOfMemory, fails_without_memory opening workers _ _ _ c.report.ensures.told)

pub returns-in-OutOfMemory-clause-device_failed : goal.returns-in-OutOfMemory-clause-device_failed
returns-in-OutOfMemory-clause-device_failed g c = λ opening workers.
    ends_in_failure _ _ _ c.report.result OutOfMemory c.report.ensures.failed (fails_without_memory opening workers _ _ _ c.report.ensures.told) refl

pub returns-in_default-clause-told : goal.returns-in_default-clause-told
returns-in_default-clause-told g c = λ opening workers.
    let shown = c.show_bind_fault.ensures in (
      BindFailed,
      fails_unbound opening workers _ _ _ c.args.fault.now shown.0 (g.E.Write.contents c.show_bind_fault.new.errs) shown.1 shown.2 c.report-in_default.ensures.told,
    )

pub returns-in_default-clause-device_failed : goal.returns-in_default-clause-device_failed
returns-in_default-clause-device_failed g c = λ opening workers.
    let shown = c.show_bind_fault.ensures in
    ends_in_failure _ _ _ c.report-in_default.result BindFailed c.report-in_default.ensures.failed
    (fails_unbound opening workers _ _ _ c.args.fault.now shown.0 (g.E.Write.contents c.show_bind_fault.new.errs) shown.1 shown.2 c.report-in_default.ensures.told) refl
