use Rattle.std.proofs.Common.{inr, refl, rules}
use Rattle.command_line.specs.declared.ending.Failure.TheVariants.{OutOfMemory}
use Rattle.command_operating.proofs.CauseLemmas.{reads_once, refuses_once, writes_once}
use Rattle.command_operating.proofs.OpeningLemmas.{charge_within, fails_reading, fails_refusing, not_read, not_written, refused_of}
use Rattle.command_operating.proofs.rules_file.open_file.Goals as goal

pub returns-in-Ok-rules-clause-within : goal.returns-in-Ok-rules-clause-within
returns-in-Ok-rules-clause-within g c = charge_within _ c.in-Ok-rules.config c.in-Ok-rules.ensures

pub returns-in-Err-Refused-clause-refused : goal.returns-in-Err-Refused-clause-refused
returns-in-Err-Refused-clause-refused g c = λ is. refused_of _ _ _ _ c.in-Ok.ensures.text _ _ (search rules) (c.refuse_file.ensures.refused is)

pub returns-in-Err-Refused-clause-failed : goal.returns-in-Err-Refused-clause-failed
returns-in-Err-Refused-clause-failed g c = λ is.
    not_written _ _ _ _ _ c.in-Ok.ensures.text _ _ (search rules) _ c.refuse_file.ensures.beginning (c.refuse_file.ensures.failed is)

pub returns-in-Err-Refused-clause-device_failed : goal.returns-in-Err-Refused-clause-device_failed
returns-in-Err-Refused-clause-device_failed g c =
    refuses_once _ _ _ _ _ c.refuse_file.result c.in-Ok.ensures.device_failed
    (λ is. fails_refusing _ _ _ _ _ c.in-Ok.ensures.text _ _ (search rules) _ c.refuse_file.ensures.beginning (c.refuse_file.ensures.failed is))
    c.refuse_file.ensures.device_failed

pub returns-clause-failed : goal.returns-clause-failed
returns-clause-failed g c = λ is. not_read _ _ _ _ OutOfMemory (inr refl) c.report-in-Err-OutOfMemory.ensures.told

pub returns-clause-device_failed : goal.returns-clause-device_failed
returns-clause-device_failed g c =
    writes_once _ (Unit {0}) _ _ _ _ c.report-in-Err-OutOfMemory.result OutOfMemory c.report-in-Err-OutOfMemory.ensures.failed
    (fails_reading _ _ _ _ OutOfMemory (inr refl) c.report-in-Err-OutOfMemory.ensures.told) (λ is. cc) refl c.in-Ok.ensures.device_failed

pub returns-in-Err-clause-device_failed : goal.returns-in-Err-clause-device_failed
returns-in-Err-clause-device_failed g c =
    reads_once _ (Unit {0}) _ _ _ c.report.result c.in-Err.failure c.report.ensures.failed
    (fails_reading _ _ _ _ c.in-Err.failure c.in-Err.ensures.cause c.report.ensures.told) c.in-Err.ensures.cause c.in-Err.ensures.device_failed
