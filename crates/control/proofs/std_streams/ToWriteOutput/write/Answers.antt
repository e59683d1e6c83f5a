use Rattle.std.proofs.Common.{rules}
use Rattle.control.proofs.std_streams.ToWriteOutput.write.Goals as goal

pub returns-in-Ok-clause-device_failed : goal.returns-in-Ok-clause-device_failed
returns-in-Ok-clause-device_failed g c = search rules

pub returns-in-Ok-clause-not_none : goal.returns-in-Ok-clause-not_none
returns-in-Ok-clause-not_none g c = search rules

pub returns-in-Ok-clause-takes_front : goal.returns-in-Ok-clause-takes_front
returns-in-Ok-clause-takes_front g c = search rules

pub returns-in-Ok-clause-within : goal.returns-in-Ok-clause-within
returns-in-Ok-clause-within g c = search rules

pub returns-in-Ok-eq0-clause-device_failed : goal.returns-in-Ok-eq0-clause-device_failed
returns-in-Ok-eq0-clause-device_failed g c = search rules

pub returns-in-Ok-eq0-clause-not_none : goal.returns-in-Ok-eq0-clause-not_none
returns-in-Ok-eq0-clause-not_none g c = search rules

pub returns-in-Ok-eq0-clause-takes_front : goal.returns-in-Ok-eq0-clause-takes_front
returns-in-Ok-eq0-clause-takes_front g c = search rules

pub returns-in-Ok-eq0-clause-within : goal.returns-in-Ok-eq0-clause-within
returns-in-Ok-eq0-clause-within g c = search rules

pub returns-then-is_empty-clause-device_failed : goal.returns-then-is_empty-clause-device_failed
returns-then-is_empty-clause-device_failed g c = search rules

pub returns-then-is_empty-clause-not_none : goal.returns-then-is_empty-clause-not_none
returns-then-is_empty-clause-not_none g c = search rules

pub returns-then-is_empty-clause-takes_front : goal.returns-then-is_empty-clause-takes_front
returns-then-is_empty-clause-takes_front g c = search rules

pub returns-then-is_empty-clause-within : goal.returns-then-is_empty-clause-within
returns-then-is_empty-clause-within g c = search rules
