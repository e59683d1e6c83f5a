use Rattle.std.proofs.Common.{rules}
use Rattle.command_replay.proofs.counted_output.CountedOutputOutput.write.Goals as goal

pub returns-in-Ok-clause-device_failed : goal.returns-in-Ok-clause-device_failed
returns-in-Ok-clause-device_failed g c = search rules

pub returns-in-Ok-clause-not_none : goal.returns-in-Ok-clause-not_none
returns-in-Ok-clause-not_none g c = search rules

pub returns-in-Ok-clause-takes_front : goal.returns-in-Ok-clause-takes_front
returns-in-Ok-clause-takes_front g c = search rules

pub returns-in-Ok-clause-within : goal.returns-in-Ok-clause-within
returns-in-Ok-clause-within g c = search rules

pub returns-in_default-clause-device_failed : goal.returns-in_default-clause-device_failed
returns-in_default-clause-device_failed g c = search rules

pub returns-in_default-clause-not_none : goal.returns-in_default-clause-not_none
returns-in_default-clause-not_none g c = search rules

pub returns-in_default-clause-takes_front : goal.returns-in_default-clause-takes_front
returns-in_default-clause-takes_front g c = search rules

pub returns-in_default-clause-within : goal.returns-in_default-clause-within
returns-in_default-clause-within g c = search rules
