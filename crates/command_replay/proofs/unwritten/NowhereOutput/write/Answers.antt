use Rattle.std.proofs.Common.{rules}
use Rattle.command_replay.proofs.unwritten.NowhereOutput.write.Goals as goal

pub returns-clause-device_failed : goal.returns-clause-device_failed
returns-clause-device_failed c = search rules

pub returns-clause-not_none : goal.returns-clause-not_none
returns-clause-not_none c = search rules

pub returns-clause-takes_front : goal.returns-clause-takes_front
returns-clause-takes_front c = search rules

pub returns-clause-within : goal.returns-clause-within
returns-clause-within c = search rules
