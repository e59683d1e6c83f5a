use Rattle.std.proofs.Common.{arith, rules}
use Rattle.std.proofs.lemmas.Grind.{common_steps}
use Rattle.command_replay.proofs.unwritten.CountsAloneOutput.write.Goals as goal

pub returns-clause-device_failed : goal.returns-clause-device_failed
returns-clause-device_failed c = search rules

pub returns-clause-not_none : goal.returns-clause-not_none
returns-clause-not_none c = search rules

pub returns-clause-takes_front : goal.returns-clause-takes_front
returns-clause-takes_front c = grind (arith, common_steps)

pub returns-clause-within : goal.returns-clause-within
returns-clause-within c = search rules
