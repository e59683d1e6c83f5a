use Rattle.std.proofs.Common.{arith, rules}
use Rattle.std.proofs.lemmas.Grind.{common_steps}
use Rattle.dispatch.proofs.memory.DatagramsSource.next.Goals as goal

pub returns-clause-device_failed : goal.returns-clause-device_failed
returns-clause-device_failed c = search rules

pub returns-clause-end : goal.returns-clause-end
returns-clause-end c = search rules

pub returns-clause-given_once : goal.returns-clause-given_once
returns-clause-given_once c = grind (arith, common_steps)

pub returns-clause-within : goal.returns-clause-within
returns-clause-within c = search rules

pub returns-in_default-clause-device_failed : goal.returns-in_default-clause-device_failed
returns-in_default-clause-device_failed c = search rules

pub returns-in_default-clause-end : goal.returns-in_default-clause-end
returns-in_default-clause-end c = search rules

pub returns-in_default-clause-given_once : goal.returns-in_default-clause-given_once
returns-in_default-clause-given_once c = search rules

pub returns-in_default-clause-within : goal.returns-in_default-clause-within
returns-in_default-clause-within c = search rules

pub returns-clause-given_in_order : goal.returns-clause-given_in_order
returns-clause-given_in_order c = search rules

pub returns-in_default-clause-given_in_order : goal.returns-in_default-clause-given_in_order
returns-in_default-clause-given_in_order c = search rules
