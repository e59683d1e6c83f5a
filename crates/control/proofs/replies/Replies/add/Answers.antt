use Rattle.std.proofs.Common.{arith, rules}
use Rattle.std.proofs.lemmas.Grind.{common_steps}
use Rattle.control.proofs.replies.Replies.add.Goals as goal

pub returns-clause-added : goal.returns-clause-added
returns-clause-added g c = grind (arith, common_steps)

pub returns-clause-beginning : goal.returns-clause-beginning
returns-clause-beginning g c = search rules

pub returns-clause-device_failed : goal.returns-clause-device_failed
returns-clause-device_failed g c = search rules
