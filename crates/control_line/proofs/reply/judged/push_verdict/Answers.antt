use Rattle.std.proofs.Common.{arith, rules}
use Rattle.std.proofs.lemmas.Grind.{common_steps}
use Rattle.control_line.proofs.reply.judged.push_verdict.Goals as goal

pub returns-in-Deliver : goal.returns-in-Deliver
returns-in-Deliver c = grind (arith, common_steps)

pub returns-in-Dropped : goal.returns-in-Dropped
returns-in-Dropped c = grind (arith, common_steps)

pub returns-in-Malformed : goal.returns-in-Malformed
returns-in-Malformed c = search rules

pub returns-in-NoGroup : goal.returns-in-NoGroup
returns-in-NoGroup c = search rules

pub returns-in-NoMembers : goal.returns-in-NoMembers
returns-in-NoMembers c = search rules
