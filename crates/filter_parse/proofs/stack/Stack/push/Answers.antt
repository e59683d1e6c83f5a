use Rattle.std.proofs.Common.{arith}
use Rattle.std.proofs.lemmas.Grind.{common_steps}
use Rattle.filter_parse.proofs.stack.Stack.push.Goals as goal

pub returns-then-len-capacity-clause-top : goal.returns-then-len-capacity-clause-top
returns-then-len-capacity-clause-top g c = grind (arith, common_steps)

pub returns-then-len-capacity-clause-last : goal.returns-then-len-capacity-clause-last
returns-then-len-capacity-clause-last g c = grind (arith, common_steps)
