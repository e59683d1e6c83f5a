use Rattle.std.proofs.Common.{arith}
use Rattle.std.proofs.lemmas.Grind.{common_steps}
use Rattle.filter_parse.proofs.stack.Stack.grow_and_push.Goals as goal

pub returns-clause-top : goal.returns-clause-top
returns-clause-top g c = grind (arith, common_steps)

pub returns-clause-last : goal.returns-clause-last
returns-clause-last g c = grind (arith, common_steps)
