use Rattle.std.proofs.Common.{arith}
use Rattle.std.proofs.lemmas.Grind.{common_steps}
use Rattle.filter_parse.proofs.stack.Stack.top.Goals as goal

pub returns : goal.returns
returns g c = grind (arith, common_steps)
