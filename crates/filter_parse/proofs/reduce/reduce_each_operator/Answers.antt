use Rattle.std.proofs.Common.{arith}
use Rattle.std.proofs.lemmas.Grind.{common_steps}
use Rattle.filter_parse.proofs.reduce.reduce_each_operator.Goals as goal

pub loop-operator-smaller : goal.loop-operator-smaller
loop-operator-smaller g c = grind (arith, common_steps)

pub loop-operator-preserved : goal.loop-operator-preserved
loop-operator-preserved g c = grind (arith, common_steps)

pub returns : goal.returns
returns g c = grind (arith, common_steps)
