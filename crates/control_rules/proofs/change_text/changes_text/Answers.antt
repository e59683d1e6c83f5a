use Rattle.std.proofs.Common.{arith}
use Rattle.std.proofs.lemmas.Grind.{common_steps}
use Rattle.control_rules.proofs.change_text.changes_text.Goals as goal

pub loop-command-preserved : goal.loop-command-preserved
loop-command-preserved g c = grind (arith, common_steps)

pub returns : goal.returns
returns g c = grind (arith, common_steps)
