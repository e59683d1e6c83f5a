use Rattle.std.proofs.Common.{arith}
use Rattle.std.proofs.lemmas.Grind.{common_steps}
use Rattle.control_rules.proofs.change_text.push_change.Goals as goal

pub returns : goal.returns
returns g c = grind (arith, common_steps)
