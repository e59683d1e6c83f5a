use Rattle.std.proofs.Common.{arith}
use Rattle.std.proofs.lemmas.Grind.{common_steps}
use Rattle.read_section.proofs.operator.Operator.row_word.Goals as goal

pub returns : goal.returns
returns c = grind (arith, common_steps)
