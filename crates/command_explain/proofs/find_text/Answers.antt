use Rattle.std.proofs.Common.{arith, rules}
use Rattle.std.proofs.lemmas.Grind.{common_steps}
use Rattle.command_explain.proofs.find_text.Goals as goal

pub returns : goal.returns
returns c = grind (arith, common_steps)

pub returns-then-eq : goal.returns-then-eq
returns-then-eq c = search rules
