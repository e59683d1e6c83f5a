use Rattle.std.proofs.Common.{arith, rules}
use Rattle.std.proofs.lemmas.Grind.{common_steps}
use Rattle.packet_verdict.proofs.member.plain_choice.Goals as goal

pub returns-clause-choice : goal.returns-clause-choice
returns-clause-choice c = grind (arith, common_steps)

pub returns-clause-inside : goal.returns-clause-inside
returns-clause-inside c = search rules
