use Rattle.std.proofs.Common.{arith}
use Rattle.std.proofs.lemmas.Grind.{common_steps}
use Rattle.retire.proofs.diff.walk_group.Goals as goal

pub walk_program-requires : goal.walk_program-requires
walk_program-requires c = grind (arith, common_steps)

pub walk_members-requires : goal.walk_members-requires
walk_members-requires c = grind (arith, common_steps)

pub returns-then-walk_program-clause-goes_on : goal.returns-then-walk_program-clause-goes_on
returns-then-walk_program-clause-goes_on c = grind (arith, common_steps)
