use Rattle.std.proofs.Common.{rules}
use Rattle.member_group.proofs.limits_as_numbers.Goals as goal

pub returns-clause-groups : goal.returns-clause-groups
returns-clause-groups c = search rules
