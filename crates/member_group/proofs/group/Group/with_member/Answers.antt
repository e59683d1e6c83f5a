use Rattle.std.proofs.Common.{rules}
use Rattle.member_group.proofs.group.Group.with_member.Goals as goal

pub returns : goal.returns
returns g c = search rules
