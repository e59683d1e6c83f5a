use Rattle.std.proofs.Common.{rules}
use Rattle.member_group.proofs.group.Group.with_member_at.Goals as goal

pub append_with_member_at-requires : goal.append_with_member_at-requires
append_with_member_at-requires g c = record { inside = rw c.members-2.ensures.members c.requires.inside }

pub returns : goal.returns
returns g c = search rules
