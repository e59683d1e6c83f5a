use Rattle.std.proofs.Common.{◌≡◌, ◌+◌, ◌*◌, ◌≤◌, drop}
use Rattle.member_group.specs.declared.TheConstants.{MEMBER_LIMIT}
use Rattle.member_group.specs.Charge.{members_of}
use Rattle.config_image.proofs.size.members_in.Given as goal

abbrev pub invariant-loop-group : goal.invariant-loop-group
invariant-loop-group g l =
    (l.members + members_of (drop l.group-index l.groups) ≡ members_of l.groups)
    × (l.members ≤ l.group-index * MEMBER_LIMIT)
