use Rattle.std.proofs.Common.{◌≡◌, drop}
use Rattle.member_group.specs.Group.{group_of}
use Rattle.control_rules.proofs.planning.group_at.Given as goal

abbrev pub invariant-loop-group : goal.invariant-loop-group
invariant-loop-group l = group_of l.fn.key l.groups ≡ group_of l.fn.key (drop l.group-index l.groups)
