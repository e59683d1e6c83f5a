use Rattle.std.proofs.Common.{◌≡◌, None, take}
use Rattle.std.specs.List.{find}
use Rattle.member_group.specs.Group.{has_key}
use Rattle.packet_verdict.proofs.config.group_by_key.Given as goal

abbrev pub invariant-loop-group : goal.invariant-loop-group
invariant-loop-group l = find (has_key l.fn.key) (take l.group-index l.groups) ≡ None
