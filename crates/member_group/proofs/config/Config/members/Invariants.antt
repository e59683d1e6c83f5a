use Rattle.std.proofs.Common.{◌*◌, ◌≡◌, ◌≤◌, take}
use Rattle.member_group.specs.Charge.{members_of}
use Rattle.member_group.proofs.config.Config.members.Given as goal

abbrev pub invariant-loop-group : goal.invariant-loop-group
invariant-loop-group g l = record { counted : l.members ≡ members_of (take l.group-index l.group-items); bounded : l.members ≤ 64 * l.group-index }
