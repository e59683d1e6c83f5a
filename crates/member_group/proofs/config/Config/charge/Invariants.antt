use Rattle.std.proofs.Common.{◌*◌, ◌+◌, ◌≡◌, ◌≤◌, take}
use Rattle.member_group.specs.Charge.{charge_of}
use Rattle.member_group.proofs.config.Config.charge.Given as goal

abbrev pub invariant-loop-group : goal.invariant-loop-group
invariant-loop-group g l = record { charged : l.charge ≡ charge_of (take l.group-index l.group-items); bounded : l.charge ≤ 4294967296 + 4294967296 * l.group-index }
