use Rattle.std.proofs.Common.{◌*◌, ◌+◌, ◌≡◌, ◌≤◌, take}
use Rattle.ipv4_fields.specs.declared.endpoint.Endpoint.{Endpoint}
use Rattle.member_group.specs.Charge.{charge_of_group}
use Rattle.member_group.proofs.counted.charge_of_parts.Given as goal

abbrev pub invariant-loop-member : goal.invariant-loop-member
invariant-loop-member g l = record {
  charged : (key : Endpoint) → l.charge ≡ charge_of_group (record { key = key; selector = l.selector; members = take l.member-index l.members });
  bounded : l.charge ≤ 5000 + 5000 * l.member-index;
}
