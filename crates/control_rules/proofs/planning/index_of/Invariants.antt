use Rattle.std.proofs.Common.{◌≡◌, drop}
use Rattle.std.specs.List.{find}
use Rattle.member_group.specs.Group.{has_id}
use Rattle.control_rules.proofs.planning.index_of.Given as goal

abbrev pub invariant-loop-index : goal.invariant-loop-index
invariant-loop-index l = find (has_id l.id) l.members ≡ find (has_id l.id) (drop l.index l.members)
