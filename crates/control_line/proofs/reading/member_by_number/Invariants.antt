use Rattle.std.proofs.Common.{◌≡◌, None, take}
use Rattle.std.specs.List.{find}
use Rattle.member_group.specs.Group.{has_id}
use Rattle.control_line.proofs.reading.member_by_number.Given as goal

abbrev pub invariant-loop-member : goal.invariant-loop-member
invariant-loop-member l = find (has_id l.fn.number) (take l.member-index l.member-items) ≡ None
