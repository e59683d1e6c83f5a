use Rattle.std.proofs.Common.{◌++◌, ◌≡◌, take}
use Rattle.member_group.proofs.member.append_members.Given as goal

abbrev pub invariant-loop-member : goal.invariant-loop-member
invariant-loop-member g l = l.to.items ≡ l.initial.to.items ++ take l.member-index l.from
