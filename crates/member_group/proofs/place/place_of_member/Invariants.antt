use Rattle.member_group.proofs.PlaceLemmas.{LacksUpTo}
use Rattle.member_group.proofs.place.place_of_member.Given as goal

abbrev pub invariant-loop-at : goal.invariant-loop-at
invariant-loop-at g l = LacksUpTo l.fn.id l.members l.at
