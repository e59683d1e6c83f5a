use Rattle.member_group.proofs.PlaceLemmas.{IsBelowUpTo}
use Rattle.member_group.proofs.place.place_of_key.Given as goal

abbrev pub invariant-loop-at : goal.invariant-loop-at
invariant-loop-at g l = IsBelowUpTo l.fn.key l.groups l.at
