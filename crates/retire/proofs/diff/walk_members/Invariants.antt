use Rattle.std.proofs.Common.{◌≡◌, ◌+◌, drop}
use Rattle.retire.specs.declared.diff.Walk.{Walk}
use Rattle.retire.specs.body.Alike.{AllAlike, AreAlikeMembers}
use Rattle.retire.specs.body.Diff.{GoesOn, filters_in, pages_in}
use Rattle.retire.proofs.diff.walk_members.Given as goal

abbrev pub invariant-loop-at : goal.invariant-loop-at
invariant-loop-at l = (AllAlike AreAlikeMembers (drop l.at l.members) (drop l.at l.others) → AllAlike AreAlikeMembers l.members l.others)
    × (l.walk.pages + pages_in (filters_in (drop l.at l.members)) ≡ l.fn.walk.pages + pages_in (filters_in l.members))
    × ((after : Walk) → GoesOn l.walk after (filters_in (drop l.at l.members)) (filters_in (drop l.at l.others)) → GoesOn l.fn.walk after (filters_in l.members) (filters_in l.others))
