use Rattle.std.proofs.Common.{◌≡◌, ◌+◌, drop}
use Rattle.config_image.specs.Walk.{words_of_programs}
use Rattle.retire.specs.declared.diff.Walk.{Walk}
use Rattle.retire.specs.body.Alike.{AreAlike}
use Rattle.retire.specs.body.Diff.{GoesOn, pages_in}
use Rattle.retire.proofs.diff.walk_groups.Given as goal

abbrev pub invariant-loop-at : goal.invariant-loop-at
invariant-loop-at l = (AreAlike (drop l.at l.groups) (drop l.at l.others) → AreAlike l.groups l.others)
    × (l.walk.pages + pages_in (words_of_programs (drop l.at l.groups)) ≡ l.fn.walk.pages + pages_in (words_of_programs l.groups))
    × ((after : Walk) → GoesOn l.walk after (words_of_programs (drop l.at l.groups)) (words_of_programs (drop l.at l.others)) → GoesOn l.fn.walk after (words_of_programs l.groups) (words_of_programs l.others))
