use Rattle.std.proofs.Common.{[], refl, rules, subst}
use Rattle.config_image.specs.Walk.{words_of_programs}
use Rattle.retire.specs.body.Diff.{IsPassed}
use Rattle.retire.proofs.diff.compare.Goals as goal

pub returns-then-walk_groups-clause-passed : goal.returns-then-walk_groups-clause-passed
returns-then-walk_groups-clause-passed c =
    let passed = subst (λ l. IsPassed c.walk_groups.new.walk (words_of_programs l) (words_of_programs c.args.other.now)) c.groups.ensures.groups
    (subst (λ l. IsPassed c.walk_groups.new.walk (words_of_programs c.groups.result.now) (words_of_programs l)) c.groups-2.ensures.groups
    ((c.if-walk_groups.ensures.goes_on refl).passed [] [] (record { counted = refl; differ = refl }))) in
    search (rules, passed)
