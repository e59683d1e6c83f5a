use Rattle.retire.proofs.SharingLemmas.{further_behind, passing_from}
use Rattle.retire.proofs.current_pages.Current.find_equal.Goals as goal

pub returns-clause-passing : goal.returns-clause-passing
returns-clause-passing c = let p = c.requires.passing in let all = passing_from _ _ _ _ c.of-all.ensures.programs c.of-all.ensures.pages p.counted in
    record { counted = p.counted; left_counted = c.find.ensures.counted; behind = further_behind _ _ _ _ _ _ all.behind c.find.ensures.behind }
