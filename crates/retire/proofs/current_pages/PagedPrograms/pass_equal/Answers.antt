use Rattle.retire.proofs.RunLemmas.{none_passed_yet, one_passed_more}
use Rattle.retire.proofs.current_pages.PagedPrograms.pass_equal.Goals as goal

pub loop-words-init : goal.loop-words-init
loop-words-init c = none_passed_yet c.args.programs.now c.args.self.now.programs c.args.self.now.pages.now c.requires.counted

pub loop-words-preserved : goal.loop-words-preserved
loop-words-preserved c = one_passed_more _ _ _ _ _ _ _ c.loop-words.invariant _ _ _ _ _ c.in-Some.ensures.steps c.in-Some-next_equal.ensures.some c.in-Some-next_equal.ensures.behind c.in-Some-next_equal.ensures.counted
