use Rattle.retire.proofs.RunLemmas.{if_none, if_some, run_shared}
use Rattle.retire.proofs.current_pages.Current.share_equal.Goals as goal

pub returns-clause-some : goal.returns-clause-some
returns-clause-some g c = if_some c.pass_equal.result.1 (λ words passes. run_shared _ _ _ _ _ passes _ _ c.requires.passing.behind _ _ c.share.ensures) c.pass_equal.ensures.some

pub returns-clause-none : goal.returns-clause-none
returns-clause-none g c = if_none c.pass_equal.result.1 (λ passes. run_shared _ _ _ _ _ passes _ _ c.requires.passing.behind _ _ c.share.ensures) c.pass_equal.ensures.none
