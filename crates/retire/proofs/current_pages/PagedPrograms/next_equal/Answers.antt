use Rattle.retire.proofs.SharingLemmas.{next_behind, next_counted}
use Rattle.retire.proofs.current_pages.PagedPrograms.next_equal.Goals as goal

pub returns-then-same_words-clause-behind : goal.returns-then-same_words-clause-behind
returns-then-same_words-clause-behind c = next_behind _ _ _ _ _ _ c.in-Some.ensures.some

pub returns-then-same_words-clause-counted : goal.returns-then-same_words-clause-counted
returns-then-same_words-clause-counted c = next_counted _ _ _ _ _ _ c.in-Some.ensures.some c.requires.counted

pub returns-clause-behind : goal.returns-clause-behind
returns-clause-behind c = next_behind _ _ _ _ _ _ c.in-Some.ensures.some

pub returns-clause-counted : goal.returns-clause-counted
returns-clause-counted c = next_counted _ _ _ _ _ _ c.in-Some.ensures.some c.requires.counted
