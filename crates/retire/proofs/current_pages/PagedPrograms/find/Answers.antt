use Rattle.std.proofs.Common.{sym, ◌∙◌, ⊎_elim}
use Rattle.retire.proofs.SharingLemmas.{further_behind, next_behind, next_counted, next_or_later, true_false}
use Rattle.retire.proofs.current_pages.PagedPrograms.find.Goals as goal

pub returns-then-same_words-clause-behind : goal.returns-then-same_words-clause-behind
returns-then-same_words-clause-behind c = further_behind _ _ _ _ _ _ c.loop-other.invariant.1 (next_behind _ _ _ _ _ _ c.in-Some.ensures.some)

pub returns-then-same_words-clause-counted : goal.returns-then-same_words-clause-counted
returns-then-same_words-clause-counted c = next_counted _ _ _ _ _ _ c.in-Some.ensures.some c.loop-other.invariant.0

pub loop-other-preserved : goal.loop-other-preserved
loop-other-preserved c = let h = c.loop-other.invariant in (
  next_counted _ _ _ _ _ _ c.in-Some.ensures.some h.0,
  further_behind _ _ _ _ _ _ h.1 (next_behind _ _ _ _ _ _ c.in-Some.ensures.some),
  λ contained. ⊎_elim
      (λ same. absurd (true_false (sym (c.same_words.ensures.1 (sym same)) ∙ c.if-same_words.false)))
      (λ later. later)
      (next_or_later _ _ _ _ _ _ c.in-Some.ensures.some c.args.words.now (h.2 contained)),
)
