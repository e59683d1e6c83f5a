use Rattle.std.proofs.Common.{IsTrue, arith, false, subst, sym, true, ◌<◌, ◌≡◌, ◌≤◌, ◌∙◌, ◌↔◌, ⊎_elim}
use Rattle.std.proofs.lemmas.Bool.{cases_lt}
use mathlib.Core.Logic.{dite}
use native.Mathlib.Decide.{ℕ_discrete}
use Rattle.versions.specs.Free.{IsFreePage}
use Rattle.versions.specs.Table.{the_shape}
use Rattle.versions.proofs.ShapeLemmas.{pages_is}
use Rattle.read_section.specs.Operator.{NeverShort, OperatorValue}
use Rattle.read_section.proofs.PoolLemmas.{never_short}
use Rattle.read_section.proofs.operator.Operator.free_page.Goals as goal

true_false : true ≡ false → ⊥
true_false e = cc

pub returns-then-page_is_free-clause-least : goal.returns-then-page_is_free-clause-least
returns-then-page_is_free-clause-least c = record {
  from_there = c.loop-page.auto.page;
  free = (subst (λ (o : OperatorValue). IsTrue c.page_is_free.result ↔ IsFreePage the_shape o.view c.loop-page.page) c.self.view_is (c.page_is_free.ensures.free_page_exact _ c.self.invariant.steps_told)).0 c.if-page_is_free.true;
  least = λ q from free. ⊎_elim (λ (below : q < c.loop-page.page). absurd (c.loop-page.invariant q from below free)) (λ (up : c.loop-page.page ≤ q). up) (cases_lt q c.loop-page.page);
}

pub returns-then-page_is_free-clause-never_short : goal.returns-then-page_is_free-clause-never_short
returns-then-page_is_free-clause-never_short c = subst (λ (o : OperatorValue). NeverShort o.view) c.self.view_is (never_short _ _ _ _ _ _ _ c.self.invariant)

pub loop-page-preserved : goal.loop-page-preserved
loop-page-preserved c = λ q from below free. dite (ℕ_discrete q c.loop-page.page)
    (λ same. let exact = subst (λ (o : OperatorValue). IsTrue c.page_is_free.result ↔ IsFreePage the_shape o.view c.loop-page.page) c.self.view_is (c.page_is_free.ensures.free_page_exact _ c.self.invariant.steps_told) in
    true_false (sym (exact.1 (subst (IsFreePage the_shape c.args.self.now.view) same free)) ∙ c.if-page_is_free.false))
    (λ other. c.loop-page.invariant q from (omega arith) free)

pub returns-clause-least : goal.returns-clause-least
returns-clause-least c = λ q from free. let end = c.loop-page-test.false in let low = free.0 in c.loop-page.invariant q from (omega (arith, pages_is)) free

pub returns-clause-never_short : goal.returns-clause-never_short
returns-clause-never_short c = subst (λ (o : OperatorValue). NeverShort o.view) c.self.view_is (never_short _ _ _ _ _ _ _ c.self.invariant)
