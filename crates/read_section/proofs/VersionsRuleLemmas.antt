-- How the rule follows a step: the trace grows, and the seat that made the step knows more.
use Rattle.std.proofs.Common.{Contains, ◌≡◌, ◌≢◌, ℕ, suc, ◌/◌, ◌≤◌, List, [], ◌∷◌, ◌++◌, Some, ap, append_assoc, arith, get_or, inl, inr, refl, set, slice_index, slice_index_or, subst, sym, ◌∙◌, ⊎_elim}
use Rattle.std.proofs.lemmas.List.{set-get_or, take_all}
use mathlib.Core.Logic.{dite}
use native.Mathlib.Decide.{ℕ_discrete}
use mathlib.Core.Option.{some}
use lib.ListN.{get_elem?}
use Rattle.atomic_table.specs.Table as table
use Rattle.atomic_table.proofs.Lists.{at_set, set_else, set_here}
use Rattle.versions.specs.declared.step.Step.{Step}
use Rattle.versions.specs.declared.step.Event.{Event}
use Rattle.versions.specs.declared.step.Event.TheVariants.{Stepped}
use Rattle.versions.specs.declared.view.WorkerView.{WorkerView}
use Rattle.versions.specs.declared.view.OperatorView.{OperatorView}
use Rattle.versions.specs.Layout.{Shape, pages_named}
use Rattle.versions.specs.View.{BeginsWith, last_pinned, up_to}
use Rattle.versions.specs.State.{State, after_step, change, start_of, state_after}
use Rattle.versions.specs.Legal.{IsLegal, IsLegalStep, IsReached}
use Rattle.versions.proofs.ListLemmas.{change_else, change_here, elem_below, get_elem_or}
use Rattle.versions.proofs.MirrorLemmas.{some_same}
use Rattle.versions.proofs.Coherence.{Coheres, current_is, seen_is}
use Rattle.versions.proofs.TraceLemmas.{Coheres-reached}
use Rattle.read_section.specs.declared.versions_rule.SeatView.{SeatView}
use Rattle.read_section.specs.body.Plays.{ShowsSeat}
use Rattle.read_section.specs.VersionsRule.{IsLeftByTrace, IsViewOf, KnowsOperator, KnowsWorker}
use Rattle.read_section.specs.body.SeatView.{with_operator, with_worker}

module _ {C : Type 0} where
  -- a seat knows one worker, and one operator
  pub for_worker : (v : SeatView C) (a : WorkerView C) → v.worker ≡ Some a → (P : WorkerView C → Type 0) → P a → (b : WorkerView C) → v.worker ≡ Some b → P b
  for_worker v a is P here b is' = subst P (some_same a b (sym is ∙ is')) here

  pub for_operator : (v : SeatView C) (a : OperatorView C) → v.operator ≡ Some a → (P : OperatorView C → Type 0) → P a → (b : OperatorView C) → v.operator ≡ Some b → P b
  for_operator v a is P here b is' = subst P (some_same a b (sym is ∙ is')) here

module _ {C : Type 0} where
  -- who knew something still knows it, where the view of one seat changes to one that knows it
  pub knows_after : (views : List (SeatView C)) (id seat : ℕ) (v v' : SeatView C) (P : SeatView C → Type 0) → get_elem? views id ≡ some v → (P v → P v')
      → (view : SeatView C) × (get_elem? views seat ≡ some view) × P view → (view : SeatView C) × (get_elem? (set views id v') seat ≡ some view) × P view
  knows_after views id seat v v' P at still (view, there, knows) = dite (ℕ_discrete seat id)
      (λ e. let same : view ≡ v = some_elem view v (sym there ∙ (ap (get_elem? views) e ∙ at)) in
      (v', ap (get_elem? (set views id v')) e ∙ set_here views id v' (elem_below views id v at), still (subst P same knows)))
      (λ other. (view, set_else views id seat v' other ∙ there, knows))
    where
      some_elem : (x y : SeatView C) → some x ≡ some y → x ≡ y
      some_elem x y e = mathlib.Core.Option.some-injective x y e

module _ {C : Type 0} (shape : Shape C) (IsPublishable : C → Type 0) {S : Type 0} (config : C) where
  -- the state after the trace
  abbrev pub now : (s : table.State S (SeatView C)) → IsLeftByTrace shape IsPublishable config s → State C
  now s kept = state_after shape (start_of shape config kept.stored) kept.trace

  pub reached : (s : table.State S (SeatView C)) (kept : IsLeftByTrace shape IsPublishable config s) → IsReached shape (now s kept)
  reached s kept = record { config = config; stored = kept.stored; trace = kept.trace; opening = kept.opening; legal = kept.legal; reached = refl }

  pub rule_now : (s : table.State S (SeatView C)) (kept : IsLeftByTrace shape IsPublishable config s) → Coheres shape (now s kept)
  rule_now s kept = Coheres-reached shape (now s kept) (reached s kept)

  -- the trace goes on to a state that the seat's new view and the other seats' views are of
  pub IsLeftByTrace-on : (s : table.State S (SeatView C)) (kept : IsLeftByTrace shape IsPublishable config s) (id : ℕ) (v v' : SeatView C) (trace : List (Event C)) (after : State C)
      → get_elem? s.views id ≡ some v → IsLegal shape (start_of shape config kept.stored) trace → state_after shape (start_of shape config kept.stored) trace ≡ after
      → ((published : C) → Contains after.operator.published published → IsPublishable published)
      → IsViewOf shape config (pages_named shape kept.stored 0) after kept.seat_of kept.operator_seat id v'
      → ((seat : ℕ) (view : SeatView C) → seat ≢ id → IsViewOf shape config (pages_named shape kept.stored 0) (now s kept) kept.seat_of kept.operator_seat seat view → IsViewOf shape config (pages_named shape kept.stored 0) after kept.seat_of kept.operator_seat seat view)
      → ((w : ℕ) → KnowsWorker shape v w → KnowsWorker shape v' w) → (KnowsOperator shape v → KnowsOperator shape v')
      → IsLeftByTrace shape IsPublishable config record { words = after.words; homes = s.homes; views = set s.views id v' }
  IsLeftByTrace-on s kept id v v' trace after at legal reached publishable own others workers operator = record {
    stored = kept.stored;
    trace = trace;
    seat_of = kept.seat_of;
    operator_seat = kept.operator_seat;
    opening = kept.opening;
    legal = legal;
    words = sym (ap (λ (st : State C). st.words) reached);
    publishable = subst (λ (st : State C). (published : C) → Contains st.operator.published published → IsPublishable published) (sym reached) publishable;
    each_seat = λ j u there. subst (λ (st : State C). IsViewOf shape config (pages_named shape kept.stored 0) st kept.seat_of kept.operator_seat j u) (sym reached) (⊎_elim
        (λ (t : (j ≡ id) × (v' ≡ u)). subst (λ (y : SeatView C). IsViewOf shape config (pages_named shape kept.stored 0) after kept.seat_of kept.operator_seat j y) t.1
        (subst (λ (i : ℕ). IsViewOf shape config (pages_named shape kept.stored 0) after kept.seat_of kept.operator_seat i v') (sym t.0) own))
        (λ (t : (j ≢ id) × (get_elem? s.views j ≡ some u)). others j u t.0 (kept.each_seat j u t.1))
        (at_set s.views id j v' u there));
    each_worker = λ w low. knows_after s.views id (kept.seat_of w) v v' (λ y. KnowsWorker shape y w) at (workers w) (kept.each_worker w low);
    the_operator = knows_after s.views id kept.operator_seat v v' (KnowsOperator shape) at operator kept.the_operator;
  }

  -- a worker's step
  pub IsLeftByTrace-worker : (s : table.State S (SeatView C)) (kept : IsLeftByTrace shape IsPublishable config s) (id : ℕ) (v : SeatView C) (view : WorkerView C) (step : Step) (x : ℕ) (f : WorkerView C → WorkerView C) (words' : List ℕ)
      → get_elem? s.views id ≡ some v → v.worker ≡ Some view → shape.workers ≤ v.spare → (f view).number ≡ view.number → IsLegalStep shape (now s kept) step x
      → after_step shape (now s kept) step x ≡ record { words = words'; workers = change view.number f (now s kept).workers; operator = (now s kept).operator }
      → IsLeftByTrace shape IsPublishable config record { words = words'; homes = s.homes; views = set s.views id (with_worker v (f view)) }
  IsLeftByTrace-worker s kept id v view step x f words' at is no_spare same_number may moves =
      let ours = kept.each_seat id v at in let mine = ours.worker view is in
      let after : State C = record { words = words'; workers = change view.number f (now s kept).workers; operator = (now s kept).operator } in
      let there : get_elem? after.workers view.number ≡ some (f view) = change_here f (now s kept).workers view.number view mine.1 in
      IsLeftByTrace-on s kept id v (with_worker v (f view)) (Stepped step x ∷ kept.trace) after at (kept.legal, may) moves kept.publishable
      record {
        worker = λ b e. subst (λ (y : WorkerView C). (kept.seat_of y.number ≡ id) × (get_elem? after.workers y.number ≡ some y)) (some_same (f view) b e)
            (ap kept.seat_of same_number ∙ mine.0, ap (get_elem? after.workers) same_number ∙ there);
        operator = ours.operator;
        spare = λ w l low. absurd (omega arith);
        told = ours.told;
      }
      (λ seat u other theirs. record {
        worker = λ b e. let o = theirs.worker b e in (o.0, change_else f (now s kept).workers view.number b.number (λ h. other (sym o.0 ∙ (ap kept.seat_of h ∙ mine.0))) ∙ o.1);
        operator = theirs.operator;
        spare = λ w l low. let o = theirs.spare w l low in (o.0, change_else f (now s kept).workers view.number w (λ h. other (sym o.0 ∙ (ap kept.seat_of h ∙ mine.0))) ∙ o.1);
        told = theirs.told;
      })
      (λ w. ⊎_elim (λ knows. inl (f view, refl, same_number ∙ (ap (λ (y : WorkerView C). y.number) (some_same view knows.0 (sym is ∙ knows.1)) ∙ knows.2))) inr)
      (λ knows. knows)

  -- steps of the operator, after which it knows this
  pub IsLeftByTrace-operator : (s : table.State S (SeatView C)) (kept : IsLeftByTrace shape IsPublishable config s) (id : ℕ) (v : SeatView C) (view view' : OperatorView C) (trace : List (Event C)) (words' : List ℕ)
      → get_elem? s.views id ≡ some v → v.operator ≡ Some view → IsLegal shape (start_of shape config kept.stored) trace
      → state_after shape (start_of shape config kept.stored) trace ≡ record { words = words'; workers = (now s kept).workers; operator = view' }
      → BeginsWith view'.published view.published → ((published : C) → Contains view'.published published → IsPublishable published)
      → IsLeftByTrace shape IsPublishable config record { words = words'; homes = s.homes; views = set s.views id (with_operator v view') }
  IsLeftByTrace-operator s kept id v view view' trace words' at is legal moves longer publishable =
      let ours = kept.each_seat id v at in let mine = ours.operator view is in
      let after : State C = record { words = words'; workers = (now s kept).workers; operator = view' } in
      let still : (told : List C) → BeginsWith (now s kept).operator.published told → BeginsWith view'.published told =
      λ told b. (b.0 ++ longer.0, longer.1 ∙ (ap (λ (y : OperatorView C). y.published ++ longer.0) mine.1 ∙ (ap (λ l. l ++ longer.0) b.1 ∙ append_assoc told b.0 longer.0))) in
      IsLeftByTrace-on s kept id v (with_operator v view') trace after at legal moves publishable
      record {
        worker = ours.worker;
        operator = λ o e. (mine.0, sym (some_same view' o e));
        spare = ours.spare;
        told = still v.told ours.told;
      }
      (λ seat u other theirs. record {
        worker = theirs.worker;
        operator = λ o e. absurd (other (sym (theirs.operator o e).0 ∙ mine.0));
        spare = theirs.spare;
        told = still u.told theirs.told;
      })
      (λ w knows. knows)
      (λ knows. (view', refl))

  -- a load leaves the words as they are
  pub loaded : (s : table.State S (SeatView C)) (place : ℕ) (views : List (SeatView C)) → IsLeftByTrace shape IsPublishable config record { words = s.words; homes = s.homes; views = views }
      → IsLeftByTrace shape IsPublishable config record { words = set s.words place (get_or s.words place 0); homes = s.homes; views = views }
  loaded s place views h = subst (λ ws. IsLeftByTrace shape IsPublishable config record { words = ws; homes = s.homes; views = views }) (sym (set-get_or s.words place 0)) h

  -- what a load of `current` that gives x shows a seat with a worker
  pub shown : (s : table.State S (SeatView C)) (kept : IsLeftByTrace shape IsPublishable config s) (id : ℕ) (v : SeatView C) (view : WorkerView C) (x : ℕ) → get_elem? s.views id ≡ some v → v.worker ≡ Some view → x ≡ slice_index (now s kept).words 0
      → ShowsSeat shape IsPublishable v view x (up_to (x / shape.rows) (now s kept).operator.published)
  shown s kept id v view x at is e =
      let h = rule_now s kept in let ours = kept.each_seat id v at in let mine = ours.worker view is in let top = (current_is shape (now s kept) h x e).0 in let long = h.published_length in
      let all : up_to (x / shape.rows) (now s kept).operator.published ≡ (now s kept).operator.published = take_all (suc (x / shape.rows)) (now s kept).operator.published (omega arith) in record {
        shows = record { up_to_version = (seen_is shape (now s kept) h x e).1; goes_on = subst (λ l. BeginsWith l view.seen) (sym all) (h.each_worker view.number view mine.1).begins };
        told = subst (λ l. BeginsWith l v.told) (sym all) ours.told;
        all = λ o q. all ∙ ap (λ (y : OperatorView C). y.published) (sym (ours.operator o q).1);
        publishable = λ c there. kept.publishable c (subst (λ l. Contains l c) all there);
        own = (h.each_worker view.number view mine.1).own;
      }

  -- the pages of the version that a seat's worker pinned last are those that it knows
  pub pages_kept : (s : table.State S (SeatView C)) (kept : IsLeftByTrace shape IsPublishable config s) (id : ℕ) (v : SeatView C) (view : WorkerView C) (n : ℕ) → get_elem? s.views id ≡ some v → v.worker ≡ Some view → n ≡ last_pinned shape.rows view.log
      → slice_index_or (now s kept).operator.version_pages n [] ≡ view.pages
  pages_kept s kept id v view n at is last =
      let all = (now s kept).operator.version_pages in let mine = (kept.each_seat id v at).worker view is in let ok = (rule_now s kept).each_worker view.number view mine.1 in
      get_elem_or all n view.pages [] (ap (get_elem? all) last ∙ ok.pages)
