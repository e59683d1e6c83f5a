-- The rule at the start, and where seats are split and joined.
use Rattle.std.proofs.Common.{Contains, ◌≡◌, ◌≢◌, ◌⊎◌, ℕ, zero, suc, ◌+◌, ◌<◌, ◌≤◌, List, [], ◌∷◌, ◌++◌, None, Option, Some, ap, arith, inl, inr, length, length-set, refl, set, subst, sym, ◌∙◌, ⊎_elim}
use mathlib.Core.Logic.{dite}
use mathlib.Core.Option.{some, some-injective, some-ne-none}
use native.Mathlib.Decide.{ℕ_discrete}
use lib.ListN.{get_elem?}
use Rattle.atomic_table.specs.Table.{Joins, Splits, opening}
use Rattle.atomic_table.specs.Table as table
use Rattle.atomic_table.proofs.Lists.{at_last, at_longer, at_set, set_else}
use Rattle.versions.specs.declared.view.Stage.TheVariants.{Outside}
use Rattle.versions.specs.declared.view.WorkerView.{WorkerView}
use Rattle.versions.specs.declared.view.OperatorView.{OperatorView}
use Rattle.versions.specs.Layout.{Shape, pages_named}
use Rattle.versions.specs.View.{BeginsWith, new_worker}
use Rattle.versions.specs.State.{IsOpening, State, new_operator, new_workers, start_of}
use Rattle.versions.proofs.ListLemmas.{contains_first, elem_below, elem_snoc, get_elem_or}
use Rattle.versions.proofs.MirrorLemmas.{none_some, some_same}
use Rattle.read_section.specs.declared.versions_rule.SeatView.{SeatView}
use Rattle.read_section.specs.VersionsRule.{IsLeftByTrace, IsViewOf, KnowsOperator, KnowsWorker}
use Rattle.read_section.specs.body.SeatView.{first_pages, first_seat, nobody, note_of, published_by, seen_by, spare_alone, told_by, with_worker_of, without_spare, without_worker, worker_alone}
use Rattle.read_section.proofs.VersionsRuleLemmas.{knows_after, now, rule_now}

abbrev picked : {P : Type 0} → Dec P → ℕ → ℕ → ℕ
picked (yes _) a b = a
picked (no _) a b = b

-- the seats of workers, after worker w got another
pub moved_to : (ℕ → ℕ) → ℕ → ℕ → ℕ → ℕ
moved_to seat_of w seat v = picked (ℕ_discrete v w) seat (seat_of v)

pub moved_here : (seat_of : ℕ → ℕ) (w seat : ℕ) → moved_to seat_of w seat w ≡ seat
unfolding moved_to
moved_here seat_of w seat = go (ℕ_discrete w w)
  where
    go : (d : Dec (w ≡ w)) → picked d seat (seat_of w) ≡ seat
    go (yes _) = refl
    go (no n) = absurd (n refl)

pub moved_else : (seat_of : ℕ → ℕ) (w seat v : ℕ) → v ≢ w → moved_to seat_of w seat v ≡ seat_of v
unfolding moved_to
moved_else seat_of w seat v other = go (ℕ_discrete v w)
  where
    go : (d : Dec (v ≡ w)) → picked d seat (seat_of v) ≡ seat_of v
    go (yes e) = absurd (other e)
    go (no _) = refl

module _ {C : Type 0} where
  new_worker_there : (config : C) (pages : List ℕ) (k n w : ℕ) → w < n → get_elem? (new_workers config pages k n) w ≡ some (new_worker config pages (k + w))
  new_worker_there config pages k zero w l = absurd (omega arith)
  new_worker_there config pages k (suc n) zero l = ap (λ (j : ℕ). some (new_worker config pages j)) (let g : k ≡ k + 0 = omega arith in g)
  new_worker_there config pages k (suc n) (suc w) l = new_worker_there config pages (suc k) n w (omega arith) ∙ ap (λ (j : ℕ). some (new_worker config pages j)) (let g : suc k + w ≡ k + suc w = omega arith in g)

module _ {C : Type 0} where
  given_there : (views : List (SeatView C)) (id other : ℕ) (both given : SeatView C) → other ≢ id → get_elem? (set views id both) other ≡ some given → get_elem? views other ≡ some given
  given_there views id other both given apart there = ⊎_elim (λ t. absurd (apart t.0)) (λ t. t.1) (at_set views id other both given there)

module _ {C : Type 0} (shape : Shape C) (config : C) (pages : List ℕ) where
  -- worker w goes from one seat to another, and a third knows what it knew
  IsViewOf-moved : (st : State C) (seat_of : ℕ → ℕ) (operator_seat w from to seat : ℕ) (v : SeatView C) → seat_of w ≡ from → seat ≢ from → IsViewOf shape config pages st seat_of operator_seat seat v
      → IsViewOf shape config pages st (moved_to seat_of w to) operator_seat seat v
  IsViewOf-moved st seat_of operator_seat w from to seat v mine other is = record {
    worker = λ b e. let o = is.worker b e in (moved_else seat_of w to b.number (λ h. other (sym o.0 ∙ (ap seat_of h ∙ mine))) ∙ o.0, o.1);
    operator = is.operator;
    spare = λ u l low. let o = is.spare u l low in (moved_else seat_of w to u (λ e. other (sym o.0 ∙ (ap seat_of e ∙ mine))) ∙ o.0, o.1);
    told = is.told;
  }

  IsViewOf-nobody : (st : State C) (seat_of : ℕ → ℕ) (operator_seat seat : ℕ) → IsViewOf shape config pages st seat_of operator_seat seat (nobody shape)
  IsViewOf-nobody st seat_of operator_seat seat = record {
    worker = λ b e. absurd (none_some b e);
    operator = λ o e. absurd (none_some o e);
    spare = λ w l low. absurd (omega arith);
    told = (st.operator.published, refl);
  }

module _ {C : Type 0} (shape : Shape C) (IsPublishable : C → Type 0) {S : Type 0} (config : C) where
  abbrev Kept : table.State S (SeatView C) → Type 0
  Kept = IsLeftByTrace shape IsPublishable config

  pub opens : (stored : List ℕ) → IsOpening shape config stored → IsPublishable config → Kept (opening (start_of shape config stored).words [] (first_seat shape config stored))
  opens stored is publishable = record {
    stored = stored;
    trace = [];
    seat_of = λ _. 0;
    operator_seat = 0;
    opening = is;
    legal = tt;
    words = refl;
    publishable = λ c there. ⊎_elim (λ e. subst IsPublishable e publishable) (λ (none : Contains [] c). absurd (let l = none.1 in omega arith)) (contains_first config c [] there);
    each_seat = λ seat v at. ⊎_elim
        (λ (t : (seat ≡ 0) × (first_seat shape config stored ≡ v)). subst (λ (y : SeatView C). IsViewOf shape config (pages_named shape stored 0) (start_of shape config stored) (λ _. 0) 0 seat y) t.1 record {
          worker = λ b e. absurd (none_some b e);
          operator = λ o e. (sym t.0, sym (some_same (new_operator shape config stored) o e));
          spare = λ w l low. (sym t.0, new_worker_there config (pages_named shape stored 0) 0 shape.workers w low ∙ ap (λ (k : ℕ). some (new_worker config (pages_named shape stored 0) k)) (let g : 0 + w ≡ w = omega arith in g));
          told = (config ∷ [], refl);
        })
        (λ (t : (seat ≢ 0) × (get_elem? (first_seat shape config stored ∷ []) seat ≡ some v)). absurd (beyond seat v t.0 t.1)) (at_set (first_seat shape config stored ∷ []) 0 seat (first_seat shape config stored) v at);
    each_worker = λ w low. (first_seat shape config stored, refl, inr (omega arith));
    the_operator = (first_seat shape config stored, refl, (new_operator shape config stored, refl));
  }
    where
      beyond : (seat : ℕ) (v : SeatView C) → seat ≢ 0 → get_elem? (first_seat shape config stored ∷ []) seat ≡ some v → ⊥
      beyond zero v other e = other refl
      beyond (suc seat) v other e = some-ne-none v (sym e)

  -- which seat knows worker w after a split
  abbrev StaysKnown : (s : table.State S (SeatView C)) → Kept s → (ℕ → ℕ) → SeatView C → SeatView C → SeatView C → ℕ → Type 0
  StaysKnown s kept seat_of' v left right w =
      ((seat_of' w ≡ length s.views) × KnowsWorker shape right w) ⊎ ((seat_of' w ≡ kept.seat_of w) × (KnowsWorker shape v w → KnowsWorker shape left w))

  IsLeftByTrace-split : (s : table.State S (SeatView C)) (kept : Kept s) (id : ℕ) (v left right : SeatView C) (seat_of' : ℕ → ℕ) → get_elem? s.views id ≡ some v
      → IsViewOf shape config (pages_named shape kept.stored 0) (now shape IsPublishable config s kept) seat_of' kept.operator_seat id left → IsViewOf shape config (pages_named shape kept.stored 0) (now shape IsPublishable config s kept) seat_of' kept.operator_seat (length s.views) right
      → ((seat : ℕ) (u : SeatView C) → seat ≢ id → seat < length s.views → IsViewOf shape config (pages_named shape kept.stored 0) (now shape IsPublishable config s kept) kept.seat_of kept.operator_seat seat u → IsViewOf shape config (pages_named shape kept.stored 0) (now shape IsPublishable config s kept) seat_of' kept.operator_seat seat u)
      → ((w : ℕ) → w < shape.workers → StaysKnown s kept seat_of' v left right w) → (KnowsOperator shape v → KnowsOperator shape left)
      → Kept record { words = s.words; homes = s.homes; views = set s.views id left ++ right ∷ [] }
  IsLeftByTrace-split s kept id v left right seat_of' at on_left on_right others workers operator = record {
    stored = kept.stored;
    trace = kept.trace;
    seat_of = seat_of';
    operator_seat = kept.operator_seat;
    opening = kept.opening;
    legal = kept.legal;
    words = kept.words;
    publishable = kept.publishable;
    each_seat = λ j u there. ⊎_elim
        (λ was. ⊎_elim (λ (t : (j ≡ id) × (left ≡ u)). subst (λ (y : SeatView C). IsViewOf shape config (pages_named shape kept.stored 0) (now shape IsPublishable config s kept) seat_of' kept.operator_seat j y) t.1
        (subst (λ (i : ℕ). IsViewOf shape config (pages_named shape kept.stored 0) (now shape IsPublishable config s kept) seat_of' kept.operator_seat i left) (sym t.0) on_left))
        (λ (t : (j ≢ id) × (get_elem? s.views j ≡ some u)). others j u t.0 (elem_below s.views j u t.1) (kept.each_seat j u t.1)) (at_set s.views id j left u was))
        (λ (t : (j ≡ length (set s.views id left)) × (right ≡ u)). subst (λ (y : SeatView C). IsViewOf shape config (pages_named shape kept.stored 0) (now shape IsPublishable config s kept) seat_of' kept.operator_seat j y) t.1
        (subst (λ (i : ℕ). IsViewOf shape config (pages_named shape kept.stored 0) (now shape IsPublishable config s kept) seat_of' kept.operator_seat i right) (sym (t.0 ∙ length-set s.views id left)) on_right))
        (elem_snoc (set s.views id left) right u j there);
    each_worker = λ w low. ⊎_elim
        (λ here. (right, ap (get_elem? (set s.views id left ++ right ∷ [])) here.0 ∙ at_last (set s.views id left) right (length s.views) (length-set s.views id left), here.1))
        (λ stays. let found = knows_after s.views id (kept.seat_of w) v left (λ y. KnowsWorker shape y w) at stays.1 (kept.each_worker w low) in
        (found.0, ap (get_elem? (set s.views id left ++ right ∷ [])) stays.0 ∙ at_longer (set s.views id left) (right ∷ []) (kept.seat_of w) found.0 found.1, found.2))
        (workers w low);
    the_operator = let found = knows_after s.views id kept.operator_seat v left (KnowsOperator shape) at operator kept.the_operator in (found.0, at_longer (set s.views id left) (right ∷ []) kept.operator_seat found.0 found.1, found.2);
  }

  pub splits_spare : (id : ℕ) (v : SeatView C) (view : OperatorView C) → v.worker ≡ None → v.operator ≡ Some view → view.published ≡ config ∷ [] → v.spare < shape.workers
      → Splits Kept id v (without_spare v) (spare_alone shape v)
  splits_spare id v view none is first low s kept at =
      let ours = kept.each_seat id v at in let new : ℕ = length s.views in let mine = ours.spare v.spare (omega arith) low in let st = now shape IsPublishable config s kept in
      let published : published_by v.operator ≡ config ∷ [] = ap published_by is ∙ first in
      let pages : List ℕ = pages_named shape kept.stored 0 in
      let paged : first_pages v.operator ≡ pages = ap first_pages is ∙ (ap (λ (y : OperatorView C). first_pages (Some y)) (ours.operator view is).1
      ∙ get_elem_or st.operator.version_pages 0 pages [] ((rule_now shape IsPublishable config s kept).each_worker v.spare (new_worker config pages v.spare) mine.1).pages) in
      let given : WorkerView C = record { number = v.spare; stage = Outside; log = []; seen = published_by v.operator; pages = first_pages v.operator } in
      let given_is : new_worker config pages v.spare ≡ given = λ i. let y : WorkerView C = record { number = v.spare; stage = Outside; log = []; seen = sym published i; pages = sym paged i } in y in
      let below = elem_below s.views id v at in
      IsLeftByTrace-split s kept id v (without_spare v) (spare_alone shape v) (moved_to kept.seat_of v.spare new) at
      record {
        worker = λ b e. absurd (none_some b (sym none ∙ e));
        operator = ours.operator;
        spare = λ w l small. let o = ours.spare w (omega arith) small in (moved_else kept.seat_of v.spare new w (λ e. omega arith) ∙ o.0, o.1);
        told = ours.told;
      }
      record {
        worker = λ b e. subst (λ (y : WorkerView C). (moved_to kept.seat_of v.spare new y.number ≡ new) × (get_elem? st.workers y.number ≡ some y)) (some_same given b e) (moved_here kept.seat_of v.spare new, mine.1 ∙ ap some given_is);
        operator = λ o e. absurd (none_some o e);
        spare = λ w l small. absurd (omega arith);
        told = (st.operator.published, refl);
      }
      (λ seat u other near f. IsViewOf-moved shape config (pages_named shape kept.stored 0) st kept.seat_of kept.operator_seat v.spare id new seat u mine.0 other f)
      (λ w small. dite (ℕ_discrete w v.spare)
      (λ e. inl (ap (moved_to kept.seat_of v.spare new) e ∙ moved_here kept.seat_of v.spare new, inl (given, refl, sym e)))
      (λ other. inr (moved_else kept.seat_of v.spare new w other, ⊎_elim (λ knows. absurd (none_some knows.0 (sym none ∙ knows.1))) (λ (up : v.spare ≤ w). inr (omega arith)))))
      (λ knows. knows)

  pub splits_give : (id : ℕ) (v : SeatView C) (view : WorkerView C) → v.worker ≡ Some view → shape.workers ≤ v.spare → Splits Kept id v (without_worker v) (worker_alone shape v)
  splits_give id v view is no_spare s kept at =
      let ours = kept.each_seat id v at in let new : ℕ = length s.views in let mine = ours.worker view is in let st = now shape IsPublishable config s kept in
      IsLeftByTrace-split s kept id v (without_worker v) (worker_alone shape v) (moved_to kept.seat_of view.number new) at
      record {
        worker = λ b e. absurd (none_some b e);
        operator = ours.operator;
        spare = λ w l small. absurd (omega arith);
        told = ours.told;
      }
      record {
        worker = λ b e. subst (λ (y : WorkerView C). (moved_to kept.seat_of view.number new y.number ≡ new) × (get_elem? st.workers y.number ≡ some y)) (some_same view b (sym is ∙ e)) (moved_here kept.seat_of view.number new, mine.1);
        operator = λ o e. absurd (none_some o e);
        spare = λ w l small. absurd (omega arith);
        told = (st.operator.published, refl);
      }
      (λ seat u other near f. IsViewOf-moved shape config (pages_named shape kept.stored 0) st kept.seat_of kept.operator_seat view.number id new seat u mine.0 other f)
      (λ w small. dite (ℕ_discrete w view.number)
      (λ e. inl (ap (moved_to kept.seat_of view.number new) e ∙ moved_here kept.seat_of view.number new, inl (view, is, sym e)))
      (λ other. inr (
        moved_else kept.seat_of view.number new w other,
        ⊎_elim (λ knows. absurd (other (sym (ap (λ (y : WorkerView C). y.number) (some_same view knows.0 (sym is ∙ knows.1)) ∙ knows.2)))) (λ up. inr up),
      )))
      (λ knows. knows)

  pub splits_note : (id : ℕ) (v : SeatView C) (view : WorkerView C) → v.worker ≡ Some view → Splits Kept id v v (note_of shape v)
  splits_note id v view is s kept at =
      let ours = kept.each_seat id v at in let mine = ours.worker view is in let st = now shape IsPublishable config s kept in
      IsLeftByTrace-split s kept id v v (note_of shape v) kept.seat_of at ours
      record {
        worker = λ b e. absurd (none_some b e);
        operator = λ o e. absurd (none_some o e);
        spare = λ w l small. absurd (omega arith);
        told = subst (λ (o : Option (WorkerView C)). BeginsWith st.operator.published (seen_by o)) (sym is) ((rule_now shape IsPublishable config s kept).each_worker view.number view mine.1).begins;
      }
      (λ seat u other near f. f)
      (λ w small. inr (refl, λ knows. knows))
      (λ knows. knows)

  -- which seat knows worker w after a join
  abbrev IsTaken : (s : table.State S (SeatView C)) → Kept s → (ℕ → ℕ) → ℕ → SeatView C → SeatView C → SeatView C → ℕ → Type 0
  IsTaken s kept seat_of' id v given both w =
      ((seat_of' w ≡ id) × KnowsWorker shape both w) ⊎ ((seat_of' w ≡ kept.seat_of w) × (KnowsWorker shape v w → KnowsWorker shape both w) × (KnowsWorker shape given w → ⊥))

  IsLeftByTrace-join : (s : table.State S (SeatView C)) (kept : Kept s) (id : ℕ) (v : SeatView C) (other : ℕ) (given both : SeatView C) (seat_of' : ℕ → ℕ) → get_elem? s.views id ≡ some v → other ≢ id → get_elem? s.views other ≡ some given
      → IsViewOf shape config (pages_named shape kept.stored 0) (now shape IsPublishable config s kept) seat_of' kept.operator_seat id both
      → ((seat : ℕ) (u : SeatView C) → seat ≢ id → seat ≢ other → IsViewOf shape config (pages_named shape kept.stored 0) (now shape IsPublishable config s kept) kept.seat_of kept.operator_seat seat u → IsViewOf shape config (pages_named shape kept.stored 0) (now shape IsPublishable config s kept) seat_of' kept.operator_seat seat u)
      → ((w : ℕ) → w < shape.workers → IsTaken s kept seat_of' id v given both w) → (KnowsOperator shape v → KnowsOperator shape both) → (KnowsOperator shape given → ⊥)
      → Kept record { words = s.words; homes = s.homes; views = set (set s.views id both) other (nobody shape) }
  IsLeftByTrace-join s kept id v other given both seat_of' at apart gives on_both others workers operator no_operator = record {
    stored = kept.stored;
    trace = kept.trace;
    seat_of = seat_of';
    operator_seat = kept.operator_seat;
    opening = kept.opening;
    legal = kept.legal;
    words = kept.words;
    publishable = kept.publishable;
    each_seat = λ j u there. ⊎_elim
        (λ (t : (j ≡ other) × (nobody shape ≡ u)). subst (λ (y : SeatView C). IsViewOf shape config (pages_named shape kept.stored 0) (now shape IsPublishable config s kept) seat_of' kept.operator_seat j y) t.1 (IsViewOf-nobody shape config (pages_named shape kept.stored 0) (now shape IsPublishable config s kept) seat_of' kept.operator_seat j))
        (λ (b : (j ≢ other) × (get_elem? (set s.views id both) j ≡ some u)). ⊎_elim
        (λ (t : (j ≡ id) × (both ≡ u)). subst (λ (y : SeatView C). IsViewOf shape config (pages_named shape kept.stored 0) (now shape IsPublishable config s kept) seat_of' kept.operator_seat j y) t.1
        (subst (λ (i : ℕ). IsViewOf shape config (pages_named shape kept.stored 0) (now shape IsPublishable config s kept) seat_of' kept.operator_seat i both) (sym t.0) on_both))
        (λ (t : (j ≢ id) × (get_elem? s.views j ≡ some u)). others j u t.0 b.0 (kept.each_seat j u t.1))
        (at_set s.views id j both u b.1))
        (at_set (set s.views id both) other j (nobody shape) u there);
    each_worker = λ w low. ⊎_elim
        (λ here. (both, ap (get_elem? (set (set s.views id both) other (nobody shape))) here.0 ∙ (set_else (set s.views id both) other id (nobody shape) (λ e. apart (sym e)) ∙ both_there), here.1))
        (λ stays. let was = kept.each_worker w low in let found = knows_after s.views id (kept.seat_of w) v both (λ y. KnowsWorker shape y w) at stays.1 was in
        let not_other : kept.seat_of w ≢ other = λ e. stays.2 (subst (λ (y : SeatView C). KnowsWorker shape y w) (some-injective was.0 given (sym was.1 ∙ (ap (get_elem? s.views) e ∙ gives))) was.2) in
        (found.0, ap (get_elem? (set (set s.views id both) other (nobody shape))) stays.0 ∙ (set_else (set s.views id both) other (kept.seat_of w) (nobody shape) not_other ∙ found.1), found.2))
        (workers w low);
    the_operator = let was = kept.the_operator in let found = knows_after s.views id kept.operator_seat v both (KnowsOperator shape) at operator was in
        let not_other : kept.operator_seat ≢ other = λ e. no_operator (subst (KnowsOperator shape) (some-injective was.0 given (sym was.1 ∙ (ap (get_elem? s.views) e ∙ gives))) was.2) in
        (found.0, set_else (set s.views id both) other kept.operator_seat (nobody shape) not_other ∙ found.1, found.2);
  }
    where
      both_there : get_elem? (set s.views id both) id ≡ some both
      both_there = Rattle.atomic_table.proofs.Lists.set_here s.views id both (elem_below s.views id v at)

  pub joins_take : (id : ℕ) (v : SeatView C) (other : ℕ) (given : SeatView C) (view : WorkerView C) → given.worker ≡ Some view → given.operator ≡ None → shape.workers ≤ given.spare → shape.workers ≤ v.spare → v.worker ≡ None
      → Joins Kept id v other given (with_worker_of v given) (nobody shape)
  joins_take id v other given view is no_operator given_spare no_spare none s kept at apart there =
      let ours = kept.each_seat id v at in let st = now shape IsPublishable config s kept in let gives = given_there s.views id other (with_worker_of v given) given apart there in let from = (kept.each_seat other given gives).worker view is in
      IsLeftByTrace-join s kept id v other given (with_worker_of v given) (moved_to kept.seat_of view.number id) at apart gives
      record {
        worker = λ b e. subst (λ (y : WorkerView C). (moved_to kept.seat_of view.number id y.number ≡ id) × (get_elem? st.workers y.number ≡ some y)) (some_same view b (sym is ∙ e)) (moved_here kept.seat_of view.number id, from.1);
        operator = ours.operator;
        spare = λ w l small. absurd (omega arith);
        told = ours.told;
      }
      (λ seat u not_id not_other f. IsViewOf-moved shape config (pages_named shape kept.stored 0) st kept.seat_of kept.operator_seat view.number other id seat u from.0 not_other f)
      (λ w small. dite (ℕ_discrete w view.number)
      (λ e. inl (ap (moved_to kept.seat_of view.number id) e ∙ moved_here kept.seat_of view.number id, inl (view, is, sym e)))
      (λ else. inr (
        moved_else kept.seat_of view.number id w else,
        ⊎_elim (λ knows. absurd (none_some knows.0 (sym none ∙ knows.1))) (λ up. inr up),
        ⊎_elim (λ knows. else (sym (ap (λ (y : WorkerView C). y.number) (some_same view knows.0 (sym is ∙ knows.1)) ∙ knows.2))) (λ (up : given.spare ≤ w). absurd (omega arith)),
      )))
      (λ knows. knows)
      (λ knows. none_some knows.0 (sym no_operator ∙ knows.1))

  pub joins_note : (id : ℕ) (v : SeatView C) (other : ℕ) (given : SeatView C) → given.worker ≡ None → given.operator ≡ None → shape.workers ≤ given.spare → Joins Kept id v other given (told_by v given) (nobody shape)
  joins_note id v other given no_worker no_operator given_spare s kept at apart there =
      let ours = kept.each_seat id v at in let gives = given_there s.views id other (told_by v given) given apart there in
      IsLeftByTrace-join s kept id v other given (told_by v given) kept.seat_of at apart gives record { worker = ours.worker; operator = ours.operator; spare = ours.spare; told = (kept.each_seat other given gives).told }
      (λ seat u not_id not_other f. f)
      (λ w small. inr (refl, (λ knows. knows), ⊎_elim (λ knows. none_some knows.0 (sym no_worker ∙ knows.1)) (λ (up : given.spare ≤ w). absurd (omega arith))))
      (λ knows. knows)
      (λ knows. none_some knows.0 (sym no_operator ∙ knows.1))
