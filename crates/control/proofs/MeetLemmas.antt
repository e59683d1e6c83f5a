-- Meetings of the operator with each worker in turn.
use Rattle.std.proofs.Common.{◌≡◌, ◌≢◌, ◌∙◌, ◌+◌, ◌<◌, ◌∷◌, List, Some, [], ap, arith, inl, inr, length, length-set, refl, set, slice_get, subst, suc, sym, zero, ℕ}
use Rattle.std.proofs.lemmas.Option.{slice_get_within}
use mathlib.Core.Logic.{dite}
use native.Mathlib.Decide.{ℕ_discrete}
use Rattle.versions.specs.Free.{IsReplaced, IsScannedClear, number_after}
use Rattle.versions.specs.View.{BeginsWith, read_word_after}
use Rattle.versions.proofs.MirrorLemmas.{some_same}
use Rattle.read_section.specs.Operator.{Meets, OperatorValue}
use Rattle.read_section.specs.Worker.{WorkerValue}
use Rattle.control.specs.body.Ready.{AreOutside, IsOutsideAt, MetFirst}

-- ---- lists

module _ {A : Type 0} where
  pub slice_get-set_same : (xs : List A) (i : ℕ) (x : A) → i < length xs → slice_get (set xs i x) i ≡ Some x
  slice_get-set_same [] i x low = absurd (omega arith)
  slice_get-set_same (y ∷ ys) zero x low = refl
  slice_get-set_same (y ∷ ys) (suc i) x low = slice_get-set_same ys i x (omega arith)

  slice_get-set_other : (xs : List A) (i j : ℕ) (x : A) → j ≢ i → slice_get (set xs i x) j ≡ slice_get xs j
  slice_get-set_other [] i j x ne = refl
  slice_get-set_other (y ∷ ys) zero zero x ne = absurd (ne refl)
  slice_get-set_other (y ∷ ys) zero (suc j) x ne = refl
  slice_get-set_other (y ∷ ys) (suc i) zero x ne = refl
  slice_get-set_other (y ∷ ys) (suc i) (suc j) x ne = slice_get-set_other ys i j x (λ e. ne (ap suc e))

  -- what holds of the element that was set, and of each other as it was, holds of each
  pub holds_of_set : (P : ℕ → A → Type 0) (xs : List A) (i : ℕ) (x : A) → i < length xs → P i x
      → ((j : ℕ) (y : A) → j ≢ i → slice_get xs j ≡ Some y → P j y) → (j : ℕ) (y : A) → slice_get (set xs i x) j ≡ Some y → P j y
  holds_of_set P xs i x low here others j y at = dite (ℕ_discrete j i)
      (λ e. subst (λ k. P k y) (sym e) (subst (P i) (some_same x y (sym (slice_get-set_same xs i x low) ∙ ap (slice_get (set xs i x)) (sym e) ∙ at)) here))
      (λ ne. others j y ne (sym (slice_get-set_other xs i j x ne) ∙ at))

-- ---- one meeting more

pub none_met : (operator : OperatorValue) (workers : List WorkerValue) → AreOutside operator.table workers → MetFirst 0 operator operator workers workers
none_met operator workers outside = record {
  outside = outside;
  table = refl;
  published = refl;
  version_rows = refl;
  number = refl;
  reported = refl;
  cleared = λ w m low. absurd (omega arith);
  seen_all = λ w worker low. absurd (omega arith);
  all_of_it = λ w worker low. absurd (omega arith);
  later = λ w up. refl;
}

module _ (k : ℕ) (before now after : OperatorValue) (workers workers' : List WorkerValue) (worker worker' : WorkerValue) (met : MetFirst k before now workers workers') (here : slice_get workers' k ≡ Some worker) (meets : Meets worker worker' now after) (told : worker'.view.seen ≡ now.view.published) where
  abbrev all_met : List WorkerValue
  all_met = set workers' k worker'

  was_outside : IsOutsideAt now.table k worker
  was_outside = met.outside.each k worker here

  inside_list : k < length workers'
  inside_list = slice_get_within workers' k worker here

  same_table : after.table ≡ now.table
  same_table = ap (λ (o : OperatorValue). o.table) meets.one_scan

  number_is : worker'.view.number ≡ k
  number_is = ap (λ (w : WorkerValue). w.view.number) meets.one_peek ∙ was_outside.number

  -- a peek leaves the read word
  stays_outside : read_word_after worker'.view.log ≡ 0
  stays_outside = ap (λ (w : WorkerValue). read_word_after w.view.log) meets.one_peek ∙ was_outside.read_word

  is_outside : IsOutsideAt after.table k worker'
  is_outside = record {
    table_is = ap (λ (w : WorkerValue). w.table) meets.one_peek ∙ was_outside.table_is ∙ sym same_table;
    number = number_is;
    read_word = stays_outside;
  }

  all_outside : AreOutside after.table all_met
  all_outside = record {
    count = length-set workers' k worker' ∙ met.outside.count;
    each = holds_of_set (IsOutsideAt after.table) workers' k worker' inside_list is_outside (λ w other ne at. subst (λ t. IsOutsideAt t w other) (sym same_table) (met.outside.each w other at));
  }

  -- the scan gave 0, which is clear for every version that was replaced
  is_cleared : (m : ℕ) → IsReplaced m before.view.log → IsScannedClear k m after.view.log
  is_cleared m replaced =
      let number = met.number in
      subst (λ (o : OperatorValue). IsScannedClear k m o.view.log) (sym meets.one_scan)
      (inl (ap (λ w. 1 + w) was_outside.number, omega arith, inl (meets.told.read ∙ stays_outside)))

  still_cleared : (w m : ℕ) → IsScannedClear w m now.view.log → IsScannedClear w m after.view.log
  still_cleared w m clear = subst (λ (o : OperatorValue). IsScannedClear w m o.view.log) (sym meets.one_scan) (inr clear)

  was_here : slice_get workers k ≡ Some worker
  was_here = sym (met.later k (omega arith)) ∙ here

  pub one_more_met : MetFirst (k + 1) before after workers all_met
  one_more_met = record {
    outside = all_outside;
    table = same_table ∙ met.table;
    published = ap (λ (o : OperatorValue). o.view.published) meets.one_scan ∙ met.published;
    version_rows = ap (λ (o : OperatorValue). o.view.version_rows) meets.one_scan ∙ met.version_rows;
    number = ap (λ (o : OperatorValue). number_after o.view.log) meets.one_scan ∙ met.number;
    reported = ap (λ (o : OperatorValue). o.reported) meets.one_scan ∙ met.reported;
    cleared = λ w m low replaced. dite (ℕ_discrete w k)
        (λ e. subst (λ v. IsScannedClear v m after.view.log) (sym e) (is_cleared m replaced))
        (λ ne. still_cleared w m (met.cleared w m (omega arith) replaced));
    seen_all = λ w other low at.
        holds_of_set (λ v (one : WorkerValue). v < k + 1 → one.view.seen ≡ before.view.published) workers' k worker' inside_list
        (λ lower. told ∙ met.published)
        (λ v one ne was lower. met.seen_all v one (omega arith) was)
        w other at low;
    all_of_it = λ w other low at. dite (ℕ_discrete w k)
        (λ e. subst (λ (one : WorkerValue). BeginsWith before.view.published one.view.seen) (some_same worker other (sym was_here ∙ ap (slice_get workers) (sym e) ∙ at))
        (subst (λ published. BeginsWith published worker.view.seen) met.published meets.shows.goes_on))
        (λ ne. met.all_of_it w other (omega arith) at);
    later = λ w up. slice_get-set_other workers' k w worker' (λ e. omega arith) ∙ met.later w (omega arith);
  }
