-- What the kept numbers tell of the state that they mirror.
use Rattle.std.proofs.Common.{◌≡◌, ◌≢◌, ℕ, zero, suc, ◌<◌, List, None, Some, [], ◌∷◌, ap, arith, length, length-set, refl, set, slice_get, slice_index_or, subst, sym, ◌∙◌, ⊎_elim}
use Rattle.std.proofs.lemmas.Option.{get_or_from_slice_get, slice_get_within}
use mathlib.Core.Option.{some}
use lib.ListN.{get_elem?}
use Rattle.versions.specs.declared.progress.Progress.{Progress}
use Rattle.versions.specs.declared.step.Step.{Step}
use Rattle.versions.specs.declared.view.Stage.{Stage}
use Rattle.versions.specs.declared.view.Stage.TheVariants.{Announced, Inside, Outside, Peeked}
use Rattle.versions.specs.declared.view.WorkerView.{WorkerView}
use Rattle.versions.specs.declared.view.OperatorView.{OperatorView}
use Rattle.versions.specs.Layout.{Shape}
use Rattle.versions.specs.State.{HoldsVersion, State, change}
use Rattle.versions.specs.Legal.{IsInOrder, IsNextOf, MayPeek}
use Rattle.versions.specs.Book.{IsBook}
use Rattle.versions.specs.body.Mirror.{IsMirror}
use Rattle.versions.proofs.ListLemmas.{change_at, elem_same, elem_there}
use Rattle.versions.proofs.Coherence.{Coheres, version_inside}

pub may_peek : (stage : Stage) → ((k : ℕ) → stage ≡ Announced k → ⊥) → MayPeek stage
may_peek Outside h = tt
may_peek (Peeked n) h = tt
may_peek (Announced k) h = h k refl
may_peek (Inside k n r) h = tt

row_inside_same : (j m q k n r : ℕ) → Inside j m q ≡ Inside k n r → q ≡ r
row_inside_same j m q k n r e = cc

pub some_same : {A : Type 0} → (x y : A) → Some x ≡ Some y → x ≡ y
some_same x y e = cc

pub none_some : {A : Type 0} → (x : A) → None ≡ Some x → ⊥
none_some x e = cc

slice_get-set_same : {A : Type 0} → (xs : List A) (i : ℕ) (x : A) → i < length xs → slice_get (set xs i x) i ≡ Some x
slice_get-set_same [] i x low = absurd (omega arith)
slice_get-set_same (y ∷ ys) zero x low = refl
slice_get-set_same (y ∷ ys) (suc i) x low = slice_get-set_same ys i x (omega arith)

slice_get-set_other : {A : Type 0} → (xs : List A) (i j : ℕ) (x : A) → j ≢ i → slice_get (set xs i x) j ≡ slice_get xs j
slice_get-set_other [] i j x ne = refl
slice_get-set_other (y ∷ ys) zero zero x ne = absurd (ne refl)
slice_get-set_other (y ∷ ys) zero (suc j) x ne = refl
slice_get-set_other (y ∷ ys) (suc i) zero x ne = refl
slice_get-set_other (y ∷ ys) (suc i) (suc j) x ne = slice_get-set_other ys i j x (λ e. ne (ap suc e))

module _ {C : Type 0} (shape : Shape C) where
  module _ {A : Type 0} (s : State C) (words : List ℕ) (progress : Progress A) (m : IsMirror shape s words progress) where
    -- a worker that is where its stage tells
    pub next_of : Coheres shape s → (w : ℕ) (stage : Stage) (step : Step) (x : ℕ) → slice_get progress.stages w ≡ Some stage → IsInOrder stage step x → IsNextOf s w step x
    next_of h w stage step x at order =
        let below = slice_get_within progress.stages w stage at in let many = m.stages_length in let all = h.workers_length in
        let view = elem_there s.workers w (omega arith) in
        let is : stage ≡ view.0.stage = some_same _ _ (sym at ∙ m.stages w view.0 view.1) in
        (view.0, view.1, subst (λ q. IsInOrder q step x) is order)

    -- the version that a worker's stage tells
    pub holds_version : Coheres shape s → (w k n r : ℕ) → slice_get progress.stages w ≡ Some (Inside k n r) → HoldsVersion s w n r
    holds_version h w k n r at =
        let below = slice_get_within progress.stages w (Inside k n r) at in let many = m.stages_length in let all = h.workers_length in
        let view = elem_there s.workers w (omega arith) in
        (view.0, k, view.1, sym (some_same _ _ (sym at ∙ m.stages w view.0 view.1)))

    -- and the stage that the version tells
    pub stage_of_held : (w k n r m' q : ℕ) → slice_get progress.stages w ≡ Some (Inside k n r) → HoldsVersion s w m' q → (n ≡ m') × (r ≡ q)
    stage_of_held w k n r m' q at held = let is : Inside k n r ≡ Inside held.1 m' q = some_same _ _ (sym at ∙ m.stages w held.0 held.2) ∙ held.3 in (version_inside _ _ _ _ _ _ is, row_inside_same _ _ _ _ _ _ is)

    pub no_worker : (w : ℕ) (step : Step) (x : ℕ) → slice_get progress.stages w ≡ None → IsNextOf s w step x → ⊥
    no_worker w step x none next = none_some next.0.stage (sym none ∙ m.stages w next.0 next.1)

    pub stage_there : (w : ℕ) (view : WorkerView C) → get_elem? s.workers w ≡ some view → slice_index_or progress.stages w Outside ≡ view.stage
    stage_there w view at = get_or_from_slice_get progress.stages w view.stage Outside (m.stages w view at)

    -- a step of worker w
    pub IsMirror-moved : (w : ℕ) (view : WorkerView C) (f : WorkerView C → WorkerView C) (words' kept' : List ℕ) (stage : Stage) → get_elem? s.workers w ≡ some view → (f view).stage ≡ stage → kept' ≡ words'
        → IsMirror shape (record s { words = words'; workers = change w f s.workers }) kept' (record progress { stages = set progress.stages w stage })
    IsMirror-moved w view f words' kept' stage at is same_words = record {
      words_same = same_words;
      stages_length = length-set progress.stages w stage ∙ m.stages_length;
      stages = λ v other there. ⊎_elim
          (λ (t : (v ≡ w) × ((x : WorkerView C) × (get_elem? s.workers w ≡ some x) × (other ≡ f x))).
          let same : other ≡ f view = t.1.2 ∙ ap f (elem_same s.workers w t.1.0 view t.1.1 at) in
          ap (slice_get (set progress.stages w stage)) t.0 ∙ (slice_get-set_same progress.stages w stage (slice_get_within progress.stages w view.stage (m.stages w view at)) ∙ ap Some (sym is ∙ ap (λ (y : WorkerView C). y.stage) (sym same))))
          (λ (t : (v ≢ w) × (get_elem? s.workers v ≡ some other)). slice_get-set_other progress.stages w v stage t.0 ∙ m.stages v other t.1)
          (change_at f s.workers w v other there);
      book = m.book;
    }

    -- a step of the operator, or a proposal: the workers stay
    pub IsMirror-operator : (operator : OperatorView C) (words' kept' : List ℕ) (progress' : Progress A) → progress'.stages ≡ progress.stages → IsBook shape operator progress'.book → kept' ≡ words'
        → IsMirror shape (record s { words = words'; operator = operator }) kept' progress'
    IsMirror-operator operator words' kept' progress' stages book same_words = record {
      words_same = same_words;
      stages_length = ap length stages ∙ m.stages_length;
      stages = λ w view at. ap (λ qs. slice_get qs w) stages ∙ m.stages w view at;
      book = book;
    }
