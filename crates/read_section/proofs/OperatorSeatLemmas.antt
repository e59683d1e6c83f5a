-- The operator's seat, and what its steps leave.
use Rattle.std.proofs.Common.{◌≡◌, ℕ, ◌+◌, ◌*◌, ◌%◌, ◌^◌, ◌<◌, ◌≤◌, List, ap, arith, inl, inr, refl, subst, sym, ◌∙◌}
use Rattle.std.proofs.lemmas.Nat.{mod-mul-add}
use mathlib.Core.Option.{none}
use Rattle.atomic_table.specs.Table.{Allows, step}
use Rattle.atomic_table.specs.Seated.{TableId}
use Rattle.config_image.specs.Image.{Group}
use Rattle.member_group.specs.Charge.{charge_of}
use Rattle.versions.specs.declared.layout.TheConstants.{ROWS, WORKERS}
use Rattle.versions.specs.declared.view.OperatorView.{OperatorView}
use Rattle.versions.specs.Layout.{current_word, page_begin, row_begin}
use Rattle.versions.specs.Free.{IsFreePage, IsFreeRow, number_after}
use Rattle.versions.specs.Table.{the_shape}
use Rattle.versions.proofs.ShapeLemmas.{rows_is, workers_is}
use Rattle.versions.proofs.WorldLemmas.{light}
use Rattle.read_section.specs.Layout.{IsPublishable}
use Rattle.read_section.specs.body.Seat.{HoldsNamed, OperatorSeatValue, acts, operator_at, operator_or_none}
use Rattle.read_section.specs.body.Plays.{fills, publishes, scans}
use Rattle.read_section.specs.body.Seat.{IsOperatorSeat}
use Rattle.read_section.specs.View.{TellsLog}
use Rattle.read_section.specs.body.SeatView.{with_operator}
use Rattle.read_section.proofs.OperatorKept.{allows_fill, allows_publish, allows_scan}
use Rattle.read_section.proofs.WorkerSeatLemmas.{Kept, Seated, View}

module _ (v : View) (h : IsOperatorSeat v) where
  abbrev view : OperatorView (List Group)
  view = operator_or_none v.operator

  pub IsOperatorSeat-on : (slots : List (ℕ × ℕ)) (view' : OperatorView (List Group)) (me : Seated) → me ≡ (with_operator v view', slots) → IsOperatorSeat me.0
  IsOperatorSeat-on slots view' me e = subst (λ (y : Seated). IsOperatorSeat y.0) (sym e) record { knows = refl; no_spare = h.no_spare; no_worker = h.no_worker }

  pub operator_after : (slots : List (ℕ × ℕ)) (seat : TableId) (f : OperatorView (List Group) → OperatorView (List Group)) (me : Seated) (seat' : TableId) (operator : OperatorSeatValue) → operator_at seat v ≡ operator → seat' ≡ seat
      → me ≡ (with_operator v (f view), slots) → operator_at seat' me.0 ≡ acts f operator
  operator_after slots seat f me seat' operator is same e = (λ i. operator_at (same i) (e i).0) ∙ ap (acts f) is

  pub tells : (seat : TableId) (w x : ℕ) (log : List Rattle.versions.specs.declared.step.Entry.Entry) (operator : OperatorSeatValue) → operator_at seat v ≡ operator → TellsLog the_shape view w x log → TellsLog the_shape operator.view w x log
  tells seat w x log operator is told = subst (λ (o : OperatorSeatValue). TellsLog the_shape o.view w x log) is told

  module _ (slots : List (ℕ × ℕ)) (seat : TableId) (config : List Group) (slots' id : ℕ) (operator : OperatorSeatValue) (is : operator_at seat v ≡ operator) where
    pub may_fill : (r i place x : ℕ) → IsFreeRow the_shape operator.view r → i < the_shape.row_words → place ≡ row_begin the_shape r + i → x < 2 ^ 64
        → Allows (Kept config) slots' id (v, slots) place (λ _. x) (λ _. fills the_shape (step slots' place x 0 none) (v, slots) x)
    may_fill r i place x free small e fits = allows_fill the_shape IsPublishable config slots' id (v, slots) view place x (step slots' place x 0 none) h.knows
        (inl (r, subst (λ (o : OperatorSeatValue). IsFreeRow the_shape o.view r) (sym is) free, (i, small, e))) fits refl

    pub may_fill_page : (q i place x : ℕ) → IsFreePage the_shape operator.view q → i < the_shape.page_words → place ≡ page_begin the_shape q + i → x < 2 ^ 64
        → Allows (Kept config) slots' id (v, slots) place (λ _. x) (λ _. fills the_shape (step slots' place x 0 none) (v, slots) x)
    may_fill_page q i place x free small e fits = allows_fill the_shape IsPublishable config slots' id (v, slots) view place x (step slots' place x 0 none) h.knows
        (inr (q, subst (λ (o : OperatorSeatValue). IsFreePage the_shape o.view q) (sym is) free, (i, small, e))) fits refl

    pub may_publish : (r n x : ℕ) (new : List Group) → IsFreeRow the_shape operator.view r → HoldsNamed operator.view r new → IsPublishable new → n ≡ number_after operator.view.log + 1 → n ≤ the_shape.last_number → x ≡ current_word the_shape n r
        → Allows (Kept config) slots' id (v, slots) 0 (λ _. x) (λ _. publishes the_shape new (step slots' 0 x 0 none) (v, slots) x)
    may_publish r n x new free holds publishable number low e = let log_is = ap (λ (o : OperatorSeatValue). number_after o.view.log) is in
        allows_publish the_shape IsPublishable config slots' id (v, slots) view r x new (step slots' 0 x 0 none) h.knows
        (subst (λ (o : OperatorSeatValue). IsFreeRow the_shape o.view r) (sym is) free) (light new (charge_of new) refl publishable.1) publishable
        (subst (λ (o : OperatorSeatValue). HoldsNamed o.view r new) (sym is) holds) (omega arith) (e ∙ ap (λ (k : ℕ). current_word the_shape k r) (number ∙ ap (λ (k : ℕ). k + 1) (sym log_is))) refl

    pub may_scan : (w : ℕ) → w < the_shape.workers → Allows (Kept config) slots' id (v, slots) (1 + w) (λ x. x) (scans the_shape (step slots' (1 + w) 0 0 none) (v, slots))
    may_scan w low = allows_scan the_shape IsPublishable config slots' id (v, slots) view w (step slots' (1 + w) 0 0 none) h.knows low refl

-- `current` as it is computed
pub current_is : (n r : ℕ) → n * ROWS + r ≡ current_word the_shape n r
current_is n r = λ i. n * sym rows_is i + r

pub row_of_current : (n r : ℕ) → r < the_shape.rows → (n * ROWS + r) % the_shape.rows ≡ r
row_of_current n r low = ap (λ (k : ℕ). k % the_shape.rows) (current_is n r) ∙ mod-mul-add n the_shape.rows r low

pub worker_fits : (w : ℕ) → w < the_shape.workers → w < WORKERS
worker_fits w low = subst (λ (k : ℕ). w < k) workers_is low
