-- A seat that knows a worker and the operator, while they meet.
use Rattle.std.proofs.Common.{◌≡◌, ℕ, ◌+◌, ◌++◌, ◌<◌, ◌≤◌, List, Some, ap, arith, refl, subst, sym, ◌∙◌}
use mathlib.Core.Option.{none}
use Rattle.atomic_table.specs.Table.{Allows, Joins, Splits, step}
use Rattle.atomic_table.specs.Seated.{TableId}
use Rattle.config_image.specs.Image.{Group}
use Rattle.versions.specs.declared.step.Entry.{Entry}
use Rattle.versions.specs.declared.view.WorkerView.{WorkerView}
use Rattle.versions.specs.declared.view.OperatorView.{OperatorView}
use Rattle.versions.specs.View.{BeginsWith, IsTold, after_peek, after_scan}
use Rattle.versions.specs.Legal.{MayPeek}
use Rattle.versions.specs.Table.{the_shape}
use Rattle.read_section.specs.Layout.{IsPublishable}
use Rattle.read_section.specs.body.Seat.{OperatorSeatValue, acts, operator_at, operator_or_none}
use Rattle.read_section.specs.body.Plays.{peeks, scans}
use Rattle.read_section.specs.body.Seat.{IsOperatorSeat, IsWorkerSeat}
use Rattle.read_section.specs.body.SeatView.{nobody, note_of, seen_by, told_by, with_operator, with_worker, with_worker_of, without_worker, worker_alone}
use Rattle.read_section.specs.Worker.{WorkerValue, steps}
use Rattle.read_section.specs.body.Seat.{worker_at, worker_or_none}
use Rattle.read_section.proofs.OperatorKept.{allows_scan}
use Rattle.read_section.proofs.SeatKept.{joins_note, joins_take, splits_give, splits_note}
use Rattle.read_section.proofs.WorkerKept.{allows_peek}
use Rattle.read_section.proofs.WorkerSeatLemmas.{Kept, Seated, View}

-- the seat knows this worker and this operator
pub record KnowsBoth (me : Seated) (worker : WorkerView (List Group)) (operator : OperatorView (List Group)) : Type 0 where
  pub worker_known : me.0.worker ≡ Some worker
  pub operator_known : me.0.operator ≡ Some operator
  pub no_spare : the_shape.workers ≤ me.0.spare

module _ (config : List Group) (slots id : ℕ) where
  -- the worker's seat gives it, and the operator's takes it in
  pub may_give : (v : View) (number : ℕ) → IsWorkerSeat v number → Splits (Kept config) id v (without_worker v) (worker_alone the_shape v)
  may_give v number h = splits_give the_shape IsPublishable config id v (worker_or_none v.worker) h.knows h.no_spare

  pub may_take : (v : View) (other : ℕ) (w given : View) (number : ℕ) → IsOperatorSeat v → IsWorkerSeat w number → given ≡ worker_alone the_shape w → Joins (Kept config) id v other given (with_worker_of v given) (nobody the_shape)
  may_take v other w given number h k is = joins_take the_shape IsPublishable config id v other given (worker_or_none w.worker) (ap (λ (y : View). y.worker) is ∙ k.knows) (ap (λ (y : View). y.operator) is)
      (subst (λ (y : View). the_shape.workers ≤ y.spare) (sym is) k.no_spare) h.no_spare h.no_worker

  pub may_peek_both : (me : Seated) (worker : WorkerView (List Group)) (operator : OperatorView (List Group)) → KnowsBoth me worker operator → MayPeek worker.stage → Allows (Kept config) slots id me 0 (λ n. n) (peeks the_shape IsPublishable (step slots 0 0 0 none) me)
  may_peek_both me worker operator h may = allows_peek the_shape IsPublishable config slots id me worker (step slots 0 0 0 none) h.worker_known h.no_spare may refl

  pub may_scan_both : (me : Seated) (worker : WorkerView (List Group)) (operator : OperatorView (List Group)) (w : ℕ) → KnowsBoth me worker operator → w < the_shape.workers → Allows (Kept config) slots id me (1 + w) (λ n. n) (scans the_shape (step slots (1 + w) 0 0 none) me)
  may_scan_both me worker operator w h low = allows_scan the_shape IsPublishable config slots id me operator w (step slots (1 + w) 0 0 none) h.operator_known low refl

  pub may_give_back : (me : Seated) (worker : WorkerView (List Group)) (operator : OperatorView (List Group)) → KnowsBoth me worker operator → Splits (Kept config) id me.0 (without_worker me.0) (worker_alone the_shape me.0)
  may_give_back me worker operator h = splits_give the_shape IsPublishable config id me.0 worker h.worker_known h.no_spare

  -- a note of what a worker has seen, for another
  pub may_note : (v : View) (number : ℕ) → IsWorkerSeat v number → Splits (Kept config) id v v (note_of the_shape v)
  may_note v number h = splits_note the_shape IsPublishable config id v (worker_or_none v.worker) h.knows

  pub may_be_told : (v : View) (other : ℕ) (w given : View) → given ≡ note_of the_shape w → Joins (Kept config) id v other given (told_by v given) (nobody the_shape)
  may_be_told v other w given is = joins_note the_shape IsPublishable config id v other given (ap (λ (y : View). y.worker) is) (ap (λ (y : View). y.operator) is)
      (subst (λ (n : ℕ). the_shape.workers ≤ n) (sym (ap (λ (y : View). y.spare) is)) (let n = the_shape.workers in omega arith))

pub IsWorkerSeat-told : (v given : View) (number : ℕ) (me : Seated) (slots : List (ℕ × ℕ)) → IsWorkerSeat v number → me ≡ (told_by v given, slots) → IsWorkerSeat me.0 number
IsWorkerSeat-told v given number me slots h e = subst (λ (y : Seated). IsWorkerSeat y.0 number) (sym e) record { knows = h.knows; no_spare = h.no_spare; numbered = h.numbered; below = h.below }

-- what a worker that was told of another's list has seen after a peek
pub told_seen : (v w : View) (number : ℕ) (me note after : Seated) (slots : List (ℕ × ℕ)) (table : TableId) (other : WorkerValue) (seen : List (List Group)) (view : WorkerView (List Group)) → IsWorkerSeat w number → worker_at table w ≡ other
    → note.0 ≡ note_of the_shape w → me ≡ (told_by v note.0, slots) → BeginsWith seen me.0.told → after ≡ (with_worker me.0 view, me.1) → view.seen ≡ seen → IsTold other.view.seen (worker_or_none after.0.worker)
told_seen v w number me note after slots table other seen view k is noted joined told e same =
    let from : me.0.told ≡ other.view.seen = ap (λ (y : Seated). y.0.told) joined ∙ (ap (λ (y : View). y.told) noted ∙ (ap seen_by k.knows ∙ ap (λ (y : WorkerValue). y.view.seen) is)) in
    (told.0, ap (λ (y : Seated). (worker_or_none y.0.worker).seen) e ∙ (same ∙ (told.1 ∙ ap (λ l. l ++ told.0) from)))

pub taken : (v w : View) (number : ℕ) (me moved : Seated) (slots : List (ℕ × ℕ)) → IsOperatorSeat v → IsWorkerSeat w number → moved.0 ≡ worker_alone the_shape w → me ≡ (with_worker_of v moved.0, slots)
    → KnowsBoth me (worker_or_none w.worker) (operator_or_none v.operator)
taken v w number me moved slots h k is e = subst (λ (y : Seated). KnowsBoth y (worker_or_none w.worker) (operator_or_none v.operator)) (sym e)
    record { worker_known = ap (λ (y : View). y.worker) is ∙ k.knows; operator_known = h.knows; no_spare = h.no_spare }

pub peeked : (me me' : Seated) (worker worker' : WorkerView (List Group)) (operator : OperatorView (List Group)) → KnowsBoth me worker operator → me' ≡ (with_worker me.0 worker', me.1) → KnowsBoth me' worker' operator
peeked me me' worker worker' operator h e = subst (λ (y : Seated). KnowsBoth y worker' operator) (sym e) record { worker_known = refl; operator_known = h.operator_known; no_spare = h.no_spare }

pub scanned_both : (me me' : Seated) (worker : WorkerView (List Group)) (operator operator' : OperatorView (List Group)) → KnowsBoth me worker operator → me' ≡ (with_operator me.0 operator', me.1) → KnowsBoth me' worker operator'
scanned_both me me' worker operator operator' h e = subst (λ (y : Seated). KnowsBoth y worker operator') (sym e) record { worker_known = h.worker_known; operator_known = refl; no_spare = h.no_spare }

-- the worker goes back to a seat of its own
pub IsWorkerSeat-again : (me back : Seated) (worker : WorkerView (List Group)) (operator : OperatorView (List Group)) (number : ℕ) → KnowsBoth me worker operator → back.0 ≡ worker_alone the_shape me.0 → number ≡ worker.number → number < the_shape.workers → IsWorkerSeat back.0 number
IsWorkerSeat-again me back worker operator number h e numbered below = let is : worker_or_none me.0.worker ≡ worker = ap worker_or_none h.worker_known in subst (λ (y : View). IsWorkerSeat y number) (sym e)
    record { knows = h.worker_known ∙ ap (λ o. Some (worker_or_none o)) (sym h.worker_known); no_spare = h.no_spare; numbered = numbered ∙ sym (ap (λ (y : WorkerView (List Group)). y.number) is); below = below }

pub IsOperatorSeat-again : (me left : Seated) (worker : WorkerView (List Group)) (operator : OperatorView (List Group)) → KnowsBoth me worker operator → left.0 ≡ without_worker me.0 → IsOperatorSeat left.0
IsOperatorSeat-again me left worker operator h e = subst IsOperatorSeat (sym e) record { knows = h.operator_known ∙ ap (λ o. Some (operator_or_none o)) (sym h.operator_known); no_spare = h.no_spare; no_worker = refl }

pub worker_is : (me back : Seated) (worker : WorkerView (List Group)) (operator : OperatorView (List Group)) → KnowsBoth me worker operator → back.0 ≡ worker_alone the_shape me.0 → worker_or_none back.0.worker ≡ worker
worker_is me back worker operator h e = ap (λ (y : View). worker_or_none y.worker) e ∙ ap worker_or_none h.worker_known

pub operator_is : (me left : Seated) (worker : WorkerView (List Group)) (operator : OperatorView (List Group)) → KnowsBoth me worker operator → left.0 ≡ without_worker me.0 → operator_or_none left.0.operator ≡ operator
operator_is me left worker operator h e = ap (λ (y : View). operator_or_none y.operator) e ∙ ap operator_or_none h.operator_known

-- what a worker and the operator know after they met
pub worker_met : (table table' : TableId) (v : View) (before after : WorkerView (List Group)) (x : ℕ) (seen published : List (List Group)) (worker : WorkerValue) → table' ≡ table → worker_or_none v.worker ≡ after
    → after ≡ after_peek the_shape.rows x seen before → seen ≡ published → record { table = table; view = before } ≡ worker → worker_at table' v ≡ steps (after_peek the_shape.rows x published) worker
worker_met table table' v before after x seen published worker same_table is peek all was =
    (λ i. let w : WorkerValue = record { table = same_table i; view = (is ∙ peek) i } in w)
    ∙ ((λ i. let w : WorkerValue = record { table = table; view = after_peek the_shape.rows x (all i) before } in w) ∙ ap (steps (after_peek the_shape.rows x published)) was)

pub operator_met : (table table' : TableId) (v : View) (before after : OperatorView (List Group)) (w number x : ℕ) (log log' : List Entry) (operator : OperatorSeatValue) → table' ≡ table → operator_or_none v.operator ≡ after
    → after ≡ after_scan w x log before → w ≡ number → log ≡ log' → record { table = table; view = before } ≡ operator → operator_at table' v ≡ acts (after_scan number x log') operator
operator_met table table' v before after w number x log log' operator same_table is scan same_number same_log was =
    (λ i. let o : OperatorSeatValue = record { table = same_table i; view = (is ∙ scan) i } in o)
    ∙ ((λ i. let o : OperatorSeatValue = record { table = table; view = after_scan (same_number i) x (same_log i) before } in o) ∙ ap (acts (after_scan number x log')) was)
