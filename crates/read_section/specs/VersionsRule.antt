-- The rule that the table keeps between any two accesses, whatever their order: its words are those that a legal trace left
-- (docs/TABLE.md, "The rule").
use Rattle.std.specs.Prelude.{◌≡◌, ◌<◌, ◌≤◌, ◌⊎◌, List, Some, ℕ}
use Rattle.std.specs.List.{Contains}
use mathlib.Core.Option.{some}
use lib.ListN.{get_elem?}
use Rattle.atomic_table.specs.Table as table
use Rattle.config_image.specs.Image.{Group}
use Rattle.versions.specs.declared.step.Event.{Event}
use Rattle.versions.specs.declared.view.WorkerView.{WorkerView}
use Rattle.versions.specs.declared.view.OperatorView.{OperatorView}
use Rattle.versions.specs.Layout.{Shape, pages_named}
use Rattle.versions.specs.View.{BeginsWith, new_worker}
use Rattle.versions.specs.State.{IsOpening, State, start_of, state_after}
use Rattle.versions.specs.Legal.{IsLegal}
use Rattle.versions.specs.Table.{the_shape}
use Rattle.read_section.specs.declared.versions_rule.SeatView.{SeatView}
use Rattle.read_section.specs.Layout.{IsPublishable}

module _ {C : Type 0} (shape : Shape C) where
  -- the knowledge of the seat is true, and no other seat has it: `seat_of` names each worker's seat; version 0 has these pages
  pub record IsViewOf (config : C) (pages : List ℕ) (now : State C) (seat_of : ℕ → ℕ) (operator_seat seat : ℕ) (view : SeatView C) : Type 0 where
    pub worker : (worker : WorkerView C) → view.worker ≡ Some worker → (seat_of worker.number ≡ seat) × (get_elem? now.workers worker.number ≡ some worker)
    pub operator : (operator : OperatorView C) → view.operator ≡ Some operator → (operator_seat ≡ seat) × (operator ≡ now.operator)
    pub spare : (w : ℕ) → view.spare ≤ w → w < shape.workers → (seat_of w ≡ seat) × (get_elem? now.workers w ≡ some (new_worker config pages w))
    pub told : BeginsWith now.operator.published view.told

  -- the seat knows worker w, or has it spare
  abbrev pub KnowsWorker : SeatView C → ℕ → Type 0
  KnowsWorker view w = ((worker : WorkerView C) × (view.worker ≡ Some worker) × (worker.number ≡ w)) ⊎ (view.spare ≤ w)

  abbrev pub KnowsOperator : SeatView C → Type 0
  KnowsOperator view = (operator : OperatorView C) × (view.operator ≡ Some operator)

  -- from the first configuration on there is a legal trace that leaves the table's words, of configurations of one kind. Each
  -- seat knows its part of the state after the trace, and each worker and the operator are known to some seat
  pub record IsLeftByTrace (IsPublishable : C → Type 0) {S : Type 0} (config : C) (state : table.State S (SeatView C)) : Type 0 where
    pub stored : List ℕ
    pub trace : List (Event C)
    pub seat_of : ℕ → ℕ
    pub operator_seat : ℕ
    pub opening : IsOpening shape config stored
    pub legal : IsLegal shape (start_of shape config stored) trace
    pub words : state.words ≡ (state_after shape (start_of shape config stored) trace).words
    pub publishable : (published : C) → Contains (state_after shape (start_of shape config stored) trace).operator.published published → IsPublishable published
    pub each_seat : (seat : ℕ) (view : SeatView C) → get_elem? state.views seat ≡ some view → IsViewOf config (pages_named shape stored 0) (state_after shape (start_of shape config stored) trace) seat_of operator_seat seat view
    pub each_worker : (w : ℕ) → w < shape.workers → (view : SeatView C) × (get_elem? state.views (seat_of w) ≡ some view) × KnowsWorker view w
    pub the_operator : (view : SeatView C) × (get_elem? state.views operator_seat ≡ some view) × KnowsOperator view

  -- the state after that trace
  abbrev pub state_left : {IsPublishable : C → Type 0} {S : Type 0} {config : C} {state : table.State S (SeatView C)} → IsLeftByTrace IsPublishable config state → State C
  state_left {config = config} left = state_after shape (start_of shape config left.stored) left.trace

-- the words of the switch's table, and what each of its seats knows
abbrev pub TableState : Type 0
TableState = table.State ℕ (SeatView (List Group))

-- the rule of the switch's table, which opened with the configuration
abbrev pub IsAllowedState : List Group → TableState → Type 0
IsAllowedState config = IsLeftByTrace the_shape IsPublishable config
