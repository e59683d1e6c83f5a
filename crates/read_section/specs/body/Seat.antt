-- What a contract sees of a worker's seat and of the operator's, and which seats are theirs.
use Rattle.std.specs.Prelude.{◌≡◌, ◌+◌, ◌<◌, ◌≤◌, List, None, Option, Some, [], ℕ}
use Rattle.atomic_table.specs.Seated.{TableId}
use Rattle.config_image.specs.Image.{Group}
use Rattle.versions.specs.declared.view.Stage.{Stage}
use Rattle.versions.specs.declared.view.WorkerView.{WorkerView}
use Rattle.versions.specs.declared.view.OperatorView.{OperatorView}
use Rattle.versions.specs.Layout.{HoldsForm, pages_named, stored_words}
use Rattle.versions.specs.View.{new_worker}
use Rattle.versions.specs.State.{new_operator}
use Rattle.versions.specs.World.{opening_stored}
use Rattle.versions.specs.Table.{the_shape}
use Rattle.read_section.specs.declared.versions_rule.SeatView.{SeatView}
use Rattle.read_section.specs.Worker.{IsInside, IsOutside, WorkerValue}

abbrev pub worker_or_none : Option (WorkerView (List Group)) → WorkerView (List Group)
worker_or_none None = new_worker [] [] 0
worker_or_none (Some view) = view

abbrev pub worker_at : TableId → SeatView (List Group) → WorkerValue
worker_at table seat = record { table = table; view = worker_or_none seat.worker }

-- the table and the view that the operator's seat has
pub record OperatorSeatValue : Type 0 where
  pub table : TableId
  pub view : OperatorView (List Group)

abbrev pub operator_or_none : Option (OperatorView (List Group)) → OperatorView (List Group)
operator_or_none None = record { log = []; published = []; version_rows = []; version_pages = []; proposal = None; stored = []; scanned_logs = [] }
operator_or_none (Some view) = view

abbrev pub operator_at : TableId → SeatView (List Group) → OperatorSeatValue
operator_at table seat = record { table = table; view = operator_or_none seat.operator }

-- the row of the operator's words and the pages that it names hold the configuration
abbrev pub HoldsNamed : OperatorView (List Group) → ℕ → List Group → Type 0
HoldsNamed view r config = HoldsForm the_shape 0 view.stored r config (pages_named the_shape view.stored r)

-- the operator's seat after steps of its own
abbrev pub acts : (OperatorView (List Group) → OperatorView (List Group)) → OperatorSeatValue → OperatorSeatValue
acts after seat = record seat { view = after seat.view }

-- a seat of this table, which has these words and holds no slot
pub record IsSeatAt (slots : List (ℕ × ℕ)) (seat table : TableId) : Type 0 where
  pub no_slots : slots ≡ []
  pub same_table : seat ≡ table
  pub words : seat.words ≡ (1 + the_shape.workers) + stored_words the_shape

-- the seat knows a worker of this number, and has no other spare
pub record IsWorkerSeat (view : SeatView (List Group)) (number : ℕ) : Type 0 where
  pub knows : view.worker ≡ Some (worker_or_none view.worker)
  pub no_spare : the_shape.workers ≤ view.spare
  pub numbered : number ≡ (worker_or_none view.worker).number
  pub below : number < the_shape.workers

-- the seat knows the operator, and no worker
pub record IsOperatorSeat (view : SeatView (List Group)) : Type 0 where
  pub knows : view.operator ≡ Some (operator_or_none view.operator)
  pub no_spare : the_shape.workers ≤ view.spare
  pub no_worker : view.worker ≡ None

-- the operator's seat at the start, from which n workers got their seats
pub record IsSeating (view : SeatView (List Group)) (config : List Group) (n : ℕ) : Type 0 where
  pub view_is : view ≡ record { worker = None; operator = Some (new_operator the_shape config (opening_stored config)); spare = n; told = [] }

-- what a worker keeps of its section: none outside, and else the version that it holds
abbrev pub TellsStage : Option ℕ → Stage → Type 0
TellsStage None stage = IsOutside stage
TellsStage (Some n) stage = (r : ℕ) × IsInside stage n r
