-- What a seat at the table knows, and what seats hand to one another (docs/TABLE.md, "Seats").
use Rattle.std.specs.Prelude.{◌+◌, List, None, Option, Some, [], slice_index_or, ℕ}
use Rattle.versions.specs.declared.view.Stage.TheVariants.{Outside}
use Rattle.versions.specs.declared.view.WorkerView.{WorkerView}
use Rattle.versions.specs.declared.view.OperatorView.{OperatorView}
use Rattle.versions.specs.Layout.{Shape}
use Rattle.versions.specs.State.{new_operator}
use Rattle.read_section.specs.declared.versions_rule.SeatView.{SeatView}

module _ {C : Type 0} where
  abbrev pub with_worker : SeatView C → WorkerView C → SeatView C
  with_worker seat view = record seat { worker = Some view }

  abbrev pub with_operator : SeatView C → OperatorView C → SeatView C
  with_operator seat view = record seat { operator = Some view }

  abbrev pub seen_by : Option (WorkerView C) → List C
  seen_by None = []
  seen_by (Some view) = view.seen

  abbrev pub published_by : Option (OperatorView C) → List C
  published_by None = []
  published_by (Some view) = view.published

  abbrev pub first_pages : Option (OperatorView C) → List ℕ
  first_pages None = []
  first_pages (Some view) = slice_index_or view.version_pages 0 []

  -- without its worker, which another seat gets or gives
  abbrev pub without_worker : SeatView C → SeatView C
  without_worker seat = record seat { worker = None }

  abbrev pub with_worker_of : SeatView C → SeatView C → SeatView C
  with_worker_of seat other = record seat { worker = other.worker }

  -- told of what another seat was told
  abbrev pub told_by : SeatView C → SeatView C → SeatView C
  told_by seat note = record seat { told = note.told }

  -- without its first spare worker
  abbrev pub without_spare : SeatView C → SeatView C
  without_spare seat = record seat { spare = seat.spare + 1 }

module _ {C : Type 0} (shape : Shape C) where
  -- a seat that knows nobody
  abbrev pub nobody : SeatView C
  nobody = record { worker = None; operator = None; spare = shape.workers; told = [] }

  -- the worker of a seat, alone
  abbrev pub worker_alone : SeatView C → SeatView C
  worker_alone seat = record { worker = seat.worker; operator = None; spare = seat.spare; told = [] }

  -- the first spare worker of the operator's seat, alone: it made no step, has seen what is published, and knows the pages of
  -- version 0
  abbrev pub spare_alone : SeatView C → SeatView C
  spare_alone seat =
      record { worker = Some (record { number = seat.spare; stage = Outside; log = []; seen = published_by seat.operator; pages = first_pages seat.operator }); operator = None; spare = shape.workers; told = [] }

  -- a note of what the seat's worker has seen
  abbrev pub note_of : SeatView C → SeatView C
  note_of seat = record { worker = None; operator = None; spare = shape.workers; told = seen_by seat.worker }

  -- the seat that a table opens with: the operator's, and all workers are spare
  abbrev pub first_seat : C → List ℕ → SeatView C
  first_seat config stored = record { worker = None; operator = Some (new_operator shape config stored); spare = 0; told = [] }
