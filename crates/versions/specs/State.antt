-- The table and the knowledge of its actors, after any list of events. A trace has the newest event first: the trace after an
-- event is that event in front of the trace before it.
use Rattle.std.specs.Prelude.{◌≡◌, ◌+◌, ◌++◌, ◌-◌, ◌/◌, ◌<◌, ◌≤◌, ◌⊎◌, ◌∷◌, List, None, [], length, replicate, slice_index_or, slice_set, suc, zero, ℕ}
use mathlib.Core.Option.{some}
use lib.ListN.{get_elem?}
use Rattle.versions.specs.declared.step.Step.{Step}
use Rattle.versions.specs.declared.step.Step.TheVariants.{Announce, Fetch, Fill, Leave, Peek, Pin, Publish, Scan}
use Rattle.versions.specs.declared.step.Entry.{Entry}
use Rattle.versions.specs.declared.step.Event.{Event}
use Rattle.versions.specs.declared.step.Event.TheVariants.{Proposed, Stepped}
use Rattle.versions.specs.declared.view.Stage.TheVariants.{Inside}
use Rattle.versions.specs.declared.view.WorkerView.{WorkerView}
use Rattle.versions.specs.declared.view.OperatorView.{OperatorView}
use Rattle.versions.specs.Layout.{HoldsForm, IsInRow, IsPartPlace, Shape, pages_named, rows_begin, stored_words}
use Rattle.versions.specs.View.{after_announce, after_fetch, after_fill, after_leave, after_peek, after_pin, after_proposal, after_publish, after_scan, new_worker, up_to}

-- the words of the table, the knowledge of each worker, and the knowledge of the operator
pub record State (C : Type 0) : Type 0 where
  pub words : List ℕ
  pub workers : List (WorkerView C)
  pub operator : OperatorView C

-- the list with a function applied to the element at a place
abbrev pub change : {A : Type 0} → ℕ → (A → A) → List A → List A
change n f [] = []
change zero f (x ∷ xs) = f x ∷ xs
change (suc n) f (x ∷ xs) = x ∷ change n f xs

module _ {C : Type 0} where
  -- the log of worker w
  abbrev pub log_of : List (WorkerView C) → ℕ → List Entry
  log_of [] w = []
  log_of (view ∷ views) zero = view.log
  log_of (view ∷ views) (suc w) = log_of views w

  -- n workers that made no step, from the number k on
  abbrev pub new_workers : C → List ℕ → ℕ → ℕ → List (WorkerView C)
  new_workers config pages k zero = []
  new_workers config pages k (suc n) = new_worker config pages k ∷ new_workers config pages (suc k) n

  -- worker w holds version n, which is in row r: from the pin that loaded n until its next leave
  abbrev pub HoldsVersion : State C → ℕ → ℕ → ℕ → Type 0
  HoldsVersion state w n r = (view : WorkerView C) × (read_word : ℕ) × (get_elem? state.workers w ≡ some view) × (view.stage ≡ Inside read_word n r)

module _ {C : Type 0} (shape : Shape C) where
  -- the state after a step that loads or stores x; a peek or pin shows the published versions up to the one that it loads, and a
  -- pin the pages of that one. A new version names the pages that its row names
  abbrev pub after_step : State C → Step → ℕ → State C
  after_step state (Peek w) x =
      record state { workers = change w (after_peek shape.rows x (up_to (x / shape.rows) state.operator.published)) state.workers }
  after_step state (Announce w) x =
      record state { words = slice_set state.words (1 + w) x; workers = change w (after_announce x) state.workers }
  after_step state (Pin w) x =
      record state { workers = change w (after_pin shape.rows x (up_to (x / shape.rows) state.operator.published) (slice_index_or state.operator.version_pages (x / shape.rows) [])) state.workers }
  after_step state (Fetch w place) x = record state { workers = change w (after_fetch place x) state.workers }
  after_step state (Leave w) x =
      record state { words = slice_set state.words (1 + w) 0; workers = change w after_leave state.workers }
  after_step state (Fill place word) x =
      record state { words = slice_set state.words place x; operator = after_fill (rows_begin shape) place x state.operator }
  after_step state (Publish r) x =
      record state { words = slice_set state.words 0 x; operator = after_publish r x (pages_named shape state.operator.stored r) state.operator }
  after_step state (Scan place) x =
      record state { operator = after_scan (place - 1) x (log_of state.workers (place - 1)) state.operator }

  -- a proposal is private to the operator: no word changes
  abbrev pub after_event : State C → Event C → State C
  after_event state (Stepped step x) = after_step state step x
  after_event state (Proposed config) = record state { operator = after_proposal config state.operator }

  abbrev pub state_after : State C → List (Event C) → State C
  state_after start [] = start
  state_after start (newest ∷ older) = after_event (state_after start older) newest

  -- the operator at the start, with these words in the rows and the pool: version 0 is published, in row 0 with the pages that the
  -- row names
  abbrev pub new_operator : C → List ℕ → OperatorView C
  new_operator config stored = record {
    log = [];
    published = config ∷ [];
    version_rows = 0 ∷ [];
    version_pages = pages_named shape stored 0 ∷ [];
    proposal = None;
    stored = stored;
    scanned_logs = replicate shape.workers [];
  }

  -- the start: `current` is version 0 in row 0, and all read words are 0
  abbrev pub start_of : C → List ℕ → State C
  start_of config stored = record {
    words = 0 ∷ (replicate shape.workers 0 ++ stored);
    workers = new_workers config (pages_named shape stored 0) 0 shape.workers;
    operator = new_operator config stored;
  }

  -- a table opens with a configuration that is not charged too much, and that is in row 0 and the pages which that row names
  pub record IsOpening (config : C) (stored : List ℕ) : Type 0 where
    pub charge : shape.charge config ≤ shape.charge_limit
    pub some_row : 0 < shape.rows
    pub whole : length stored ≡ stored_words shape
    pub held : HoldsForm shape 0 stored 0 config (pages_named shape stored 0)

  -- the place is a word of version n: it is in the row in which n was published, or in one of n's pages, in the part of n's
  -- configuration there
  abbrev pub IsWordOf : State C → ℕ → ℕ → Type 0
  IsWordOf state n place = ((r : ℕ) × (get_elem? state.operator.version_rows n ≡ some r) × IsInRow shape r place)
      ⊎ ((config : C) × (pages : List ℕ) × (get_elem? state.operator.published n ≡ some config) × (get_elem? state.operator.version_pages n ≡ some pages) × IsPartPlace shape config pages place)
