-- The knowledge of each actor, and its change by each of the actor's own steps. Logs have the newest entry first: the log after a
-- step is that step's entry in front of the log before it.
use Rattle.std.specs.Prelude.{◌≡◌, ◌+◌, ◌++◌, ◌-◌, ◌/◌, ◌%◌, ◌∷◌, List, None, Option, Some, [], slice_set, suc, take, ℕ}
use Rattle.versions.specs.declared.step.Step.{Step}
use Rattle.versions.specs.declared.step.Step.TheVariants.{Announce, Fetch, Fill, Leave, Peek, Pin, Publish, Scan}
use Rattle.versions.specs.declared.step.Entry.{Entry}
use Rattle.versions.specs.declared.view.Stage.{Stage}
use Rattle.versions.specs.declared.view.Stage.TheVariants.{Announced, Inside, Outside, Peeked}
use Rattle.versions.specs.declared.view.WorkerView.{WorkerView}
use Rattle.versions.specs.declared.view.OperatorView.{OperatorView}
use Rattle.versions.specs.Step.{entry}

-- a worker's read word: the word that it announced, and 0 outside
abbrev pub read_word_of : Stage → ℕ
read_word_of Outside = 0
read_word_of (Peeked n) = 0
read_word_of (Announced k) = k
read_word_of (Inside k n r) = k

-- a peek inside a section changes nothing of the section
abbrev pub stage_after_peek : Stage → ℕ → Stage
stage_after_peek (Inside k n r) version = Inside k n r
stage_after_peek _ version = Peeked version

-- from its pin on, a worker holds the version that the pin loaded
abbrev pub stage_after_pin : Stage → ℕ → ℕ → Stage
stage_after_pin stage version r = Inside (read_word_of stage) version r

-- `current` is the version's number times the number of rows, plus the version's row
abbrev pub next_stage : ℕ → Stage → Step → ℕ → Stage
next_stage rows stage (Peek w) x = stage_after_peek stage (x / rows)
next_stage rows stage (Announce w) x = Announced x
next_stage rows stage (Pin w) x = stage_after_pin stage (x / rows) (x % rows)
next_stage rows stage (Leave w) x = Outside
next_stage rows stage _ x = stage

-- the stage of a worker after its log
abbrev pub stage_after : ℕ → List Entry → Stage
stage_after rows [] = Outside
stage_after rows (newest ∷ older) = next_stage rows (stage_after rows older) newest.step newest.word

abbrev pub read_word_by : Step → ℕ → ℕ → ℕ
read_word_by (Announce w) x before = x
read_word_by (Leave w) x before = 0
read_word_by _ x before = before

-- the read word after a worker's log: the word that its last announce or leave stored, and 0 at first
abbrev pub read_word_after : List Entry → ℕ
read_word_after [] = 0
read_word_after (newest ∷ older) = read_word_by newest.step newest.word (read_word_after older)

abbrev pub version_by : ℕ → Step → ℕ → ℕ → ℕ
version_by rows (Peek w) x before = x / rows
version_by rows (Pin w) x before = x / rows
version_by rows _ x before = before

-- the version that a worker's last load of `current` loaded, and 0 at first
abbrev pub last_seen : ℕ → List Entry → ℕ
last_seen rows [] = 0
last_seen rows (newest ∷ older) = version_by rows newest.step newest.word (last_seen rows older)

abbrev pub pinned_by : ℕ → Step → ℕ → ℕ → ℕ
pinned_by rows (Pin w) x before = x / rows
pinned_by rows _ x before = before

-- the version that a worker's last pin loaded, and 0 at first
abbrev pub last_pinned : ℕ → List Entry → ℕ
last_pinned rows [] = 0
last_pinned rows (newest ∷ older) = pinned_by rows newest.step newest.word (last_pinned rows older)

abbrev pub OfFetchesBy : (ℕ → Type 0) → Step → Type 0 → Type 0
OfFetchesBy Fact (Fetch w place) before = Fact place × before
OfFetchesBy Fact (Peek w) before = before
OfFetchesBy Fact _ before = Unit {0}

-- the fact is true of the place of each fetch that came after the log's last announce, pin or leave: inside a section, after its
-- pin
abbrev pub OfFetches : (ℕ → Type 0) → List Entry → Type 0
OfFetches Fact [] = Unit {0}
OfFetches Fact (newest ∷ older) = OfFetchesBy Fact newest.step (OfFetches Fact older)

-- a log that begins with an older log, and goes on
abbrev pub BeginsWithLog : List Entry → List Entry → Type 0
BeginsWithLog log older = (newer : List Entry) × (log ≡ newer ++ older)

module _ {C : Type 0} where
  -- the list begins with the other
  abbrev pub BeginsWith : List C → List C → Type 0
  BeginsWith list front = (rest : List C) × (list ≡ front ++ rest)

  -- a worker has learned of versions: its seen list begins with them
  abbrev pub IsTold : List C → WorkerView C → Type 0
  IsTold versions view = BeginsWith view.seen versions

  -- the published versions up to a number
  abbrev pub up_to : ℕ → List C → List C
  up_to n published = take (suc n) published

  -- a worker outside, that made no step; the first configuration is version 0 and is in these pages
  abbrev pub new_worker : C → List ℕ → ℕ → WorkerView C
  new_worker config pages w = record { number = w; stage = Outside; log = []; seen = config ∷ []; pages = pages }

  -- the knowledge of a worker after each of its steps; `seen` is its seen list after a load of `current`, and `pages` are those
  -- of the version that a pin loaded
  abbrev pub after_peek : ℕ → ℕ → List C → WorkerView C → WorkerView C
  after_peek rows x seen view =
      record view { stage = stage_after_peek view.stage (x / rows); log = entry (Peek view.number) x ∷ view.log; seen = seen }

  abbrev pub after_announce : ℕ → WorkerView C → WorkerView C
  after_announce x view = record view { stage = Announced x; log = entry (Announce view.number) x ∷ view.log }

  abbrev pub after_pin : ℕ → ℕ → List C → List ℕ → WorkerView C → WorkerView C
  after_pin rows x seen pages view =
      record view { stage = stage_after_pin view.stage (x / rows) (x % rows); log = entry (Pin view.number) x ∷ view.log; seen = seen; pages = pages }

  abbrev pub after_fetch : ℕ → ℕ → WorkerView C → WorkerView C
  after_fetch place x view = record view { log = entry (Fetch view.number place) x ∷ view.log }

  abbrev pub after_leave : WorkerView C → WorkerView C
  after_leave view = record view { stage = Outside; log = entry (Leave view.number) 0 ∷ view.log }

  abbrev pub listed : Option C → List C
  listed None = []
  listed (Some config) = config ∷ []

  -- the knowledge of the operator after each of its steps; the rows begin at the place `rows_begin`
  abbrev pub after_fill : ℕ → ℕ → ℕ → OperatorView C → OperatorView C
  after_fill rows_begin place x view =
      record view { log = entry (Fill place x) x ∷ view.log; stored = slice_set view.stored (place - rows_begin) x }

  -- the proposal is the next version, in row r with these pages, and is used up
  abbrev pub after_publish : ℕ → ℕ → List ℕ → OperatorView C → OperatorView C
  after_publish r x pages view = record view {
    log = entry (Publish r) x ∷ view.log;
    published = view.published ++ listed view.proposal;
    version_rows = view.version_rows ++ r ∷ [];
    version_pages = view.version_pages ++ pages ∷ [];
    proposal = None;
  }

  -- a scan of worker w, whose log is this by then
  abbrev pub after_scan : ℕ → ℕ → List Entry → OperatorView C → OperatorView C
  after_scan w x log view =
      record view { log = entry (Scan (1 + w)) x ∷ view.log; scanned_logs = slice_set view.scanned_logs w log }

  -- a proposal takes the place of an earlier one
  abbrev pub after_proposal : C → OperatorView C → OperatorView C
  after_proposal config view = record view { proposal = Some config }
