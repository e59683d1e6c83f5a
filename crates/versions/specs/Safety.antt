-- The facts of every legal trace: the promises of `every_trace`. Each is a fact of one state, and is true of each state that a
-- legal trace leads to. Since each beginning of a legal trace is legal, a fact about the next step there is true of every step of
-- every trace. Only the fact about reclaiming is one of a trace.
use Rattle.std.specs.Prelude.{◌≡◌, ◌+◌, ◌/◌, ◌%◌, ◌<◌, ◌≤◌, ◌⊎◌, Contains, List, Some, length, slice_get, slice_index, slice_set, suc, ℕ}
use mathlib.Core.Option.{some}
use lib.ListN.{get_elem?}
use Rattle.versions.specs.declared.step.Step.{Step}
use Rattle.versions.specs.declared.step.Step.TheVariants.{Fetch, Fill, Scan}
use Rattle.versions.specs.declared.step.Entry.{Entry}
use Rattle.versions.specs.declared.step.Event.{Event}
use Rattle.versions.specs.declared.view.Stage.{Stage}
use Rattle.versions.specs.declared.view.Stage.TheVariants.{Inside}
use Rattle.versions.specs.declared.view.WorkerView.{WorkerView}
use Rattle.versions.specs.Layout.{HoldsForm, IsInPage, IsInRow, IsPartPlace, Shape, current_word, pages_named, row_begin, rows_begin, stored_words}
use Rattle.versions.specs.Step.{LoadsCurrent, place_of}
use Rattle.versions.specs.View.{BeginsWith, BeginsWithLog, OfFetches, last_pinned, last_seen, read_word_after, read_word_of, stage_after}
use Rattle.versions.specs.Free.{IsFree, IsLastIn, IsLastScan, IsScannedClear, Names, number_after}
use Rattle.versions.specs.State.{HoldsVersion, IsOpening, IsWordOf, State, after_step, start_of, state_after}
use Rattle.versions.specs.Legal.{IsLegal, IsLegalStep, IsLogOf, IsReached}
use Rattle.versions.specs.Reclaimed.{IsReclaimed}

module _ {C : Type 0} (shape : Shape C) where
  -- a fact of each state that a legal trace from an opening of a table leads to
  abbrev pub InEveryTrace : (State C → Type 0) → Type 0
  InEveryTrace Fact = (state : State C) → IsReached shape state → Fact state

  -- a fact of each legal trace from each opening of a table
  abbrev pub OfEveryTrace : (State C → List (Event C) → Type 0) → Type 0
  OfEveryTrace Fact =
      (config : C) (stored : List ℕ) (trace : List (Event C)) → IsOpening shape config stored → IsLegal shape (start_of shape config stored) trace
      → Fact (start_of shape config stored) trace

  -- the loaded word of `current` is that of the version published last
  pub record IsNewest (state : State C) (x : ℕ) : Type 0 where
    pub last : suc (x / shape.rows) ≡ length state.operator.published
    pub in_its_row : get_elem? state.operator.version_rows (x / shape.rows) ≡ some (x % shape.rows)
    -- at least each version that any worker loaded before
    pub since_loads : (w : ℕ) (view : WorkerView C) (e : Entry) → get_elem? state.workers w ≡ some view → Contains view.log e → LoadsCurrent e.step → e.word / shape.rows ≤ x / shape.rows
    -- at least each version published before
    pub since_publications : (n : ℕ) (config : C) → get_elem? state.operator.published n ≡ some config → n ≤ x / shape.rows

  -- the versions that worker w has seen are a beginning of the published ones, up to the version that its last load of `current`
  -- loaded, and it knows the pages of the version that its last pin loaded
  pub record IsSeen (state : State C) (w : ℕ) (view : WorkerView C) : Type 0 where
    pub begins : BeginsWith state.operator.published view.seen
    pub up_to_last : length view.seen ≡ suc (last_seen shape.rows view.log)
    pub pages : get_elem? state.operator.version_pages (last_pinned shape.rows view.log) ≡ some view.pages

  -- each peek and each pin loads the newest version, and each one in a log loaded a published version
  pub record LoadsNewest (state : State C) : Type 0 where
    pub loads : (step : Step) (x : ℕ) → LoadsCurrent step → IsLegalStep shape state step x → IsNewest state x
    pub logged : (w : ℕ) (view : WorkerView C) (e : Entry) → get_elem? state.workers w ≡ some view → Contains view.log e → LoadsCurrent e.step
        → e.word / shape.rows < length state.operator.published

  -- each worker has seen the published versions up to its last load of `current`, and knows the pages of its last pin's version
  pub record SeesUpToLastLoad (state : State C) : Type 0 where
    pub seen : (w : ℕ) (view : WorkerView C) → get_elem? state.workers w ≡ some view → IsSeen state w view

  -- no version that a worker holds was reclaimed
  pub record ReclaimsNoneHeld (start : State C) (trace : List (Event C)) : Type 0 where
    pub not_reclaimed : (w n r : ℕ) → HoldsVersion (state_after shape start trace) w n r → IsReclaimed shape start trace n → ⊥

  -- the version that a worker holds is in its row and its pages, and may not be overwritten
  pub record KeepsHeld (state : State C) : Type 0 where
    -- the row and the version's pages contain the published configuration
    pub words_stand : (w n r : ℕ) → HoldsVersion state w n r → (config : C) × (pages : List ℕ) × (get_elem? state.operator.published n ≡ some config)
        × (get_elem? state.operator.version_pages n ≡ some pages) × HoldsForm shape (rows_begin shape) state.words r config pages
    pub not_filled : (w n r place word x : ℕ) → HoldsVersion state w n r → IsLegalStep shape state (Fill place word) x → IsWordOf shape state n place → ⊥
    pub not_free : (w n r : ℕ) → HoldsVersion state w n r → IsFree shape n state.operator.log → ⊥
    -- a scan that shows a replaced version clear of the worker shows that the worker holds a later one: a grace period depends on
    -- that
    pub clear_below : (w n r m : ℕ) → HoldsVersion state w n r → IsScannedClear w m state.operator.log → m < n
    -- the row is the one in which the version was published, and no later version was published in it
    pub last_in_row : (w n r : ℕ) → HoldsVersion state w n r → IsLastIn r n state.operator.version_rows

  -- a version that is not free is in its row and the pages that the row names, and no page that it names is filled
  pub record KeepsPool (state : State C) : Type 0 where
    pub stands : (n r : ℕ) (config : C) (pages : List ℕ) → get_elem? state.operator.published n ≡ some config → get_elem? state.operator.version_rows n ≡ some r
        → get_elem? state.operator.version_pages n ≡ some pages → (IsFree shape n state.operator.log → ⊥) → HoldsForm shape (rows_begin shape) state.words r config pages
    pub pool_kept : (n page place word x : ℕ) → IsLegalStep shape state (Fill place word) x → IsInPage shape page place → Names state.operator n page
        → IsFree shape n state.operator.log
    -- therefore the current version names no page that is filled, nor does a version that a worker holds
    pub not_current : (page place word x : ℕ) → IsLegalStep shape state (Fill place word) x → IsInPage shape page place
        → Names state.operator (number_after state.operator.log) page → ⊥
    pub not_held : (w n r page place word x : ℕ) → HoldsVersion state w n r → IsLegalStep shape state (Fill place word) x → IsInPage shape page place → Names state.operator n page → ⊥
    pub names_stand : (n r : ℕ) (pages : List ℕ) → get_elem? state.operator.version_rows n ≡ some r → get_elem? state.operator.version_pages n ≡ some pages
        → (IsFree shape n state.operator.log → ⊥) → pages_named shape state.operator.stored r ≡ pages

  -- x is the word of a configuration's form at the place, if the form is in row r and these pages: a word of the row, or of a
  -- part
  abbrev pub IsFormWord : ℕ → C → List ℕ → ℕ → ℕ → Type 0
  IsFormWord r config pages place x = ((i : ℕ) × (i < shape.row_words) × (place ≡ row_begin shape r + i) × (x ≡ slice_index (shape.form.row config pages) i))
      ⊎ ((at : IsPartPlace shape config pages place) × (slice_get at.part at.k ≡ Some x))

  -- worker w holds a published version, and x is the word of its configuration's form at the place
  pub record IsPublishedWord (state : State C) (w place x : ℕ) : Type 0 where
    pub version : ℕ
    pub row : ℕ
    pub config : C
    pub pages : List ℕ
    pub held : HoldsVersion state w version row
    pub published : get_elem? state.operator.published version ≡ some config
    pub named : get_elem? state.operator.version_pages version ≡ some pages
    pub word : IsFormWord row config pages place x

  -- each fetch loads the word of the published configuration
  pub record FetchesPublished (state : State C) : Type 0 where
    pub fetches : (w place x : ℕ) → IsLegalStep shape state (Fetch w place) x → IsPublishedWord state w place x

  -- the place is a word of version n of a seen list, if that version is in row r and these pages
  abbrev pub IsSeenPlace : List C → List ℕ → ℕ → ℕ → ℕ → Type 0
  IsSeenPlace seen pages n r place = IsInRow shape r place ⊎ ((config : C) × (get_elem? seen n ≡ some config) × IsPartPlace shape config pages place)

  abbrev pub IsHeldPlaceAt : Stage → List C → List ℕ → ℕ → Type 0
  IsHeldPlaceAt (Inside read_word n r) seen pages place = IsSeenPlace seen pages n r place
  IsHeldPlaceAt _ seen pages place = ⊥

  -- the place is a word of the version that the worker holds, as far as the worker knows. In each state that a legal trace leads to,
  -- `HoldsPlace` says the same
  abbrev pub IsHeldPlace : WorkerView C → ℕ → Type 0
  IsHeldPlace view place = IsHeldPlaceAt view.stage view.seen view.pages place

  -- each worker's log is its own, in the order of a worker's steps, and ends at the worker's stage. Inside, the fetches since the
  -- pin are of words of the version held
  pub record IsOwnLog (w : ℕ) (view : WorkerView C) : Type 0 where
    pub number : view.number ≡ w
    pub order : IsLogOf shape w view.log
    pub stage : view.stage ≡ stage_after shape.rows view.log
    pub fetched : OfFetches (IsHeldPlace view) view.log

  -- a scan loads the read word after its worker's log, which begins with the log at the operator's scan before; that log is kept,
  -- and the read word after it is the word that the scan loaded
  pub record ScansTell (state : State C) : Type 0 where
    pub own_log : (w : ℕ) (view : WorkerView C) → get_elem? state.workers w ≡ some view → IsOwnLog w view
    pub scanned : (w x : ℕ) (view : WorkerView C) → get_elem? state.workers w ≡ some view
        → IsLegalStep shape state (Scan (1 + w)) x → x ≡ read_word_after view.log
    pub goes_on : (w : ℕ) (view : WorkerView C) (log : List Entry) → get_elem? state.workers w ≡ some view
        → get_elem? state.operator.scanned_logs w ≡ some log → BeginsWithLog view.log log
    pub kept : (w x : ℕ) (log : List Entry) → get_elem? state.operator.scanned_logs w ≡ some log
        → IsLastScan w x state.operator.log → x ≡ read_word_after log

  -- each word of the table is as its one writer knows it
  pub record ViewsTellTable (state : State C) : Type 0 where
    pub words_length : length state.words ≡ rows_begin shape + stored_words shape
    -- the word of the version published last, which is in this row
    pub current : (r : ℕ) × (get_elem? state.operator.version_rows (number_after state.operator.log) ≡ some r)
        × (slice_index state.words 0 ≡ current_word shape (number_after state.operator.log) r)
    pub workers_length : length state.workers ≡ shape.workers
    pub read_words : (w : ℕ) (view : WorkerView C) → get_elem? state.workers w ≡ some view
        → slice_index state.words (1 + w) ≡ read_word_of view.stage
    pub stored_length : length state.operator.stored ≡ stored_words shape
    pub stored : (i : ℕ) → i < stored_words shape → slice_index state.words (rows_begin shape + i) ≡ slice_index state.operator.stored i

  -- the operator's lists go up to the number of the current version, which is in range
  pub record ListsVersions (state : State C) : Type 0 where
    pub published_length : length state.operator.published ≡ suc (number_after state.operator.log)
    pub version_rows_length : length state.operator.version_rows ≡ suc (number_after state.operator.log)
    pub version_pages_length : length state.operator.version_pages ≡ suc (number_after state.operator.log)
    pub last_number : number_after state.operator.log ≤ shape.last_number
    pub a_row : (n r : ℕ) → get_elem? state.operator.version_rows n ≡ some r → r < shape.rows
    pub a_page : (n page : ℕ) → Names state.operator n page → page < shape.pages

  -- each legal step loads or stores the word at its place, and changes no other
  pub record StepsOnOneWord (state : State C) : Type 0 where
    pub one_word : (step : Step) (x : ℕ) → IsLegalStep shape state step x
        → (after_step shape state step x).words ≡ slice_set state.words (place_of step) x
