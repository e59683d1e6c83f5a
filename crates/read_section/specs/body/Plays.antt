-- What each single step tells the seat that makes it: the word that it is on, what it gave, and what its actor knows then.
use Rattle.std.specs.Prelude.{◌≡◌, ◌+◌, ◌/◌, ◌%◌, ◌<◌, List, Some, length, slice_get, ℕ}
use mathlib.Core.Option.{some}
use lib.ListN.{get_elem?}
use Rattle.std.specs.List.{Contains}
use Rattle.atomic_table.specs.Table.{Me, Step}
use Rattle.versions.specs.declared.step.Entry.{Entry}
use Rattle.versions.specs.declared.view.Stage.TheVariants.{Inside}
use Rattle.versions.specs.declared.view.WorkerView.{WorkerView}
use Rattle.versions.specs.declared.view.OperatorView.{OperatorView}
use Rattle.versions.specs.Layout.{Shape, pages_named, rows_begin}
use Rattle.versions.specs.View.{BeginsWith, after_announce, after_fetch, after_fill, after_leave, after_peek, after_pin, after_proposal, after_publish, after_scan, last_pinned}
use Rattle.versions.specs.Safety.{IsFormWord, IsOwnLog}
use Rattle.read_section.specs.declared.versions_rule.SeatView.{SeatView}
use Rattle.read_section.specs.View.{Shows, TellsLog}
use Rattle.read_section.specs.body.SeatView.{with_operator, with_worker}

module _ {C : Type 0} (shape : Shape C) where
  abbrev Seated : Type 0 → Type 0
  Seated S = Me S (SeatView C)

  -- the seat's worker knows this now
  abbrev pub WorkerKnows : {S : Type 0} → Seated S → Seated S → WorkerView C → Type 0
  WorkerKnows me after view = after ≡ (with_worker me.0 view, me.1)

  abbrev pub OperatorKnows : {S : Type 0} → Seated S → Seated S → OperatorView C → Type 0
  OperatorKnows me after view = after ≡ (with_operator me.0 view, me.1)

  -- a load of `current` that gave x shows these versions, which begin with those that the worker saw and was told of; where
  -- the seat is the operator's too, they are all
  pub record ShowsSeat (IsPublishable : C → Type 0) (seat : SeatView C) (view : WorkerView C) (x : ℕ) (seen : List C) : Type 0 where
    pub shows : Shows shape x seen view.seen
    pub told : BeginsWith seen seat.told
    pub all : (operator : OperatorView C) → seat.operator ≡ Some operator → seen ≡ operator.published
    pub publishable : (config : C) → Contains seen config → IsPublishable config
    -- the log up to there is the worker's own, in the order of a worker's steps
    pub own : IsOwnLog shape view.number view

  abbrev pub peeks : (C → Type 0) → {S : Type 0} → Step S → Seated S → ℕ → Seated S → Type 0
  peeks IsPublishable at me x after = (view : WorkerView C) → me.0.worker ≡ Some view → (at.word ≡ 0)
      × ((seen : List C) × ShowsSeat IsPublishable me.0 view x seen × WorkerKnows me after (after_peek shape.rows x seen view))

  abbrev pub announces : {S : Type 0} → Step S → Seated S → ℕ → Seated S → Type 0
  announces at me x after = (view : WorkerView C) → me.0.worker ≡ Some view → (at.word ≡ 1 + view.number) × WorkerKnows me after (after_announce x view)

  -- where x has the version that the worker's pin before gave, the worker knew these pages already
  abbrev pub pins : (C → Type 0) → {S : Type 0} → Step S → Seated S → ℕ → Seated S → Type 0
  pins IsPublishable at me x after = (view : WorkerView C) → me.0.worker ≡ Some view → (at.word ≡ 0)
      × ((seen : List C) × (pages : List ℕ) × ShowsSeat IsPublishable me.0 view x seen
      × (x / shape.rows ≡ last_pinned shape.rows view.log → pages ≡ view.pages) × WorkerKnows me after (after_pin shape.rows x seen pages view))

  -- x is the word that version n has at the place, if it has one there: n is one of the versions that the worker has seen, and
  -- has the pages that the worker knows
  pub record TellsWord (versions : List C) (pages : List ℕ) (n r place x : ℕ) : Type 0 where
    pub config : C
    pub seen : get_elem? versions n ≡ some config
    pub counted : length pages ≡ length (shape.form.parts config)
    pub below : (index page : ℕ) → slice_get pages index ≡ Some page → page < shape.pages
    pub word : (y : ℕ) → IsFormWord shape r config pages place y → x ≡ y

  abbrev pub fetches : {S : Type 0} → Step S → Seated S → ℕ → Seated S → Type 0
  fetches at me x after = (view : WorkerView C) → me.0.worker ≡ Some view → WorkerKnows me after (after_fetch at.word x view)
      × ((read_word n r : ℕ) → view.stage ≡ Inside read_word n r → TellsWord view.seen view.pages n r at.word x)

  -- it stores 0; the log up to there is the worker's own, in the order of a worker's steps
  abbrev pub leaves : {S : Type 0} → Step S → Seated S → ℕ → Seated S → Type 0
  leaves at me x after = (view : WorkerView C) → me.0.worker ≡ Some view → (at.word ≡ 1 + view.number) × (x ≡ 0) × IsOwnLog shape view.number view × WorkerKnows me after (after_leave view)

  abbrev pub fills : {S : Type 0} → Step S → Seated S → ℕ → Seated S → Type 0
  fills at me x after = (view : OperatorView C) → me.0.operator ≡ Some view → OperatorKnows me after (after_fill (rows_begin shape) at.word x view)

  -- the operator proposes the configuration, and publishes it from the row, with the pages that the row names
  abbrev pub publishes : C → {S : Type 0} → Step S → Seated S → ℕ → Seated S → Type 0
  publishes config at me x after = (view : OperatorView C) → me.0.operator ≡ Some view → (at.word ≡ 0)
      × OperatorKnows me after (after_publish (x % shape.rows) x (pages_named shape view.stored (x % shape.rows)) (after_proposal config view))

  abbrev pub scans : {S : Type 0} → Step S → Seated S → ℕ → Seated S → Type 0
  scans at me x after = (view : OperatorView C) → me.0.operator ≡ Some view → (w : ℕ) → at.word ≡ 1 + w
      → (log : List Entry) × TellsLog shape view w x log × ((worker : WorkerView C) → me.0.worker ≡ Some worker → worker.number ≡ w → log ≡ worker.log)
      × OperatorKnows me after (after_scan w x log view)
