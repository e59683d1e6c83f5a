-- What a contract sees of an Operator: its knowledge, and the versions that it reported.
use Rattle.std.specs.Prelude.{◌≡◌, ◌+◌, ◌++◌, ◌<◌, ◌≤◌, ◌↔◌, ◌∷◌, List, Some, [], length, slice_get, ℕ}
use mathlib.Core.Option.{some}
use lib.ListN.{get_elem?}
use Rattle.atomic_table.specs.Seated.{TableId}
use Rattle.config_image.specs.declared.TheConstants.{PAGE_LIMIT}
use Rattle.config_image.specs.Image.{Group}
use Rattle.versions.specs.declared.layout.TheConstants.{WORKERS}
use Rattle.versions.specs.declared.step.Entry.{Entry}
use Rattle.versions.specs.declared.view.OperatorView.{OperatorView}
use Rattle.versions.specs.Layout.{HoldsForm, current_word, page_begin, pages_named, row_begin, rows_begin}
use Rattle.versions.specs.View.{after_fill, after_peek, after_proposal, after_publish, after_scan, new_worker}
use Rattle.versions.specs.Free.{IsFree, IsFreePage, IsFreeRow, number_after}
use Rattle.versions.specs.State.{new_operator}
use Rattle.versions.specs.World.{opening_stored}
use Rattle.versions.specs.Table.{the_shape}
use Rattle.read_section.specs.View.{Shows, TellsLog}
use Rattle.read_section.specs.Worker.{WorkerValue, steps}

-- the operator's table, its knowledge, and the number of versions that it reported as free
pub record OperatorValue : Type 0 where
  pub table : TableId
  pub view : OperatorView (List Group)
  pub reported : ℕ

-- the configuration was published last
abbrev pub IsCurrent : OperatorView (List Group) → List Group → Type 0
IsCurrent view config = (older : List (List Group)) × (view.published ≡ older ++ config ∷ [])

-- the current version is in its row and in these pages, in the pooled form of the configuration
pub record StandsIn (view : OperatorView (List Group)) (config : List Group) (pages : List ℕ) : Type 0 where
  pub row : ℕ
  pub in_row : get_elem? view.version_rows (number_after view.log) ≡ some row
  pub holds : HoldsForm the_shape 0 view.stored row config pages
  pub named : get_elem? view.version_pages (number_after view.log) ≡ some pages

-- the operator after each of its single steps: a fill of a place of a row or of a page, the publication of a configuration from a
-- row, a scan of worker w that showed this log
abbrev pub filled : ℕ → ℕ → ℕ → OperatorValue → OperatorValue
filled row place word operator = record operator { view = after_fill (rows_begin the_shape) (row_begin the_shape row + place) word operator.view }

abbrev pub filled_page : ℕ → ℕ → ℕ → OperatorValue → OperatorValue
filled_page page place word operator = record operator { view = after_fill (rows_begin the_shape) (page_begin the_shape page + place) word operator.view }

abbrev pub put_in : ℕ → List Group → OperatorView (List Group) → OperatorView (List Group)
put_in row config view = after_publish row (current_word the_shape (number_after view.log + 1) row) (pages_named the_shape view.stored row) (after_proposal config view)

abbrev pub published_from : ℕ → List Group → OperatorValue → OperatorValue
published_from row config operator = record operator { view = put_in row config operator.view }

abbrev pub scanned : ℕ → ℕ → List Entry → OperatorValue → OperatorValue
scanned w x log operator = record operator { view = after_scan w x log operator.view }

-- a row is free, so a version may be published
abbrev pub HasFreeRow : OperatorView (List Group) → Type 0
HasFreeRow view = (row : ℕ) × IsFreeRow the_shape view row

-- q is the least free page from the page `from` on
pub record IsLeastFreePage (view : OperatorView (List Group)) (from q : ℕ) : Type 0 where
  pub from_there : from ≤ q
  pub free : IsFreePage the_shape view q
  pub least : (page : ℕ) → from ≤ page → IsFreePage the_shape view page → q ≤ page

-- the pool never runs short: if a row is free, another page is free too, even if any pages, fewer than one version may name, are
-- left out
abbrev pub NeverShort : OperatorView (List Group) → Type 0
NeverShort view = HasFreeRow view → (taken : List ℕ) → length taken < PAGE_LIMIT
    → (page : ℕ) × IsFreePage the_shape view page × ((index : ℕ) → slice_get taken index ≡ Some page → ⊥)

-- the versions from `first` on, `count` of them, are free and were not reported before, and no later one is free
pub record IsReport (view : OperatorView (List Group)) (reported first count : ℕ) : Type 0 where
  pub from : first ≡ reported
  pub free : (m : ℕ) → first ≤ m → IsFree the_shape m view.log ↔ (m < first + count)

-- a worker peeks, which shows it all that is published, and the operator then scans it, which shows the worker's whole log: its
-- own, in the order of its steps, and going on from the log of the operator's scan before
pub record Meets (worker worker' : WorkerValue) (operator operator' : OperatorValue) : Type 0 where
  pub peeked : ℕ
  pub word : ℕ
  pub shows : Shows the_shape peeked operator.view.published worker.view.seen
  pub one_peek : worker' ≡ steps (after_peek the_shape.rows peeked operator.view.published) worker
  pub told : TellsLog the_shape operator.view worker.view.number word worker'.view.log
  pub one_scan : operator' ≡ scanned worker.view.number word worker'.view.log operator

-- the operator and the workers of a table that opens with a configuration: nobody made a step
abbrev pub opened_operator : TableId → List Group → OperatorValue
opened_operator table config = record { table = table; view = new_operator the_shape config (opening_stored config); reported = 0 }

pub record AreOpenedWorkers (table : TableId) (config : List Group) (workers : List WorkerValue) : Type 0 where
  pub count : length workers ≡ WORKERS
  pub each : (w : ℕ) → w < WORKERS → slice_get workers w ≡ Some (record { table = table; view = new_worker config (pages_named the_shape (opening_stored config) 0) w })
