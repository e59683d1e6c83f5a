-- The few fetches by which a word of a section is read.
use Rattle.std.specs.Prelude.{◌≡◌, ◌+◌, ◌++◌, ◌-◌, ◌<◌, ◌≤◌, ◌⊎◌, ◌∷◌, List, Some, [], length, slice_get, slice_index_or, ℕ}
use Rattle.config_image.specs.Image.{Group, image, programs_begin}
use Rattle.config_image.specs.Pooled.{part_begin}
use Rattle.versions.specs.declared.step.Step.TheVariants.{Fetch}
use Rattle.versions.specs.declared.step.Entry.{Entry}
use Rattle.versions.specs.declared.view.Stage.TheVariants.{Inside}
use Rattle.versions.specs.declared.view.WorkerView.{WorkerView}
use Rattle.versions.specs.Layout.{page_begin, row_begin}
use Rattle.versions.specs.Step.{entry}
use Rattle.versions.specs.Table.{the_shape}
use Rattle.read_section.specs.Section.{IsFetchIn}
use Rattle.read_section.specs.Worker.{WorkerValue}

-- a worker with another log
abbrev pub with_log : List Entry → WorkerValue → WorkerValue
with_log log worker = record worker { view = record worker.view { log = log } }

-- each entry is a fetch of the worker, of a word of the version that it holds
abbrev pub AreFetchesIn : WorkerView (List Group) → List Entry → Type 0
AreFetchesIn view [] = Unit {0}
AreFetchesIn view (newest ∷ older) = IsFetchIn view newest.step × AreFetchesIn view older

-- the place of the fetch that decides word i of the image: the row's first word for the image's length, and for words after the
-- image; the same word of the row before the programs; otherwise the page that has the word's part. The word that it loads there
-- is the answer
pub record TellsWordAt (config : List Group) (r : ℕ) (pages : List ℕ) (i place x answer : ℕ) : Type 0 where
  pub by_length : (i ≡ 0) ⊎ (length (image config) ≤ i) → place ≡ row_begin the_shape r
  pub by_row : 0 < i → i < programs_begin config → place ≡ row_begin the_shape r + i
  pub by_page : programs_begin config ≤ i → i < length (image config)
      → (index : ℕ) × (page : ℕ) × (slice_get pages index ≡ Some page) × (part_begin config index ≤ i) × (i < part_begin config (index + 1))
      × (place ≡ page_begin the_shape page + (i - part_begin config index))
  pub loaded : 0 < i → i < length (image config) → x ≡ answer

-- word i of the version that is held was read by fetches of words of that version and by nothing else, at least one and at most
-- this many; the newest of them decided the answer
pub record Reads (most i answer : ℕ) (before after : WorkerValue) : Type 0 where
  pub place : ℕ
  pub loaded : ℕ
  pub older : List Entry
  pub few : length older < most
  pub only : after ≡ with_log (entry (Fetch before.view.number place) loaded ∷ (older ++ before.view.log)) before
  pub each : AreFetchesIn before.view (entry (Fetch before.view.number place) loaded ∷ older)
  pub newest : (read_word n r : ℕ) → before.view.stage ≡ Inside read_word n r → TellsWordAt (slice_index_or before.view.seen n []) r before.view.pages i place loaded answer

-- the most fetches that read a word: of the row's first word, of eleven page table entries, and of the word
abbrev pub FewFetches : ℕ → ℕ → WorkerValue → WorkerValue → Type 0
FewFetches = Reads 13

-- this many fetches of words of the version that is held, and nothing else
pub record Fetched (n : ℕ) (before after : WorkerValue) : Type 0 where
  pub fetches : List Entry
  pub counted : length fetches ≡ n
  pub only : after ≡ with_log (fetches ++ before.view.log) before
  pub each : AreFetchesIn before.view fetches

abbrev pub FetchedAtMost : ℕ → WorkerValue → WorkerValue → Type 0
FetchedAtMost most before after = (n : ℕ) × (n ≤ most) × Fetched n before after
