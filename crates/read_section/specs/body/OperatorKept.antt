-- How what an operator keeps goes with what its steps did.
use Rattle.std.specs.Prelude.{◌≡◌, ◌+◌, ◌*◌, ◌<◌, ◌≤◌, List, length, slice_index, suc, ℕ}
use mathlib.Core.Option.{some}
use lib.ListN.{get_elem?}
use Rattle.config_image.specs.declared.TheConstants.{PAGE_LIMIT, ROW_WORDS}
use Rattle.config_image.specs.Image.{Group}
use Rattle.versions.specs.declared.book.Book.{Book}
use Rattle.versions.specs.declared.layout.TheConstants.{LAST_NUMBER, ROWS, ROWS_BEGIN, TABLE_WORDS}
use Rattle.versions.specs.declared.view.OperatorView.{OperatorView}
use Rattle.versions.specs.Layout.{stored_words}
use Rattle.versions.specs.Book.{IsBook}
use Rattle.versions.specs.Free.{IsFree, number_after}
use Rattle.versions.specs.Table.{the_shape}
use Rattle.read_section.specs.Layout.{IsZeroFrom}
use Rattle.read_section.specs.Operator.{IsCurrent, StandsIn}

-- what the operator keeps tells what its steps did: behind the place where the rows begin, `words` has the words of the rows, and
-- `zeros` has for each row a place from which on its words are 0, and `pages` are those of the current version
pub record IsKeptBy {A : Type 0} (view : OperatorView (List Group)) (config : List Group) (book : Book A) (reported : ℕ) (zeros words pages : List ℕ) : Type 0 where
  pub steps_told : IsBook the_shape view book
  pub number_limited : book.number ≤ LAST_NUMBER
  pub published_length : length view.published ≡ suc (number_after view.log)
  pub version_rows_length : length view.version_rows ≡ suc (number_after view.log)
  pub version_pages_length : length view.version_pages ≡ suc (number_after view.log)
  pub stored_length : length view.stored ≡ stored_words the_shape
  pub words_length : length words ≡ TABLE_WORDS
  pub words_same : (i : ℕ) → i < ROWS * ROW_WORDS → slice_index words (ROWS_BEGIN + i) ≡ slice_index view.stored i
  pub reused : (m later r : ℕ) → m < later → get_elem? view.version_rows m ≡ some r → get_elem? view.version_rows later ≡ some r → IsFree the_shape m view.log
  pub few_pages : (n : ℕ) (pages : List ℕ) → get_elem? view.version_pages n ≡ some pages → length pages ≤ PAGE_LIMIT
  pub current : IsCurrent view config
  pub stands : StandsIn view config pages
  pub reported_free : (m : ℕ) → m < reported → IsFree the_shape m view.log
  pub zeros_length : length zeros ≡ ROWS
  pub zeros_limited : (row : ℕ) → row < ROWS → slice_index zeros row ≤ ROW_WORDS
  pub zeros_stand : (row : ℕ) → row < ROWS → IsZeroFrom view row (slice_index zeros row)

-- words that are 0 from the place `from` on are 0 from the place `to` on after a word is stored at a place of them
abbrev pub KeepsZeros : ℕ → ℕ → ℕ → ℕ → Type 0
KeepsZeros place word from to = (i : ℕ) → to ≤ i → (i ≡ place → word ≡ 0) × ((i ≡ place → ⊥) → from ≤ i)
