-- What a contract sees of a Book: the relation of its numbers to the operator's log, and their changes by a publication and a
-- scan.
use Rattle.std.specs.Prelude.{◌≡◌, ◌+◌, ◌<◌, ◌≤◌, ◌↔◌, ◌⊎◌, ◌∷◌, List, [], length, replicate, slice_index, slice_set, suc, ℕ}
use mathlib.Core.Option.{some}
use lib.ListN.{get_elem?}
use Rattle.versions.specs.declared.book.Book.{Book}
use Rattle.versions.specs.declared.view.OperatorView.{OperatorView}
use Rattle.versions.specs.Layout.{Shape}
use Rattle.versions.specs.Free.{IsClear, IsScannedClear, Names, number_after}
use Rattle.versions.specs.Table.{the_shape}

-- the number is the least of these
abbrev pub IsLeast : List ℕ → ℕ → Type 0
IsLeast numbers least =
    ((w : ℕ) → w < length numbers → least ≤ slice_index numbers w) × ((w : ℕ) × (w < length numbers) × (slice_index numbers w ≡ least))

module _ {C : Type 0} {A : Type 0} (shape : Shape C) where
  -- the numbers agree with the operator's log and its lists of versions: the versions below `cleared` at w were scanned clear of
  -- worker w; the last version in row r is one less than `last` at r, and the last one that named page q is one less than
  -- `last_use` at q, with 0 for none; `free` is the least of `cleared`
  pub record IsBook (view : OperatorView C) (book : Book A) : Type 0 where
    pub number : book.number ≡ number_after view.log
    pub last_length : length book.last ≡ shape.rows
    pub cleared_length : length book.cleared ≡ shape.workers
    pub cleared : (w m : ℕ) → w < shape.workers → IsScannedClear w m view.log ↔ (m < slice_index book.cleared w)
    pub below_last : (r m : ℕ) → get_elem? view.version_rows m ≡ some r → m < slice_index book.last r
    pub last_there : (r m : ℕ) → slice_index book.last r ≡ suc m → get_elem? view.version_rows m ≡ some r
    pub last_use_length : length book.last_use ≡ shape.pages
    pub below_use : (n page : ℕ) → Names view n page → n < slice_index book.last_use page
    pub use_there : (n page : ℕ) → slice_index book.last_use page ≡ suc n → Names view n page
    pub free : IsLeast book.cleared book.free

-- the numbers with this one at each of the places
abbrev pub used_by : ℕ → List ℕ → List ℕ → List ℕ
used_by number [] numbers = numbers
used_by number (page ∷ pages) numbers = used_by number pages (slice_set numbers page number)

-- the book at the start: version 0 is in row 0 and names these pages, and nothing was scanned
pub record IsBookAtStart {A : Type 0} (pages : List ℕ) (book : Book A) : Type 0 where
  pub number : book.number ≡ 0
  pub last : book.last ≡ slice_set (replicate the_shape.rows 0) 0 1
  pub last_use : book.last_use ≡ used_by 1 pages (replicate the_shape.pages 0)
  pub cleared : book.cleared ≡ replicate the_shape.workers 0
  pub free : book.free ≡ 0

-- the book after a publication from row r, which names these pages
abbrev pub with_version_in : {A : Type 0} → ℕ → List ℕ → Book A → Book A
with_version_in r pages before =
    record before { number = before.number + 1; last = slice_set before.last r (before.number + 2); last_use = used_by (before.number + 2) pages before.last_use }

-- the book after a scan of worker w that loaded x
pub record IsCleared {A : Type 0} (w x : ℕ) (before after : Book A) : Type 0 where
  pub number : after.number ≡ before.number
  pub last : after.last ≡ before.last
  pub last_use : after.last_use ≡ before.last_use
  pub cleared_length : length after.cleared ≡ length before.cleared
  pub others : (v : ℕ) → (v ≡ w → ⊥) → slice_index after.cleared v ≡ slice_index before.cleared v
  pub here : (m : ℕ) → (m < slice_index after.cleared w) ↔ (((m < before.number) × IsClear m x) ⊎ (m < slice_index before.cleared w))
  pub free : IsLeast before.cleared before.free → IsLeast after.cleared after.free
