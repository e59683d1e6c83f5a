-- The words of the table: `current`, a read word for each worker, the rows, and the pool of pages (docs/TABLE.md, "The words").
use Rattle.std.specs.Prelude.{◌≡◌, ◌+◌, ◌*◌, ◌<◌, ◌≤◌, List, Some, drop, length, slice_get, slice_index, take, ℕ}

-- how a table stores configurations: in a row, and some of their words in pages of the pool
pub record Form (C : Type 0) : Type 0 where
  -- the words of a row whose parts are in these pages
  pub row : C → List ℕ → List ℕ
  -- the parts: words that are in pages, each part from the first word of a page on
  pub parts : C → List (List ℕ)
  -- the pages that the words of a row name; if the row contains a configuration, one for each part
  pub named : List ℕ → List ℕ

-- the numbers of workers, rows and pages, the numbers of words of a row and of a page, the number of the last version, the
-- greatest charge, the charge of a configuration, and its form. The laws are true for every shape; `the_shape` of
-- specs/Table.antt is the product's
pub record Shape (C : Type 0) : Type 0 where
  pub workers : ℕ
  pub rows : ℕ
  pub row_words : ℕ
  pub pages : ℕ
  pub page_words : ℕ
  pub last_number : ℕ
  pub charge_limit : ℕ
  pub charge : C → ℕ
  pub form : Form C

module _ {C : Type 0} (shape : Shape C) where
  -- `current` if version n is in row r
  abbrev pub current_word : ℕ → ℕ → ℕ
  current_word n r = n * shape.rows + r

  -- the rows come after `current` and the read words
  abbrev pub rows_begin : ℕ
  rows_begin = 1 + shape.workers

  -- the place of the first word of row r
  abbrev pub row_begin : ℕ → ℕ
  row_begin r = rows_begin + r * shape.row_words

  -- the place is in row r. A user of this knows that there is such a row: the pool comes after the last one
  abbrev pub IsInRow : ℕ → ℕ → Type 0
  IsInRow r place = (i : ℕ) × (i < shape.row_words) × (place ≡ row_begin r + i)

  -- the number of words of the rows
  abbrev pub all_rows : ℕ
  all_rows = shape.rows * shape.row_words

  -- the number of words of the rows and the pool, which the operator fills
  abbrev pub stored_words : ℕ
  stored_words = all_rows + shape.pages * shape.page_words

  -- the place of the first word of page q: the pool comes after the rows
  abbrev pub page_begin : ℕ → ℕ
  page_begin q = rows_begin + (all_rows + q * shape.page_words)

  -- the place is in page q. A user of this knows that there is such a page
  abbrev pub IsInPage : ℕ → ℕ → Type 0
  IsInPage q place = (k : ℕ) × (k < shape.page_words) × (place ≡ page_begin q + k)

  -- the words of row r, in a list of the words of rows and pool
  abbrev pub row_at : List ℕ → ℕ → List ℕ
  row_at stored r = take shape.row_words (drop (r * shape.row_words) stored)

  -- the pages that row r names
  abbrev pub pages_named : List ℕ → ℕ → List ℕ
  pages_named stored r = shape.form.named (row_at stored r)

  -- the place is word k of the part at an index, in the page that these pages give that part. The end of a page, after its part,
  -- is no such place
  pub record IsPartPlace (config : C) (pages : List ℕ) (place : ℕ) : Type 0 where
    pub index : ℕ
    pub page : ℕ
    pub part : List ℕ
    pub k : ℕ
    pub page_is : slice_get pages index ≡ Some page
    pub part_is : slice_get (shape.form.parts config) index ≡ Some part
    pub inside : k < length part
    pub at : place ≡ page_begin page + k

  -- row r and these pages contain the configuration, in a list of words in which the rows begin at the place `from`: the row has
  -- the form's words, and each part is in its page
  pub record HoldsForm (from : ℕ) (words : List ℕ) (r : ℕ) (config : C) (pages : List ℕ) : Type 0 where
    pub counted : length pages ≡ length (shape.form.parts config)
    pub below : (index page : ℕ) → slice_get pages index ≡ Some page → page < shape.pages
    pub fits : (index : ℕ) (part : List ℕ) → slice_get (shape.form.parts config) index ≡ Some part → length part ≤ shape.page_words
    pub row : (i : ℕ) → i < shape.row_words → slice_index words (from + (r * shape.row_words + i)) ≡ slice_index (shape.form.row config pages) i
    pub standing : (index page k x : ℕ) (part : List ℕ) → slice_get pages index ≡ Some page → slice_get (shape.form.parts config) index ≡ Some part
        → slice_get part k ≡ Some x → slice_index words (from + (all_rows + (page * shape.page_words + k))) ≡ x
