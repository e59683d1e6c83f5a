-- The words that a row in the pooled form and its pages decide, wherever they are in the table
-- (docs/SWITCH.md, "The pooled form").
use Rattle.std.specs.Prelude.{◌≡◌, ◌+◌, ◌*◌, ◌<◌, ◌≤◌, List, drop, length, slice_index, take, ℕ}
use Rattle.config_image.specs.declared.TheConstants.{ROW_WORDS}
use Rattle.config_image.specs.Image.{Group, image}
use Rattle.config_image.specs.PageTable.{header_begin, header_count}
use Rattle.config_image.specs.Pooled.{PooledFormTells}
use Rattle.versions.specs.Layout.{HoldsForm, all_rows, pages_named, row_at, rows_begin, stored_words}
use Rattle.versions.specs.Table.{the_shape}

-- a configuration whose image a row has room for
abbrev pub HasRoom : List Group → Type 0
HasRoom config = length (image config) ≤ ROW_WORDS

-- word k of page q, in words in which the rows begin at the place `from`
abbrev pub page_word : ℕ → List ℕ → ℕ → ℕ → ℕ
page_word from words q k = slice_index words (from + (all_rows the_shape + (q * the_shape.page_words + k)))

-- the names of pages among the words of a row (`pages_of`)
abbrev pub names_in : List ℕ → List ℕ
names_in row = take (header_count (slice_index row 0)) (drop (header_begin (slice_index row 0)) row)

-- the pages that row r names, in the words of the whole table
abbrev pub pages_in : List ℕ → ℕ → List ℕ
pages_in table r = pages_named the_shape (drop (rows_begin the_shape) table) r

-- if row r and these pages contain a configuration, they decide each word of the row that has the image, and the row names just
-- these pages
abbrev pub PooledFormStands : Type 0
PooledFormStands = (words : List ℕ) (r : ℕ) (config : List Group) (pages : List ℕ) → length words ≡ stored_words the_shape → r < the_shape.rows
    → HasRoom config → HoldsForm the_shape 0 words r config pages
    → PooledFormTells config (row_at the_shape words r) pages (page_word 0 words) × (pages_named the_shape words r ≡ pages)
