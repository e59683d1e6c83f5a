-- The names among the words of a row, as what a world decides by them.
use Rattle.std.specs.Prelude.{◌≡◌, ◌+◌, ◌-◌, ◌*◌, ◌<◌, List, None, Option, Some, drop, length, slice_get, slice_index, take, ℕ}
use Rattle.config_image.specs.declared.TheConstants.{PAGE_WORDS, ROW_WORDS}
use Rattle.config_image.specs.Image.{Group}
use Rattle.config_image.specs.PageTable.{page_of, start_of}
use Rattle.config_image.specs.Pooled.{part_begin, parts}
use Rattle.versions.specs.declared.layout.TheConstants.{POOL_BEGIN, ROWS_BEGIN}

-- the words of row r, in those of the whole table
abbrev pub row_in : List ℕ → ℕ → List ℕ
row_in words r = take ROW_WORDS (drop (ROWS_BEGIN + r * ROW_WORDS) words)

abbrev pub begin_or : ℕ → Option ℕ → ℕ
begin_or end None = end
begin_or end (Some name) = start_of name

-- where a part begins, by its name, and where the last one ends
abbrev pub begin_in : List ℕ → ℕ → ℕ → ℕ
begin_in names end index = begin_or end (slice_get names index)

-- word k of the page is a word of a part
pub record IsPartIn (names : List ℕ) (end page k : ℕ) : Type 0 where
  pub index : ℕ
  pub inside : index < length names
  pub page_is : page_of (slice_index names index) ≡ page
  pub low : k < begin_in names end (index + 1) - begin_in names end index

-- these are names of the configuration's parts: one for each, which tells where the part begins
pub record ArePartNames (config : List Group) (names : List ℕ) : Type 0 where
  pub counted : length names ≡ length (parts config)
  pub begins : (index : ℕ) → index < length names → start_of (slice_index names index) ≡ part_begin config index

-- the words of each part stand in its page
abbrev pub PartsStandIn : List ℕ → List Group → List ℕ → Type 0
PartsStandIn words config pages = (index page k x : ℕ) (part : List ℕ) → slice_get pages index ≡ Some page → slice_get (parts config) index ≡ Some part
    → slice_get part k ≡ Some x → slice_index words (POOL_BEGIN + page * PAGE_WORDS + k) ≡ x
