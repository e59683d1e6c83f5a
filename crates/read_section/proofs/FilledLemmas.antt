-- The words of rows after a fill.
use Rattle.std.proofs.Common.{◌≡◌, ◌∙◌, ◌⊎◌, ◌≢◌, ℕ, ◌+◌, ◌-◌, ◌*◌, ◌<◌, ◌++◌, ◌∷◌, [], List, ap, arith, get_or, get_or-set_other, get_or-set_same, length, set, slice_index, inr, suc, sym, zero, ⊎_elim}
use mathlib.Core.Logic.{dite}
use native.Mathlib.Decide.{ℕ_discrete}
use Rattle.config_image.specs.declared.TheConstants.{PAGE_WORDS, ROW_WORDS}
use Rattle.versions.specs.declared.layout.TheConstants.{PAGES, ROWS}
use Rattle.versions.specs.Layout.{page_begin, row_begin, rows_begin, stored_words}
use Rattle.versions.specs.Table.{the_shape}
use Rattle.versions.specs.World.{first_pages}
use Rattle.std.specs.List.{range_with_len}
use Rattle.versions.proofs.ListLemmas as size
use Rattle.versions.proofs.ShapeLemmas.{pages_is, stored_is}
use Rattle.read_section.specs.Operator.{OperatorValue, filled, filled_page}

-- what the shape says of rows, in numbers
pub row_inside : (r : ℕ) → r < the_shape.rows → r < ROWS
unfolding the_shape
row_inside r low = low

-- a place of a row among the words of all rows
pub place_in_rows : (r place : ℕ) → (row_begin the_shape r + place) - rows_begin the_shape ≡ r * ROW_WORDS + place
unfolding the_shape
place_in_rows r place = omega arith

-- a place of a page among the words of rows and pool
pub place_in_pool : (q place : ℕ) → (page_begin the_shape q + place) - rows_begin the_shape ≡ ROWS * ROW_WORDS + (q * PAGE_WORDS + place)
unfolding the_shape
place_in_pool q place = omega arith

pub place_stored : (r place : ℕ) → r < ROWS → place < ROW_WORDS → r * ROW_WORDS + place < ROWS * ROW_WORDS
place_stored r place low small = size.row_inside r ROWS place ROW_WORDS low small

pub rows_stored : (i : ℕ) → i < ROWS * ROW_WORDS → i < stored_words the_shape
rows_stored i low = omega (arith, stored_is)

pub pages_stored : (q place : ℕ) → q < the_shape.pages → place < PAGE_WORDS → ROWS * ROW_WORDS + (q * PAGE_WORDS + place) < stored_words the_shape
pages_stored q place low small = let inside = size.row_inside q PAGES place PAGE_WORDS (omega (arith, pages_is)) small in omega (arith, stored_is)

-- one page more of the first ones
pub first_pages-more : (n : ℕ) → first_pages n ++ n ∷ [] ≡ first_pages (n + 1)
first_pages-more n = ap (λ (k : ℕ). first_pages n ++ k ∷ []) (let g : n ≡ 0 + n = omega arith in g) ∙ (range-more 0 n ∙ ap (range_with_len 0) (let g : suc n ≡ n + 1 = omega arith in g))
  where
    range-more : (a n : ℕ) → range_with_len a n ++ (a + n) ∷ [] ≡ range_with_len a (suc n)
    range-more a zero = ap (λ (k : ℕ). k ∷ []) (let g : a + 0 ≡ a = omega arith in g)
    range-more a (suc n) = ap (λ (k : ℕ). a ∷ (range_with_len (a + 1) n ++ k ∷ [])) (let g : a + suc n ≡ (a + 1) + n = omega arith in g) ∙ ap (λ l. a ∷ l) (range-more (a + 1) n)

-- a word of a row
abbrev pub word_at : OperatorValue → ℕ → ℕ → ℕ
word_at operator r i = slice_index operator.view.stored (r * ROW_WORDS + i)

module _ (now after : OperatorValue) (r place word : ℕ) (low : r < ROWS) (small : place < ROW_WORDS) (whole : length now.view.stored ≡ stored_words the_shape) (e : after ≡ filled r place word now) where
  pub words_are : after.view.stored ≡ set now.view.stored (r * ROW_WORDS + place) word
  words_are = ap (λ (o : OperatorValue). o.view.stored) e ∙ ap (λ (k : ℕ). set now.view.stored k word) (place_in_rows r place)

  pub word_filled : word_at after r place ≡ word
  word_filled = ap (λ l. get_or l (r * ROW_WORDS + place) 0) words_are ∙ get_or-set_same now.view.stored (r * ROW_WORDS + place) word 0 (let inside = rows_stored (r * ROW_WORDS + place) (place_stored r place low small) in omega arith)

  pub word_kept : (q i : ℕ) → i < ROW_WORDS → (q ≢ r) ⊎ (i ≢ place) → word_at after q i ≡ word_at now q i
  word_kept q i inside other = ap (λ l. get_or l (q * ROW_WORDS + i) 0) words_are
      ∙ get_or-set_other now.view.stored (r * ROW_WORDS + place) (q * ROW_WORDS + i) word 0 (λ k. ⊎_elim (λ ne. ne (omega arith)) (λ ne. ne (omega arith)) other)

  -- no word of the pool
  pub pool_word_kept : (q k : ℕ) → slice_index after.view.stored (ROWS * ROW_WORDS + (q * PAGE_WORDS + k)) ≡ slice_index now.view.stored (ROWS * ROW_WORDS + (q * PAGE_WORDS + k))
  pool_word_kept q k = ap (λ l. get_or l (ROWS * ROW_WORDS + (q * PAGE_WORDS + k)) 0) words_are
      ∙ get_or-set_other now.view.stored (r * ROW_WORDS + place) (ROWS * ROW_WORDS + (q * PAGE_WORDS + k)) word 0 (λ same. let here = place_stored r place low small in omega arith)

  -- the first words of the row, where the fill is right behind them
  pub front_filled : (words : List ℕ) → word ≡ slice_index words place → ((i : ℕ) → i < place → word_at now r i ≡ slice_index words i) → (i : ℕ) → i < place + 1 → word_at after r i ≡ slice_index words i
  front_filled words is front i below = dite (ℕ_discrete i place)
      (λ same. ap (word_at after r) same ∙ (word_filled ∙ (is ∙ ap (slice_index words) (sym same))))
      (λ other. word_kept r i (omega arith) (inr other) ∙ front i (omega arith))

-- ---- a fill of a page

module _ (now after : OperatorValue) (page place word : ℕ) (low : page < the_shape.pages) (small : place < PAGE_WORDS) (whole : length now.view.stored ≡ stored_words the_shape) (e : after ≡ filled_page page place word now) where
  pub page_words_are : after.view.stored ≡ set now.view.stored (ROWS * ROW_WORDS + (page * PAGE_WORDS + place)) word
  page_words_are = ap (λ (o : OperatorValue). o.view.stored) e ∙ ap (λ (k : ℕ). set now.view.stored k word) (place_in_pool page place)

  pub page_word_filled : slice_index after.view.stored (ROWS * ROW_WORDS + (page * PAGE_WORDS + place)) ≡ word
  page_word_filled = ap (λ l. get_or l (ROWS * ROW_WORDS + (page * PAGE_WORDS + place)) 0) page_words_are
      ∙ get_or-set_same now.view.stored (ROWS * ROW_WORDS + (page * PAGE_WORDS + place)) word 0 (let inside = pages_stored page place low small in omega arith)

  pub page_word_kept : (q k : ℕ) → k < PAGE_WORDS → (q ≢ page) ⊎ (k ≢ place)
      → slice_index after.view.stored (ROWS * ROW_WORDS + (q * PAGE_WORDS + k)) ≡ slice_index now.view.stored (ROWS * ROW_WORDS + (q * PAGE_WORDS + k))
  page_word_kept q k inside other = ap (λ l. get_or l (ROWS * ROW_WORDS + (q * PAGE_WORDS + k)) 0) page_words_are
      ∙ get_or-set_other now.view.stored (ROWS * ROW_WORDS + (page * PAGE_WORDS + place)) (ROWS * ROW_WORDS + (q * PAGE_WORDS + k)) word 0
      (λ same. let page_is = size.same_row PAGE_WORDS q page k place inside small (omega arith) in ⊎_elim (λ ne. ne page_is) (λ ne. ne (let g = ap (λ (n : ℕ). n * PAGE_WORDS) page_is in omega arith)) other)

  pub row_word_kept : (q i : ℕ) → q < ROWS → i < ROW_WORDS → slice_index after.view.stored (q * ROW_WORDS + i) ≡ slice_index now.view.stored (q * ROW_WORDS + i)
  row_word_kept q i in_rows inside = ap (λ l. get_or l (q * ROW_WORDS + i) 0) page_words_are
      ∙ get_or-set_other now.view.stored (ROWS * ROW_WORDS + (page * PAGE_WORDS + place)) (q * ROW_WORDS + i) word 0 (λ same. let here = place_stored q i in_rows inside in omega arith)
