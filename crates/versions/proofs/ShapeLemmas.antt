-- The shape of the switch's table, in numbers.
use Rattle.std.proofs.Common.{◌≡◌, ℕ, ◌+◌, ◌-◌, ◌*◌, ◌/◌, ◌%◌, ◌<◌, ◌≤◌, List, arith, refl, ◌∙◌, ap}
use Rattle.std.proofs.lemmas.Nat.{div-add-mod', div-mul-add}
use Rattle.std.proofs.Math.Nat.{mod-lt}
use Rattle.config_image.specs.declared.TheConstants.{PAGE_WORDS, ROW_WORDS}
use Rattle.config_image.specs.Image.{Group}
use Rattle.config_image.specs.Pooled.{pages_of, parts, pooled_row}
use Rattle.member_group.specs.Charge.{charge_of}
use Rattle.versions.specs.declared.layout.TheConstants.{LAST_NUMBER, CHARGE_LIMIT, PAGES, POOL_BEGIN, ROWS, ROWS_BEGIN, TABLE_WORDS, WORKERS}
use Rattle.versions.specs.Layout.{IsInPage, IsInRow, page_begin, pages_named, row_at, stored_words}
use Rattle.versions.specs.Table.{the_shape}

pub workers_is : the_shape.workers ≡ WORKERS
unfolding the_shape
workers_is = refl

pub rows_is : the_shape.rows ≡ ROWS
unfolding the_shape
rows_is = refl

pub row_words_is : the_shape.row_words ≡ ROW_WORDS
unfolding the_shape
row_words_is = refl

pub last_number_is : the_shape.last_number ≡ LAST_NUMBER
unfolding the_shape
last_number_is = refl

pub charge_limit_is : the_shape.charge_limit ≡ CHARGE_LIMIT
unfolding the_shape
charge_limit_is = refl

pub charge_is : (config : List Group) → the_shape.charge config ≡ charge_of config
unfolding the_shape
charge_is config = refl

pub pages_is : the_shape.pages ≡ PAGES
unfolding the_shape
pages_is = refl

pub page_words_is : the_shape.page_words ≡ PAGE_WORDS
unfolding the_shape
page_words_is = refl

pub row_is : (config : List Group) (pages : List ℕ) → the_shape.form.row config pages ≡ pooled_row config pages
unfolding the_shape
row_is config pages = refl

pub parts_is : (config : List Group) → the_shape.form.parts config ≡ parts config
unfolding the_shape
parts_is config = refl

pub named_is : (stored : List ℕ) (r : ℕ) → pages_named the_shape stored r ≡ pages_of (row_at the_shape stored r)
unfolding the_shape
named_is stored r = refl

-- a place of a row, in numbers
pub in_row : (r place i : ℕ) → i < ROW_WORDS → place ≡ (ROWS_BEGIN + r * ROW_WORDS) + i → IsInRow the_shape r place
unfolding the_shape
in_row r place i inside e = (i, inside, e)

pub in_row_numbers : (r place : ℕ) → IsInRow the_shape r place → (i : ℕ) × (i < ROW_WORDS) × (place ≡ (ROWS_BEGIN + r * ROW_WORDS) + i)
unfolding the_shape
in_row_numbers r place h = h

pub row_at_place : (place : ℕ) → ROWS_BEGIN ≤ place → IsInRow the_shape ((place - ROWS_BEGIN) / ROW_WORDS) place
row_at_place place low = let e = div-add-mod' (place - ROWS_BEGIN) ROW_WORDS in
    in_row ((place - ROWS_BEGIN) / ROW_WORDS) place ((place - ROWS_BEGIN) % ROW_WORDS) (mod-lt (place - ROWS_BEGIN) (omega arith)) (omega arith)

pub behind_begin : (r place : ℕ) → IsInRow the_shape r place → ROWS_BEGIN ≤ place
behind_begin r place h = let t = in_row_numbers r place h in let e = t.2 in omega arith

pub row_by_division : (r place : ℕ) → IsInRow the_shape r place → (place - ROWS_BEGIN) / ROW_WORDS ≡ r
row_by_division r place h = let t = in_row_numbers r place h in let e = t.2 in
    let off : place - ROWS_BEGIN ≡ r * ROW_WORDS + t.0 = omega arith in ap (λ (k : ℕ). k / ROW_WORDS) off ∙ div-mul-add r ROW_WORDS t.0 t.1

pub place_below : (r place : ℕ) → r < the_shape.rows → IsInRow the_shape r place → place < TABLE_WORDS
place_below r place low h = let t = in_row_numbers r place h in let inside = t.1 in let e = t.2 in omega (arith, rows_is)

page_place : (q place k : ℕ) → place ≡ (POOL_BEGIN + q * PAGE_WORDS) + k → place ≡ page_begin the_shape q + k
unfolding the_shape
page_place q place k e = omega arith

-- a place of a page, in numbers
pub in_page : (q place k : ℕ) → k < PAGE_WORDS → place ≡ (POOL_BEGIN + q * PAGE_WORDS) + k → IsInPage the_shape q place
in_page q place k inside e = (k, omega (arith, page_words_is), page_place q place k e)

pub in_page_numbers : (q place : ℕ) → IsInPage the_shape q place → (k : ℕ) × (k < PAGE_WORDS) × (place ≡ (POOL_BEGIN + q * PAGE_WORDS) + k)
unfolding the_shape
in_page_numbers q place h = let e = h.2 in (h.0, h.1, omega arith)

pub page_at_place : (place : ℕ) → POOL_BEGIN ≤ place → IsInPage the_shape ((place - POOL_BEGIN) / PAGE_WORDS) place
page_at_place place low = let e = div-add-mod' (place - POOL_BEGIN) PAGE_WORDS in
    in_page ((place - POOL_BEGIN) / PAGE_WORDS) place ((place - POOL_BEGIN) % PAGE_WORDS) (mod-lt (place - POOL_BEGIN) (omega arith)) (omega arith)

pub behind_pool_begin : (q place : ℕ) → IsInPage the_shape q place → POOL_BEGIN ≤ place
behind_pool_begin q place h = let t = in_page_numbers q place h in let e = t.2 in omega arith

pub page_by_division : (q place : ℕ) → IsInPage the_shape q place → (place - POOL_BEGIN) / PAGE_WORDS ≡ q
page_by_division q place h = let t = in_page_numbers q place h in let e = t.2 in
    let off : place - POOL_BEGIN ≡ q * PAGE_WORDS + t.0 = omega arith in ap (λ (k : ℕ). k / PAGE_WORDS) off ∙ div-mul-add q PAGE_WORDS t.0 t.1

pub row_below_pool : (r place : ℕ) → r < the_shape.rows → IsInRow the_shape r place → place < POOL_BEGIN
row_below_pool r place low h = let t = in_row_numbers r place h in let inside = t.1 in let e = t.2 in omega (arith, rows_is)

pub page_below : (q place : ℕ) → q < the_shape.pages → IsInPage the_shape q place → place < TABLE_WORDS
page_below q place low h = let t = in_page_numbers q place h in let inside = t.1 in let e = t.2 in omega (arith, pages_is)

pub stored_is : stored_words the_shape ≡ ROWS * ROW_WORDS + PAGES * PAGE_WORDS
unfolding the_shape
stored_is = refl
