-- Words of the version that is held: where they stand, and what a fetch of them gives.
use Rattle.std.proofs.Common.{◌≡◌, ℕ, ◌*◌, ◌+◌, ◌-◌, ◌<◌, ◌≤◌, List, [], Some, ap, arith, get_or, inl, inr, length, refl, slice_get, slice_index, slice_index_or, subst, sym, ◌∙◌}
use Rattle.std.proofs.lemmas.Option.{slice_get-get_or}
use mathlib.Core.Option.{some}
use lib.ListN.{get_elem?}
use Rattle.config_image.specs.declared.TheConstants.{ROW_WORDS}
use Rattle.config_image.specs.Image.{Group, image, programs_begin}
use Rattle.config_image.specs.Image as of
use Rattle.config_image.specs.Pooled.{PartsStand, part_begin, parts, pooled_row}
use Rattle.config_image.proofs.PooledLemmas.{parts_stand}
use Rattle.versions.specs.declared.layout.TheConstants.{ROWS, ROWS_BEGIN, TABLE_WORDS}
use Rattle.versions.specs.declared.view.Stage.{Stage}
use Rattle.versions.specs.declared.view.Stage.TheVariants.{Announced, Inside, Outside, Peeked}
use Rattle.versions.specs.Layout.{IsInPage, IsInRow, IsPartPlace, page_begin, row_begin}
use Rattle.versions.specs.Safety.{IsFormWord, IsHeldPlace, IsHeldPlaceAt}
use Rattle.versions.specs.Table.{the_shape}
use Rattle.versions.proofs.ListLemmas.{elem_there, get_elem_or}
use Rattle.versions.proofs.RowLemmas.{length-row, row_of_image}
use Rattle.versions.proofs.ShapeLemmas.{page_below, page_words_is, pages_is, parts_is, place_below, row_is, row_words_is, rows_is}
use Rattle.config_image.specs.declared.pages.cache.Extent.{Extent}
use Rattle.config_image.specs.Cache.{Holds}
use Rattle.read_section.specs.Section.{held_words, version_of, words_in}
use Rattle.read_section.specs.Worker.{WorkerValue}
use Rattle.read_section.specs.body.Found.{HasPages, IsExtentOf, KnowsAt, KnowsIn}
use Rattle.read_section.specs.body.Plays.{TellsWord}
use Rattle.read_section.specs.body.Steps.{SeesWord}
use Rattle.read_section.proofs.WorkerSeatLemmas.{place_is}

abbrev pub config_held : WorkerValue → ℕ → List Group
config_held worker n = slice_index_or worker.view.seen n []

-- where there are words, a version is held
pub held_stage : (stage : Stage) (seen : List (List Group)) (i : ℕ) → i < length (words_in stage seen) → (k : ℕ) × (n : ℕ) × (r : ℕ) × (stage ≡ Inside k n r)
held_stage Outside seen i small = absurd (omega arith)
held_stage (Peeked n) seen i small = absurd (omega arith)
held_stage (Announced k) seen i small = absurd (omega arith)
held_stage (Inside k n r) seen i small = (k, n, r, refl)

pub same_version : (stage : Stage) (k n r k' n' r' : ℕ) → stage ≡ Inside k n r → stage ≡ Inside k' n' r' → n ≡ n'
same_version stage k n r k' n' r' e e' = ap version_of (sym e ∙ e')

pub seen_config : (worker : WorkerValue) (n : ℕ) → n < length worker.view.seen → get_elem? worker.view.seen n ≡ some (config_held worker n)
seen_config worker n low = let t = elem_there worker.view.seen n low in t.1 ∙ ap some (sym (get_elem_or worker.view.seen n t.0 [] t.1))

word_there : (words : List ℕ) (i x : ℕ) → i < length words → x ≡ slice_index words i → slice_get words i ≡ Some x
word_there words i x low e = slice_get-get_or words i 0 low ∙ ap Some (sym e)

module _ (worker : WorkerValue) (k n r : ℕ) (stage : worker.view.stage ≡ Inside k n r) where
  abbrev config : List Group
  config = config_held worker n

  abbrev pages : List ℕ
  pages = worker.view.pages

  pub words_are : held_words worker ≡ of.row config
  words_are = ap (λ (s : Stage). words_in s worker.view.seen) stage

  -- a word of the row that holds the image, from a word of the image
  pub image_word_held : (i x : ℕ) → i < length (held_words worker) → slice_get (image config) i ≡ Some x → slice_get (held_words worker) i ≡ Some x
  image_word_held i x small e = let low = subst (λ m. i < m) (ap length words_are ∙ length-row config) small in
      word_there (held_words worker) i x small (row_of_image config i x low e ∙ ap (λ l. slice_index l i) (sym words_are))

  -- what a row has at a place
  pub row_word_held : (i x : ℕ) → i < length (held_words worker) → x ≡ slice_index (of.row config) i → slice_get (held_words worker) i ≡ Some x
  row_word_held i x small e = word_there (held_words worker) i x small (e ∙ ap (λ l. slice_index l i) (sym words_are))

  pub small_in_row : (i : ℕ) → i < length (held_words worker) → i < ROW_WORDS
  small_in_row i small = subst (λ m. i < m) (ap length words_are ∙ length-row config) small

  -- what is known of the version
  pub known_there : (row heads : ℕ) (extent : Extent) → KnowsIn worker.view.stage worker.view.seen worker.view.pages row heads extent → (n < length worker.view.seen) × KnowsAt config pages r row heads extent
  known_there row heads extent known = subst (λ (s : Stage). KnowsIn s worker.view.seen worker.view.pages row heads extent) stage known

  pub known_again : (row heads : ℕ) (extent : Extent) → (n < length worker.view.seen) × KnowsAt config pages r row heads extent → KnowsIn worker.view.stage worker.view.seen worker.view.pages row heads extent
  known_again row heads extent known = subst (λ (s : Stage). KnowsIn s worker.view.seen worker.view.pages row heads extent) (sym stage) known

  module _ (place x : ℕ) (sees : SeesWord worker place x) where
    told : TellsWord the_shape worker.view.seen worker.view.pages n r place x
    told = sees k n r stage

    same_config : told.config ≡ config
    same_config = sym (get_elem_or worker.view.seen n told.config [] told.seen)

    -- a fetch tells the version's pages
    pub pages_told : HasPages config pages
    pages_told = subst (λ c. HasPages c pages) same_config (told.counted ∙ ap length (parts_is told.config), λ index page e. subst (λ m. page < m) pages_is (told.below index page e))

    pub word_told : (y : ℕ) → IsFormWord the_shape r config pages place y → x ≡ y
    word_told y word = told.word y (subst (λ c. IsFormWord the_shape r c pages place y) (sym same_config) word)

  -- a word of the row
  module _ (row j : ℕ) (same : row ≡ r) (below : row < ROWS) (small : j < ROW_WORDS) where
    abbrev row_place : ℕ
    row_place = ROWS_BEGIN + row * ROW_WORDS + j

    pub row_place_is : row_place ≡ row_begin the_shape r + j
    row_place_is = place_is row j ∙ ap (λ (q : ℕ). row_begin the_shape q + j) same

    small_words : j < the_shape.row_words
    small_words = subst (λ m. j < m) (sym row_words_is) small

    in_row : IsInRow the_shape r row_place
    in_row = (j, small_words, row_place_is)

    pub row_place_held : IsHeldPlace the_shape worker.view row_place
    row_place_held = subst (λ (s : Stage). IsHeldPlaceAt the_shape s worker.view.seen pages row_place) (sym stage) (inl in_row)

    pub row_place_within : row_place < TABLE_WORDS
    row_place_within = place_below r row_place (subst (λ q. q < the_shape.rows) same (subst (λ m. row < m) (sym rows_is) below)) in_row

    pub row_word_told : (x : ℕ) → SeesWord worker row_place x → x ≡ slice_index (pooled_row config pages) j
    row_word_told x sees = word_told row_place x sees (slice_index (the_shape.form.row config pages) j) (inl (j, small_words, row_place_is, refl)) ∙ ap (λ l. slice_index l j) (row_is config pages)

  -- a word of an extent
  module _ (extent : Extent) (seen : n < length worker.view.seen) (is : IsExtentOf config pages extent) (i : ℕ) (there : Holds extent i) where
    stands : PartsStand config
    stands = parts_stand config

    pub extent_in_programs : (programs_begin config ≤ i) × (i < length (image config))
    extent_in_programs = let begin = is.0.1.0 in let end = is.0.1.1 in let low = there.0 in let high = there.1 in (omega arith, omega arith)

    -- the part that has it
    covered : (index : ℕ) × (index < length (parts config)) × (part_begin config index ≤ i) × (i < part_begin config (index + 1))
    covered = stands.covered i extent_in_programs.0 extent_in_programs.1

    abbrev index : ℕ
    index = covered.0

    below : index < length (parts config)
    below = covered.1

    from : part_begin config index ≤ i
    from = covered.2

    to : i < part_begin config (index + 1)
    to = covered.3

    abbrev page : ℕ
    page = slice_index pages index

    abbrev offset : ℕ
    offset = i - part_begin config index

    page_is : slice_get pages index ≡ Some page
    page_is = let counted = is.0.0.0 in let low = below in slice_get-get_or pages index 0 (omega arith)

    part_there : (words : List ℕ) × (slice_get (parts config) index ≡ Some words) × (offset < length words) × (slice_get (image config) i ≡ slice_get words offset)
    part_there = stands.found index i below from to

    at_place : extent.shift + i ≡ page_begin the_shape page + offset
    at_place = let begin = is.1 i index there.0 there.1 below from to in let low = from in omega arith

    abbrev part_place : IsPartPlace the_shape config pages (extent.shift + i)
    part_place = record { index = index; page = page; part = part_there.0; k = offset; page_is = page_is; part_is = ap (λ l. slice_get l index) (parts_is config) ∙ part_there.1; inside = part_there.2; at = at_place }

    pub extent_place_held : IsHeldPlace the_shape worker.view (extent.shift + i)
    extent_place_held = subst (λ (s : Stage). IsHeldPlaceAt the_shape s worker.view.seen pages (extent.shift + i)) (sym stage) (inr (config, seen_config worker n seen, part_place))

    in_page : IsInPage the_shape page (extent.shift + i)
    in_page = let sized = stands.sized index part_there.0 part_there.1 in let most = sized.1 in let inside = part_there.2 in (offset, subst (λ m. offset < m) (sym page_words_is) (omega arith), at_place)

    pub extent_place_within : extent.shift + i < TABLE_WORDS
    extent_place_within = page_below page (extent.shift + i) (subst (λ m. page < m) (sym pages_is) (is.0.0.1 index page page_is)) in_page

    pub extent_word_told : (x : ℕ) → SeesWord worker (extent.shift + i) x → slice_get (image config) i ≡ Some x
    extent_word_told x sees = let word = slice_get-get_or part_there.0 offset 0 part_there.2 in
        part_there.3 ∙ (word ∙ ap Some (sym (word_told (extent.shift + i) x sees (get_or part_there.0 offset 0) (inr (part_place, word)))))

    -- so it is read from the page of its part
    pub extent_page : (index : ℕ) × (q : ℕ) × (slice_get pages index ≡ Some q) × (part_begin config index ≤ i) × (i < part_begin config (index + 1)) × (extent.shift + i ≡ page_begin the_shape q + (i - part_begin config index))
    extent_page = (index, page, page_is, from, to, at_place)
