-- A row and pages that hold a configuration, in numbers: what the row's names tell, and which places are words of the version.
use Rattle.std.proofs.Common.{◌≡◌, ◌∙◌, ◌⊎◌, ℕ, ◌+◌, ◌-◌, ◌*◌, ◌/◌, ◌%◌, ◌<◌, ◌≤◌, List, Some, [], ap, arith, drop, get_or, inl, inr, length, length-drop, map, mul-le-mul_right, refl, slice_get, subst, suc, suc-mul, sym, take}
use Rattle.std.proofs.Math.Seq.{drop-drop}
use Rattle.std.proofs.lemmas.Bool.{cases_lt}
use Rattle.std.proofs.lemmas.List.{ext_get_or, get_or-drop, get_or-map, get_or-take, length-map, length-take, length-take-le}
use Rattle.std.proofs.lemmas.Nat.{div-mul-add, mod-mul-add}
use Rattle.std.specs.Option.{option_map}
use Rattle.std.proofs.lemmas.Option.{get_or_from_slice_get, slice_get-get_or, slice_get-map, slice_get_past, slice_get_within}
use Rattle.config_image.specs.declared.TheConstants.{PAGE_WORDS, ROW_WORDS}
use Rattle.config_image.specs.Image.{Group, image, programs_begin}
use Rattle.config_image.specs.PageTable.{entry_word, header_begin, header_count, header_len, page_of, start_of}
use Rattle.config_image.specs.Pooled.{ArePages, PooledRowTells, form_word, pages_of, part_begin, parts, pooled_row}
use Rattle.config_image.proofs.PageTableLemmas as entry
use Rattle.config_image.proofs.PooledLemmas.{parts_stand, row_tells_with_room}
use Rattle.versions.specs.declared.layout.TheConstants.{PAGES, POOL_BEGIN, ROWS, ROWS_BEGIN, TABLE_WORDS}
use Rattle.versions.specs.Layout.{HoldsForm, IsInRow, IsPartPlace, rows_begin}
use Rattle.versions.specs.Pooled.{HasRoom, names_in, pages_in}
use Rattle.versions.specs.Table.{the_shape}
use Rattle.versions.specs.body.Names.{ArePartNames, IsPartIn, PartsStandIn, begin_in, begin_or, row_in}
use Rattle.versions.proofs.ListLemmas.{some_number}
use Rattle.versions.proofs.ShapeLemmas.{row_below_pool, rows_is}

-- ---- what the form says of the words of the table

module _ (words : List ℕ) (r : ℕ) (config : List Group) (pages : List ℕ) where
  abbrev Held : Type 0
  Held = HoldsForm the_shape (rows_begin the_shape) words r config pages

  pub counted_held : Held → length pages ≡ length (parts config)
  unfolding the_shape
  counted_held h = h.counted

  pub below_held : Held → (index page : ℕ) → slice_get pages index ≡ Some page → page < PAGES
  unfolding the_shape
  below_held h = h.below

  pub words_held : Held → (i : ℕ) → i < ROW_WORDS → get_or words (ROWS_BEGIN + r * ROW_WORDS + i) 0 ≡ get_or (pooled_row config pages) i 0
  unfolding the_shape
  words_held h i low = ap (λ (k : ℕ). get_or words k 0) (let g : ROWS_BEGIN + r * ROW_WORDS + i ≡ ROWS_BEGIN + (r * ROW_WORDS + i) = omega arith in g) ∙ h.row i low

  pub parts_held : Held → PartsStandIn words config pages
  unfolding the_shape
  parts_held h = λ index page k x part at cut word.
      ap (λ (n : ℕ). get_or words n 0) (let g : POOL_BEGIN + page * PAGE_WORDS + k ≡ ROWS_BEGIN + (ROWS * ROW_WORDS + (page * PAGE_WORDS + k)) = omega arith in g) ∙ h.standing index page k x part at cut word

  -- and these say it all
  pub holds : length pages ≡ length (parts config) → ((index page : ℕ) → slice_get pages index ≡ Some page → page < PAGES)
      → ((i : ℕ) → i < ROW_WORDS → get_or words (ROWS_BEGIN + r * ROW_WORDS + i) 0 ≡ get_or (pooled_row config pages) i 0) → PartsStandIn words config pages → Held
  unfolding the_shape
  holds counted below row standing = record {
    counted = counted;
    below = below;
    fits = λ index part cut. ((parts_stand config).sized index part cut).1;
    row = λ i low. ap (λ (k : ℕ). get_or words k 0) (let g : ROWS_BEGIN + (r * ROW_WORDS + i) ≡ ROWS_BEGIN + r * ROW_WORDS + i = omega arith in g) ∙ row i low;
    standing = λ index page k x part at cut word.
        ap (λ (n : ℕ). get_or words n 0) (let g : ROWS_BEGIN + (ROWS * ROW_WORDS + (page * PAGE_WORDS + k)) ≡ POOL_BEGIN + page * PAGE_WORDS + k = omega arith in g) ∙ standing index page k x part at cut word;
  }

-- ---- the words of a row

pub length-row_in : (words : List ℕ) (r : ℕ) → length words ≡ TABLE_WORDS → r < ROWS → length (row_in words r) ≡ ROW_WORDS
length-row_in words r whole low =
    let under : suc r * ROW_WORDS ≤ ROWS * ROW_WORDS = mul-le-mul_right ROW_WORDS low in
    length-take-le ROW_WORDS (drop (ROWS_BEGIN + r * ROW_WORDS) words) (omega (arith, suc-mul r ROW_WORDS, length-drop (ROWS_BEGIN + r * ROW_WORDS) words))

pub word-row_in : (words : List ℕ) (r i : ℕ) → i < ROW_WORDS → get_or (row_in words r) i 0 ≡ get_or words (ROWS_BEGIN + r * ROW_WORDS + i) 0
word-row_in words r i low = get_or-take ROW_WORDS (drop (ROWS_BEGIN + r * ROW_WORDS) words) i 0 low ∙ get_or-drop (ROWS_BEGIN + r * ROW_WORDS) words i 0

-- the pages that a row of the table names are those that its words name
pub pages_in_row : (words : List ℕ) (r : ℕ) → pages_in words r ≡ pages_of (row_in words r)
unfolding the_shape
pages_in_row words r = ap (λ l. pages_of (take ROW_WORDS l)) (drop-drop (r * ROW_WORDS) ROWS_BEGIN words)

-- a page has a number of 16 bits
pub are_pages : (config : List Group) (pages : List ℕ) → length pages ≡ length (parts config) → ((index page : ℕ) → slice_get pages index ≡ Some page → page < PAGES) → ArePages config pages
are_pages config pages counted below = record { counted = counted; below = λ k d inside. let low = below k (get_or pages k d) (slice_get-get_or pages k d inside) in omega arith }

-- ---- the pages of names

pub length-names_in : (row : List ℕ) → length (names_in row) ≤ length row
length-names_in row = omega (arith, length-take (header_count (get_or row 0 0)) (drop (header_begin (get_or row 0 0)) row), length-drop (header_begin (get_or row 0 0)) row)

pub page_at : (names : List ℕ) (index : ℕ) → index < length names → slice_get (map page_of names) index ≡ Some (page_of (get_or names index 0))
page_at names index inside = slice_get-map page_of names index ∙ ap (option_map page_of) (slice_get-get_or names index 0 inside)

pub page_is_at : (names : List ℕ) (index page : ℕ) → slice_get (map page_of names) index ≡ Some page → (index < length names) × (page ≡ page_of (get_or names index 0))
page_is_at names index page at =
    let inside : index < length names = omega (arith, slice_get_within (map page_of names) index page at, length-map names page_of) in
    (inside, some_number page (page_of (get_or names index 0)) (sym at ∙ page_at names index inside))

-- pages that were read from names one after the other
pub pages_read : (names pages : List ℕ) (count : ℕ) → length names ≤ count → length names ≤ length pages → ((i : ℕ) → i < count → (get_or pages i 0 ≡ page_of (get_or names i 0)) × (page_of (get_or names i 0) < PAGES))
    → (take (length names) pages ≡ map page_of names) × ((index page : ℕ) → slice_get (map page_of names) index ≡ Some page → page < PAGES)
pages_read names pages count all room read = (
  ext_get_or 0 (take (length names) pages) (map page_of names) (length-take-le (length names) pages room ∙ sym (length-map names page_of))
      (λ i inside. let low : i < length names = omega (arith, length-take-le (length names) pages room) in
      get_or-take (length names) pages i 0 low ∙ ((read i (omega arith)).0 ∙ sym (get_or-map page_of names i 0 0 low))),
  λ index page at. let t = page_is_at names index page at in omega (arith, t.1, (read index (omega (arith, t.0))).1),
)

-- ---- where parts begin and end, by names that tell it

-- the words of one part stand in a page
abbrev pub StandsIn : List Group → List ℕ → List ℕ → ℕ → ℕ → ℕ → Type 0
StandsIn config names words end index page = (i : ℕ) → begin_in names end index ≤ i → i < begin_in names end (index + 1)
    → get_or words (POOL_BEGIN + page * PAGE_WORDS + (i - begin_in names end index)) 0 ≡ get_or (image config) i 0

module _ (config : List Group) (names : List ℕ) (h : ArePartNames config names) where
  pub begins_at : (end index : ℕ) → end ≡ length (image config) → index ≤ length (parts config) → begin_in names end index ≡ part_begin config index
  begins_at end index is low = begins_by (cases_lt index (length (parts config)))
    where
      begins_by : (index < length (parts config)) ⊎ (length (parts config) ≤ index) → begin_in names end index ≡ part_begin config index
      begins_by (inl inside) = ap (begin_or end) (slice_get-get_or names index 0 (omega (arith, h.counted))) ∙ h.begins index (omega (arith, h.counted))
      begins_by (inr past) = ap (begin_or end) (slice_get_past names index (omega (arith, h.counted)))
          ∙ (is ∙ (sym (parts_stand config).last ∙ ap (part_begin config) (let g : length (parts config) ≡ index = omega arith in g)))

  pub part_size : (end index : ℕ) (part : List ℕ) → end ≡ length (image config) → slice_get (parts config) index ≡ Some part → begin_in names end (index + 1) - begin_in names end index ≡ length part
  part_size end index part is cut =
      let low = slice_get_within (parts config) index part cut in
      omega (arith, begins_at end (index + 1) is (omega arith), begins_at end index is (omega arith), (parts_stand config).next index part cut)

  -- a part is short, and ends inside the image
  pub part_fits : (end index : ℕ) → end ≡ length (image config) → index < length names
      → (begin_in names end (index + 1) ≤ begin_in names end index + PAGE_WORDS) × (begin_in names end (index + 1) ≤ length (image config))
  part_fits end index is inside =
      let low : index < length (parts config) = omega (arith, h.counted) in
      let part = get_or (parts config) index [] in let cut = slice_get-get_or (parts config) index [] low in
      let size = (parts_stand config).sized index part cut in let least = size.0 in let most = size.1 in
      let last = slice_get_within (image config) (part_begin config index + (length part - 1)) (get_or part (length part - 1) 0)
      ((parts_stand config).words index (length part - 1) (get_or part (length part - 1) 0) part cut (slice_get-get_or part (length part - 1) 0 (omega arith))) in
      let next = (parts_stand config).next index part cut in let begin = begins_at end index is (omega arith) in let then = begins_at end (index + 1) is (omega arith) in
      (omega arith, omega arith)

  -- they do for each part, where parts stand in their pages
  pub one_stands : (words : List ℕ) (end index : ℕ) → end ≡ length (image config) → index < length names → PartsStandIn words config (map page_of names) → StandsIn config names words end index (page_of (get_or names index 0))
  one_stands words end index is inside stand = λ i from to.
      let low : index < length (parts config) = omega (arith, h.counted) in
      let begin = begins_at end index is (omega arith) in let then = begins_at end (index + 1) is (omega arith) in
      let found = (parts_stand config).found index i low (omega arith) (omega arith) in let part = found.0 in let k = i - part_begin config index in let x = get_or part k 0 in let word = slice_get-get_or part k 0 found.2 in
      ap (λ (n : ℕ). get_or words (POOL_BEGIN + page_of (get_or names index 0) * PAGE_WORDS + (i - n)) 0) begin
      ∙ (stand index (page_of (get_or names index 0)) k x part (page_at names index inside) found.1 word
      ∙ sym (get_or_from_slice_get (image config) i x 0 (found.3 ∙ word)))

  -- and where each does, all do
  pub all_stand : (words : List ℕ) (end count : ℕ) → end ≡ length (image config) → length names ≤ count → ((index : ℕ) → index < count → StandsIn config names words end index (page_of (get_or names index 0))) → PartsStandIn words config (map page_of names)
  all_stand words end count is all each = λ index page k x part at cut word.
      let low = slice_get_within (parts config) index part cut in let inside : index < length names = omega (arith, h.counted) in
      let page_is : page ≡ page_of (get_or names index 0) = some_number page (page_of (get_or names index 0)) (sym at ∙ (slice_get-map page_of names index ∙ ap (option_map page_of) (slice_get-get_or names index 0 inside))) in
      let begin = begins_at end index is (omega arith) in let then = begins_at end (index + 1) is (omega arith) in let next = (parts_stand config).next index part cut in
      let small = slice_get_within part k x word in let i = part_begin config index + k in
      ap (λ (n : ℕ). get_or words n 0) (ap (λ (q : ℕ). POOL_BEGIN + q * PAGE_WORDS + k) page_is ∙ (let g : POOL_BEGIN + page_of (get_or names index 0) * PAGE_WORDS + k ≡ POOL_BEGIN + page_of (get_or names index 0) * PAGE_WORDS + (i - begin_in names end index) = omega arith in g))
      ∙ (each index (omega arith) i (omega arith) (omega arith)
      ∙ get_or_from_slice_get (image config) i x 0 ((parts_stand config).words index k x part cut word))

-- ---- what the names of a row in the pooled form tell

module _ (config : List Group) (pages : List ℕ) (room : HasRoom config) (are : ArePages config pages) where
  abbrev tells : PooledRowTells config pages
  tells = row_tells_with_room config pages room are

  abbrev row_words : List ℕ
  row_words = pooled_row config pages

  abbrev names : List ℕ
  names = names_in row_words

  first_word : get_or row_words 0 0 ≡ form_word config
  first_word = get_or_from_slice_get row_words 0 (form_word config) 0 tells.form

  pub length_told : header_len (get_or row_words 0 0) ≡ length (image config)
  length_told = ap header_len first_word ∙ tells.length_part

  names_are : names ≡ take (length (parts config)) (drop (programs_begin config) row_words)
  names_are = ap (λ (k : ℕ). take k (drop (header_begin (get_or row_words 0 0)) row_words)) (ap header_count first_word ∙ tells.count_part)
      ∙ ap (λ (k : ℕ). take (length (parts config)) (drop k row_words)) (ap header_begin first_word ∙ tells.begin_part)

  pub length-names : length names ≡ length (parts config)
  length-names = ap length names_are ∙ length-take-le (length (parts config)) (drop (programs_begin config) row_words)
      (let a = tells.inside in let b = tells.short in omega (arith, length-drop (programs_begin config) row_words, tells.whole))

  pub name_is : (index : ℕ) → index < length (parts config) → get_or names index 0 ≡ entry_word (part_begin config index) (get_or pages index 0)
  name_is index low = ap (λ l. get_or l index 0) names_are
      ∙ (get_or-take (length (parts config)) (drop (programs_begin config) row_words) index 0 low
      ∙ (get_or-drop (programs_begin config) row_words index 0
      ∙ get_or_from_slice_get row_words (programs_begin config + index) _ 0 (tells.entries index (get_or pages index 0) (slice_get-get_or pages index 0 (omega (arith, are.counted))))))

  small : (index : ℕ) → index < length (parts config) → get_or pages index 0 < 65536
  small index low = are.below index 0 (omega (arith, are.counted))

  pub begin_told : (index : ℕ) → index < length (parts config) → start_of (get_or names index 0) ≡ part_begin config index
  begin_told index low = ap start_of (name_is index low) ∙ entry.start_told (part_begin config index) (get_or pages index 0) (small index low)

  pub page_told : (index : ℕ) → index < length (parts config) → page_of (get_or names index 0) ≡ get_or pages index 0
  page_told index low = ap page_of (name_is index low) ∙ entry.page_told (part_begin config index) (get_or pages index 0) (small index low)

  pub are_names : ArePartNames config names
  are_names = record { counted = length-names; begins = λ index low. begin_told index (omega (arith, length-names)) }

  -- a word of a part, by its name
  pub part_in : (end page k : ℕ) → end ≡ length (image config) → IsPartIn names end page k
      → (index : ℕ) × (part : List ℕ) × (slice_get pages index ≡ Some page) × (slice_get (parts config) index ≡ Some part) × (k < length part)
  part_in end page k is h =
      let low : h.index < length (parts config) = omega (arith, h.inside, length-names) in
      let part = get_or (parts config) h.index [] in let cut = slice_get-get_or (parts config) h.index [] low in (
        h.index,
        part,
        slice_get-get_or pages h.index 0 (omega (arith, are.counted)) ∙ ap Some (sym (page_told h.index low) ∙ h.page_is),
        cut,
        omega (arith, h.low, part_size config names are_names end h.index part is cut),
      )

  pub in_part : (end index page k : ℕ) (part : List ℕ) → end ≡ length (image config) → slice_get pages index ≡ Some page → slice_get (parts config) index ≡ Some part → k < length part → IsPartIn names end page k
  in_part end index page k part is at cut inside =
      let low = slice_get_within (parts config) index part cut in record {
        index = index;
        inside = omega (arith, length-names);
        page_is = page_told index low ∙ get_or_from_slice_get pages index page 0 at;
        low = omega (arith, part_size config names are_names end index part is cut);
      }

-- ---- a row of the table that holds a configuration

module _ (words : List ℕ) (r : ℕ) (config : List Group) (pages : List ℕ) (whole : length words ≡ TABLE_WORDS) (low : r < ROWS) (room : HasRoom config) (h : HoldsForm the_shape (rows_begin the_shape) words r config pages) where
  pub are_held : ArePages config pages
  are_held = are_pages config pages (counted_held words r config pages h) (below_held words r config pages h)

  pub row_held : row_in words r ≡ pooled_row config pages
  row_held = ext_get_or 0 (row_in words r) (pooled_row config pages) (length-row_in words r whole low ∙ sym (tells config pages room are_held).whole)
      (λ i inside. let small : i < ROW_WORDS = omega (arith, length-row_in words r whole low) in word-row_in words r i small ∙ words_held words r config pages h i small)

  -- the place of a word of a part, and the word at a place
  place_part : (place : ℕ) → POOL_BEGIN ≤ place → IsPartIn (names_in (pooled_row config pages)) (length (image config)) ((place - POOL_BEGIN) / PAGE_WORDS) ((place - POOL_BEGIN) % PAGE_WORDS) → IsPartPlace the_shape config pages place
  unfolding the_shape
  place_part place up t = let found = part_in config pages room are_held (length (image config)) _ _ refl t in record {
    index = found.0;
    page = (place - POOL_BEGIN) / PAGE_WORDS;
    part = found.1;
    k = (place - POOL_BEGIN) % PAGE_WORDS;
    page_is = found.2;
    part_is = found.3;
    inside = found.4;
    at = omega arith;
  }

  part_place : (place : ℕ) → IsPartPlace the_shape config pages place → (POOL_BEGIN ≤ place) × IsPartIn (names_in (pooled_row config pages)) (length (image config)) ((place - POOL_BEGIN) / PAGE_WORDS) ((place - POOL_BEGIN) % PAGE_WORDS)
  unfolding the_shape
  part_place place t =
      let small : t.k < PAGE_WORDS = omega (arith, t.inside, ((parts_stand config).sized t.index t.part t.part_is).1) in
      let off : place - POOL_BEGIN ≡ t.page * PAGE_WORDS + t.k = omega (arith, t.at) in
      let page : t.page ≡ (place - POOL_BEGIN) / PAGE_WORDS = sym (ap (λ (n : ℕ). n / PAGE_WORDS) off ∙ div-mul-add t.page PAGE_WORDS t.k small) in
      let k : t.k ≡ (place - POOL_BEGIN) % PAGE_WORDS = sym (ap (λ (n : ℕ). n % PAGE_WORDS) off ∙ mod-mul-add t.page PAGE_WORDS t.k small) in (
        omega (arith, t.at),
        subst (λ (n : ℕ). IsPartIn (names_in (pooled_row config pages)) (length (image config)) n ((place - POOL_BEGIN) % PAGE_WORDS)) page
            (subst (IsPartIn (names_in (pooled_row config pages)) (length (image config)) t.page) k (in_part config pages room are_held (length (image config)) t.index t.page t.k t.part refl t.page_is t.part_is t.inside)),
      )

  abbrev IsWord : ℕ → Type 0
  IsWord place = IsInRow the_shape r place ⊎ IsPartPlace the_shape config pages place

  pub word_of_row : (place : ℕ) → place < POOL_BEGIN → IsWord place → IsInRow the_shape r place
  word_of_row place under (inl in_row) = in_row
  word_of_row place under (inr part) = let up = (part_place place part).0 in absurd (omega arith)

  pub word_of_part : (place end : ℕ) (names : List ℕ) → POOL_BEGIN ≤ place → names ≡ names_in (row_in words r) → end ≡ header_len (get_or (row_in words r) 0 0)
      → IsPartIn names end ((place - POOL_BEGIN) / PAGE_WORDS) ((place - POOL_BEGIN) % PAGE_WORDS) → IsWord place
  word_of_part place end names up named ends t = inr (place_part place up
      (subst (λ l. IsPartIn l (length (image config)) ((place - POOL_BEGIN) / PAGE_WORDS) ((place - POOL_BEGIN) % PAGE_WORDS)) (named ∙ ap names_in row_held)
      (subst (λ (n : ℕ). IsPartIn names n ((place - POOL_BEGIN) / PAGE_WORDS) ((place - POOL_BEGIN) % PAGE_WORDS)) (ends ∙ (ap (λ l. header_len (get_or l 0 0)) row_held ∙ length_told config pages room are_held)) t)))

  pub part_of_word : (place end : ℕ) (names : List ℕ) → POOL_BEGIN ≤ place → names ≡ names_in (row_in words r) → end ≡ header_len (get_or (row_in words r) 0 0)
      → IsWord place → IsPartIn names end ((place - POOL_BEGIN) / PAGE_WORDS) ((place - POOL_BEGIN) % PAGE_WORDS)
  part_of_word place end names up named ends (inl in_row) = let under = row_below_pool r place (omega (arith, rows_is)) in_row in absurd (omega arith)
  part_of_word place end names up named ends (inr part) =
      subst (λ l. IsPartIn l end ((place - POOL_BEGIN) / PAGE_WORDS) ((place - POOL_BEGIN) % PAGE_WORDS)) (sym (named ∙ ap names_in row_held))
      (subst (λ (n : ℕ). IsPartIn (names_in (pooled_row config pages)) n ((place - POOL_BEGIN) / PAGE_WORDS) ((place - POOL_BEGIN) % PAGE_WORDS)) (sym (ends ∙ (ap (λ l. header_len (get_or l 0 0)) row_held ∙ length_told config pages room are_held))) (part_place place part).1)

-- ---- whether a row and the pages that it names hold a configuration

module _ (words : List ℕ) (r : ℕ) (config : List Group) (whole : length words ≡ TABLE_WORDS) (low : r < ROWS) (room : HasRoom config) (row_words names : List ℕ) (row_is : row_words ≡ row_in words r)
    (named : map page_of names ≡ pages_of row_words) where
  abbrev HeldBy : Type 0
  HeldBy = HoldsForm the_shape (rows_begin the_shape) words r config (pages_in words r)

  -- the pages that the row names are those of the names
  pub own_pages_are : pages_in words r ≡ map page_of names
  own_pages_are = pages_in_row words r ∙ (ap pages_of (sym row_is) ∙ sym named)

  pub held_counted : HeldBy → length names ≡ length (parts config)
  held_counted h = sym (length-map names page_of) ∙ (ap length (sym own_pages_are) ∙ counted_held words r config (pages_in words r) h)

  pub held_below : HeldBy → (index page : ℕ) → slice_get (map page_of names) index ≡ Some page → page < PAGES
  held_below h index page at = below_held words r config (pages_in words r) h index page (ap (λ l. slice_get l index) own_pages_are ∙ at)

  pub length-own_row : length row_words ≡ ROW_WORDS
  length-own_row = ap length row_is ∙ length-row_in words r whole low

  module _ (pages : List ℕ) (read : pages ≡ map page_of names) (counted : length names ≡ length (parts config)) (below : (index page : ℕ) → slice_get (map page_of names) index ≡ Some page → page < PAGES) where
    pub own_counted : length pages ≡ length (parts config)
    own_counted = ap length read ∙ (length-map names page_of ∙ counted)

    pub own_are_pages : ArePages config pages
    own_are_pages = are_pages config pages own_counted (λ index page at. below index page (ap (λ l. slice_get l index) (sym read) ∙ at))

    pub own_pages : pages_in words r ≡ pages
    own_pages = own_pages_are ∙ sym read

    abbrev RowStands : Type 0
    RowStands = (i : ℕ) → i < ROW_WORDS → get_or row_words i 0 ≡ get_or (pooled_row config pages) i 0

    pub row_of_held : HeldBy → RowStands
    row_of_held h i small = ap (λ l. get_or l i 0) row_is ∙ (word-row_in words r i small ∙ (words_held words r config (pages_in words r) h i small ∙ ap (λ l. get_or (pooled_row config l) i 0) own_pages))

    pub parts_of_held : HeldBy → PartsStandIn words config (map page_of names)
    parts_of_held h = subst (PartsStandIn words config) own_pages_are (parts_held words r config (pages_in words r) h)

    -- where the row has the form's words, its names tell the parts
    pub names_of_row : names ≡ names_in row_words → RowStands → ArePartNames config names
    names_of_row is stands =
        let same : row_words ≡ pooled_row config pages = ext_get_or 0 row_words (pooled_row config pages) (length-own_row ∙ sym (tells config pages room own_are_pages).whole) (λ i inside. stands i (omega (arith, length-own_row))) in
        subst (ArePartNames config) (sym (is ∙ ap names_in same)) (are_names config pages room own_are_pages)

    pub held_by_both : RowStands → PartsStandIn words config (map page_of names) → HeldBy
    held_by_both stands all = subst (HoldsForm the_shape (rows_begin the_shape) words r config) (sym own_pages)
        (holds words r config pages own_counted (λ index page at. below index page (ap (λ l. slice_get l index) (sym read) ∙ at))
        (λ i small. sym (ap (λ l. get_or l i 0) row_is ∙ word-row_in words r i small) ∙ stands i small)
        (subst (PartsStandIn words config) (sym read) all))
