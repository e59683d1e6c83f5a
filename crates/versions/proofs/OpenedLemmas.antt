-- The words of a table that opens with a configuration: its row, and its programs in the first pages.
use Rattle.std.proofs.Common.{◌≡◌, ◌∙◌, ◌⊎◌, ◌∷◌, ◌+◌, ◌++◌, ◌-◌, ◌*◌, ◌<◌, ◌≤◌, List, Some, [], ap, append_assoc, arith, drop, get_or, inl, inr, length, length-append, length-drop, refl, replicate, slice_get, suc, sym, take, zero, ℕ, ⊎_elim}
use Rattle.std.specs.List.{flat_map}
use Rattle.std.proofs.lemmas.List.{ext_get_or, get_or-append-add, get_or-append_right, get_or-drop, get_or-replicate, get_or-take, get_or_append_left, length-replicate, length-take, length-take-le, take_all, take_more}
use Rattle.std.proofs.lemmas.List.Concat.{flat_map-cons}
use Rattle.std.proofs.lemmas.List.FromFn.{get_or-range_with_len, length-range_with_len}
use Rattle.std.proofs.lemmas.Option.{get_or_from_slice_get, slice_get_within}
use Rattle.config_image.specs.declared.TheConstants.{PAGE_LIMIT, PAGE_WORDS, ROW_WORDS}
use Rattle.config_image.specs.Image.{Group}
use Rattle.config_image.specs.Pooled.{ArePages, pages_for, parts, parts_from, parts_of, pooled_row}
use Rattle.config_image.specs.Walk.{words_of_programs}
use Rattle.config_image.proofs.EntryLemmas.{length-parts_of_all}
use Rattle.config_image.proofs.PartsLemmas.{length-parts_of}
use Rattle.config_image.proofs.PooledLemmas.{few_in_row, row_tells_with_room}
use Rattle.config_image.proofs.ProgramLemmas.{parts-by_words}
use Rattle.versions.specs.declared.layout.TheConstants.{POOL_BEGIN, ROWS, ROWS_BEGIN, TABLE_WORDS}
use Rattle.versions.specs.Layout.{HoldsForm, all_rows, pages_named, stored_words}
use Rattle.versions.specs.Pooled.{HasRoom}
use Rattle.versions.specs.Table.{the_shape}
use Rattle.versions.specs.World.{first_pages, in_pages, opened_with, opening_front, opening_stored}
use Rattle.versions.proofs.MirrorLemmas.{none_some}
use Rattle.versions.proofs.PooledLemmas as pooled
use Rattle.versions.proofs.ShapeLemmas.{row_words_is, rows_is, stored_is, workers_is}

-- ---- a program's words in its pages

pub length-in_pages : (words : List ℕ) → length (in_pages words) ≡ pages_for (length words) * PAGE_WORDS
length-in_pages words = omega (arith, length-append words (replicate (pages_for (length words) * PAGE_WORDS - length words) 0), length-replicate {A = ℕ} (pages_for (length words) * PAGE_WORDS - length words) 0)

-- a word of a part is a word of the program
pub part_word : (n : ℕ) (words : List ℕ) (index k x : ℕ) (part : List ℕ) → slice_get (parts_from n words) index ≡ Some part → slice_get part k ≡ Some x
    → (index * PAGE_WORDS + k < length words) × (k < PAGE_WORDS) × (get_or words (index * PAGE_WORDS + k) 0 ≡ x)
part_word zero words index k x part at word = absurd (none_some part at)
part_word (suc n) words zero k x part at word =
    let same : take PAGE_WORDS words ≡ part = cc in let here : slice_get (take PAGE_WORDS words) k ≡ Some x = ap (λ l. slice_get l k) same ∙ word in
    let inside = slice_get_within (take PAGE_WORDS words) k x here in let short = length-take PAGE_WORDS words in
    (omega arith, omega arith, ap (λ (j : ℕ). get_or words j 0) (let g : 0 * PAGE_WORDS + k ≡ k = omega arith in g) ∙ (sym (get_or-take PAGE_WORDS words k 0 (omega arith)) ∙ get_or_from_slice_get (take PAGE_WORDS words) k x 0 here))
part_word (suc n) words (suc index) k x part at word =
    let more = part_word n (drop PAGE_WORDS words) index k x part at word in let inside = more.0 in let long = length-drop PAGE_WORDS words in
    (omega arith, more.1, ap (λ (j : ℕ). get_or words j 0) (let g : suc index * PAGE_WORDS + k ≡ PAGE_WORDS + (index * PAGE_WORDS + k) = omega arith in g) ∙ (sym (get_or-drop PAGE_WORDS words (index * PAGE_WORDS + k) 0) ∙ more.2))

-- all programs, one behind the other, each in pages of its own
abbrev pub all_in_pages : List (List ℕ) → List ℕ
all_in_pages programs = flat_map in_pages programs

pub length-all_in_pages : (programs : List (List ℕ)) → length (all_in_pages programs) ≡ length (flat_map parts_of programs) * PAGE_WORDS
length-all_in_pages [] = refl
length-all_in_pages (words ∷ rest) =
    let more = length-all_in_pages rest in
    omega (arith, ap length (flat_map-cons in_pages words rest), length-append (in_pages words) (all_in_pages rest), length-in_pages words, length-parts_of_all words rest)

pub slice_get-front_or_back : {A : Type 0} → (xs ys : List A) (i : ℕ) (x : A) → slice_get (xs ++ ys) i ≡ Some x
    → ((i < length xs) × (slice_get xs i ≡ Some x)) ⊎ ((length xs ≤ i) × (slice_get ys (i - length xs) ≡ Some x))
slice_get-front_or_back [] ys i x at = inr (omega arith, ap (slice_get ys) (let g : i - 0 ≡ i = omega arith in g) ∙ at)
slice_get-front_or_back (y ∷ xs) ys zero x at = inl (omega arith, at)
slice_get-front_or_back (y ∷ xs) ys (suc i) x at = ⊎_elim
    (λ t. inl (omega (arith, t.0), t.1))
    (λ t. inr (omega (arith, t.0), ap (slice_get ys) (let g : suc i - suc (length xs) ≡ i - length xs = omega arith in g) ∙ t.1))
    (slice_get-front_or_back xs ys i x at)

-- part j stands in page j
pub page_of_part : (programs : List (List ℕ)) (index k x : ℕ) (part : List ℕ) → slice_get (flat_map parts_of programs) index ≡ Some part → slice_get part k ≡ Some x
    → get_or (all_in_pages programs) (index * PAGE_WORDS + k) 0 ≡ x
page_of_part [] index k x part at word = absurd (none_some part at)
page_of_part (words ∷ rest) index k x part at word =
    by (page_of_part rest) (slice_get-front_or_back (parts_of words) (flat_map parts_of rest) index part (ap (λ l. slice_get l index) (sym (flat_map-cons parts_of words rest)) ∙ at))
  where
    count : length (parts_of words) ≡ pages_for (length words)
    count = length-parts_of words

    split : all_in_pages (words ∷ rest) ≡ in_pages words ++ all_in_pages rest
    split = flat_map-cons in_pages words rest

    by : ((i j y : ℕ) (other : List ℕ) → slice_get (flat_map parts_of rest) i ≡ Some other → slice_get other j ≡ Some y → get_or (all_in_pages rest) (i * PAGE_WORDS + j) 0 ≡ y)
        → ((index < length (parts_of words)) × (slice_get (parts_of words) index ≡ Some part)) ⊎ ((length (parts_of words) ≤ index) × (slice_get (flat_map parts_of rest) (index - length (parts_of words)) ≡ Some part))
        → get_or (all_in_pages (words ∷ rest)) (index * PAGE_WORDS + k) 0 ≡ x
    by rec (inl (low, here)) = let t = part_word (pages_for (length words)) words index k x part here word in let inside = t.0 in
        ap (λ l. get_or l (index * PAGE_WORDS + k) 0) split
        ∙ (get_or_append_left (in_pages words) (all_in_pages rest) 0 (index * PAGE_WORDS + k) (omega (arith, length-in_pages words))
        ∙ (get_or_append_left words (replicate (pages_for (length words) * PAGE_WORDS - length words) 0) 0 (index * PAGE_WORDS + k) inside ∙ t.2))
    by rec (inr (up, there)) =
        ap (λ l. get_or l (index * PAGE_WORDS + k) 0) split
        ∙ (ap (λ (n : ℕ). get_or (in_pages words ++ all_in_pages rest) n 0) (let g : index * PAGE_WORDS + k ≡ length (in_pages words) + ((index - length (parts_of words)) * PAGE_WORDS + k) = omega (arith, length-in_pages words, count) in g)
        ∙ (get_or-append-add (in_pages words) (all_in_pages rest) ((index - length (parts_of words)) * PAGE_WORDS + k) 0
        ∙ rec (index - length (parts_of words)) k x part there word))

-- ---- the words of rows and pool

module _ (config : List Group) (room : HasRoom config) where
  abbrev count : ℕ
  count = length (parts config)

  abbrev own_pages : List ℕ
  own_pages = first_pages count

  abbrev own_row : List ℕ
  own_row = pooled_row config own_pages

  abbrev programs : List (List ℕ)
  programs = words_of_programs config

  pub few : count ≤ PAGE_LIMIT
  few = few_in_row config room

  pub are_first_pages : ArePages config own_pages
  are_first_pages = record { counted = length-range_with_len 0 count; below = λ k d inside. let low : k < count = omega (arith, length-range_with_len 0 count) in omega (arith, few, get_or-range_with_len 0 count k d low) }

  -- pages that were counted up are the first
  pub first_pages_read : (pages : List ℕ) (n i : ℕ) → n ≡ count → n ≤ i → n ≤ length pages → ((k : ℕ) → k < i → get_or pages k 0 ≡ k) → take n pages ≡ own_pages
  first_pages_read pages n i is up fits read = ext_get_or 0 (take n pages) own_pages (length-take-le n pages fits ∙ (is ∙ sym (length-range_with_len 0 count)))
      (λ k inside. let low : k < n = omega (arith, length-take-le n pages fits) in get_or-take n pages k 0 low ∙ (read k (omega arith) ∙ sym (get_or-range_with_len 0 count k 0 (omega arith) ∙ (let g : 0 + k ≡ k = omega arith in g))))

  pub length-own_row : length own_row ≡ ROW_WORDS
  length-own_row = (row_tells_with_room config own_pages room are_first_pages).whole

  pub length-programs : length (all_in_pages programs) ≡ count * PAGE_WORDS
  length-programs = length-all_in_pages programs ∙ ap (λ l. length l * PAGE_WORDS) (sym (parts-by_words config))

  -- the rows behind row 0
  abbrev other_rows : List ℕ
  other_rows = replicate (all_rows the_shape - the_shape.row_words) 0

  pub all_rows_is : all_rows the_shape ≡ ROWS * ROW_WORDS
  unfolding the_shape
  all_rows_is = refl

  pub length-other_rows : length other_rows ≡ ROWS * ROW_WORDS - ROW_WORDS
  length-other_rows = length-replicate {A = ℕ} (all_rows the_shape - the_shape.row_words) 0 ∙ omega (arith, all_rows_is, row_words_is)

  pub length-front : length (opening_front config) ≡ ROWS * ROW_WORDS + count * PAGE_WORDS
  length-front = omega (arith, length-append own_row (other_rows ++ all_in_pages programs), length-append other_rows (all_in_pages programs), length-own_row, length-other_rows, length-programs)

  -- what stands behind the front
  abbrev zeros : List ℕ
  zeros = replicate (stored_words the_shape - length (opening_front config)) 0

  pub length-stored : length (opening_stored config) ≡ stored_words the_shape
  length-stored = omega (arith, length-append (opening_front config) zeros, length-replicate {A = ℕ} (stored_words the_shape - length (opening_front config)) 0, length-front, few, stored_is)

  pub row_word_is : (i : ℕ) → i < ROW_WORDS → get_or (opening_stored config) i 0 ≡ get_or own_row i 0
  row_word_is i low = get_or_append_left (opening_front config) zeros 0 i (omega (arith, length-front))
      ∙ get_or_append_left own_row (other_rows ++ all_in_pages programs) 0 i (omega (arith, length-own_row))

  pub page_word_is : (i : ℕ) → i < count * PAGE_WORDS → get_or (opening_stored config) (ROWS * ROW_WORDS + i) 0 ≡ get_or (all_in_pages programs) i 0
  page_word_is i low = get_or_append_left (opening_front config) zeros 0 (ROWS * ROW_WORDS + i) (omega (arith, length-front))
      ∙ (ap (λ (n : ℕ). get_or (opening_front config) n 0) (let g : ROWS * ROW_WORDS + i ≡ length own_row + (ROWS * ROW_WORDS - ROW_WORDS + i) = omega (arith, length-own_row) in g)
      ∙ (get_or-append-add own_row (other_rows ++ all_in_pages programs) (ROWS * ROW_WORDS - ROW_WORDS + i) 0
      ∙ (ap (λ (n : ℕ). get_or (other_rows ++ all_in_pages programs) n 0) (let g : ROWS * ROW_WORDS - ROW_WORDS + i ≡ length other_rows + i = omega (arith, length-other_rows) in g)
      ∙ get_or-append-add other_rows (all_in_pages programs) i 0)))

  -- from its own words on, row 0 is 0, and so are the other rows
  pub other_row_word : (i : ℕ) → ROW_WORDS ≤ i → i < ROWS * ROW_WORDS → get_or (opening_stored config) i 0 ≡ 0
  other_row_word i up low = get_or_append_left (opening_front config) zeros 0 i (omega (arith, length-front))
      ∙ (get_or-append_right own_row (other_rows ++ all_in_pages programs) ROW_WORDS i 0 length-own_row up
      ∙ (get_or_append_left other_rows (all_in_pages programs) 0 (i - ROW_WORDS) (omega (arith, length-other_rows))
      ∙ get_or-replicate (all_rows the_shape - the_shape.row_words) (i - ROW_WORDS) 0 0 (omega (arith, all_rows_is, row_words_is))))

  page_is_index : (index page : ℕ) → slice_get own_pages index ≡ Some page → (page ≡ index) × (index < count)
  page_is_index index page at =
      let inside : index < count = omega (arith, slice_get_within own_pages index page at, length-range_with_len 0 count) in
      (sym (get_or_from_slice_get own_pages index page 0 at) ∙ (get_or-range_with_len 0 count index 0 inside ∙ (let g : 0 + index ≡ index = omega arith in g)), inside)

  pub HoldsForm-opened : HoldsForm the_shape 0 (opening_stored config) 0 config own_pages
  unfolding the_shape
  HoldsForm-opened = record {
    counted = are_first_pages.counted;
    below = λ index page at. let t = page_is_index index page at in omega (arith, t.0, t.1, few);
    fits = λ index part cut. ((row_tells_with_room config own_pages room are_first_pages).parts_stand.sized index part cut).1;
    row = λ i low. ap (λ (n : ℕ). get_or (opening_stored config) n 0) (let g : 0 + (0 * ROW_WORDS + i) ≡ i = omega arith in g) ∙ row_word_is i low;
    standing = λ index page k x part at cut word. let t = page_is_index index page at in
        let small = slice_get_within part k x word in let size = ((row_tells_with_room config own_pages room are_first_pages).parts_stand.sized index part cut).1 in
        ap (λ (n : ℕ). get_or (opening_stored config) n 0) (let g : 0 + (ROWS * ROW_WORDS + (page * PAGE_WORDS + k)) ≡ ROWS * ROW_WORDS + (index * PAGE_WORDS + k) = omega (arith, ap (λ (n : ℕ). n * PAGE_WORDS) t.0) in g)
        ∙ (page_word_is (index * PAGE_WORDS + k) (omega (arith, t.1))
        ∙ page_of_part programs index k x part (ap (λ l. slice_get l index) (sym (parts-by_words config)) ∙ cut) word);
  }

  -- the row of version 0 names these pages
  pub named_first : pages_named the_shape (opening_stored config) 0 ≡ own_pages
  named_first = (pooled.stands (opening_stored config) 0 config own_pages length-stored (omega (arith, rows_is)) room HoldsForm-opened).1

-- ---- as they are made

-- words that are filled up with zeros to a length that they have not reached
filled_up : (items items' : List ℕ) (n len : ℕ) → len ≡ length items → length items ≤ n → items' ≡ take n items ++ replicate (n - len) 0 → items' ≡ items ++ replicate (n - length items) 0
filled_up items items' n len is low filled = filled ∙ (ap (λ l. l ++ replicate (n - len) 0) (take_all n items low) ∙ ap (λ (k : ℕ). items ++ replicate (n - k) 0) is)

-- zeros that are made from nothing
pub zeros_made : (items items' : List ℕ) (n len : ℕ) → items ≡ [] → len ≡ length items → items' ≡ take n items ++ replicate (n - len) 0 → items' ≡ replicate n 0
zeros_made items items' n len none is filled = filled_up items items' n len is (omega (arith, ap length none)) filled
    ∙ (ap (λ l. l ++ replicate (n - length l) 0) none ∙ ap (λ (k : ℕ). replicate k 0) (let g : n - 0 ≡ n = omega arith in g))

-- one word more of a row
pub one_row_word_more : (was items items' row : List ℕ) (i x : ℕ) → items ≡ was ++ take i row → items' ≡ items ++ x ∷ [] → x ≡ get_or row i 0 → i < length row → items' ≡ was ++ take (i + 1) row
one_row_word_more was items items' row i x front more is low =
    more ∙ (ap (λ l. l ++ x ∷ []) front ∙ (append_assoc was (take i row) (x ∷ []) ∙ ap (λ l. was ++ l) (ap (λ (k : ℕ). take i row ++ k ∷ []) is ∙ sym (take_more row i 0 low))))

-- one program more, filled up to the end of its last page
pub one_program_more : (items items' items'' words all : List ℕ) (programs rest : List (List ℕ)) (end len : ℕ) → programs ≡ words ∷ rest → items ++ all_in_pages programs ≡ all → items' ≡ items ++ words
    → end ≡ length items + pages_for (length words) * PAGE_WORDS → len ≡ length items' → items'' ≡ take end items' ++ replicate (end - len) 0 → items'' ++ all_in_pages rest ≡ all
one_program_more items items' items'' words all programs rest end len is was more to long filled =
    let size : length items' ≡ length items + length words = ap length more ∙ length-append items words in
    let padded : items'' ≡ items ++ in_pages words = filled_up items' items'' end len long (omega arith) filled
    ∙ (ap (λ l. l ++ replicate (end - length items') 0) more ∙ (append_assoc items words (replicate (end - length items') 0)
    ∙ ap (λ (n : ℕ). items ++ (words ++ replicate n 0)) (let g : end - length items' ≡ pages_for (length words) * PAGE_WORDS - length words = omega arith in g))) in
    ap (λ l. l ++ all_in_pages rest) padded ∙ (append_assoc items (in_pages words) (all_in_pages rest)
    ∙ (ap (λ l. items ++ l) (sym (flat_map-cons in_pages words rest)) ∙ (ap (λ l. items ++ all_in_pages l) (sym is) ∙ was)))

module _ (config : List Group) (room : HasRoom config) where
  pub opened_words_made : (a b c d e : List ℕ) (b_len d_len : ℕ) → a ≡ replicate ROWS_BEGIN 0 → b ≡ a ++ own_row config room → b_len ≡ length b → c ≡ take POOL_BEGIN b ++ replicate (POOL_BEGIN - b_len) 0
      → d ≡ c ++ all_in_pages (words_of_programs config) → d_len ≡ length d → e ≡ take TABLE_WORDS d ++ replicate (TABLE_WORDS - d_len) 0 → e ≡ (opened_with config).words
  opened_words_made a b c d e b_len d_len a_is b_is b_long c_is d_is d_long e_is =
      let row = own_row config room in let all = all_in_pages (words_of_programs config) in let front : List ℕ = replicate ROWS_BEGIN 0 in
      let b_is' : b ≡ front ++ row = b_is ∙ ap (λ l. l ++ row) a_is in
      let b_size : length b ≡ ROWS_BEGIN + ROW_WORDS = ap length b_is' ∙ omega (arith, length-append front row, length-replicate {A = ℕ} ROWS_BEGIN 0, length-own_row config room) in
      let c_is' : c ≡ (front ++ row) ++ other_rows config room = filled_up b c POOL_BEGIN b_len b_long (omega arith) c_is
      ∙ (ap (λ l. l ++ replicate (POOL_BEGIN - length b) 0) b_is' ∙ ap (λ (n : ℕ). (front ++ row) ++ replicate n 0) (let g : POOL_BEGIN - length b ≡ all_rows the_shape - the_shape.row_words = omega (arith, all_rows_is config room, row_words_is) in g)) in
      let d_is' : d ≡ front ++ opening_front config = d_is ∙ (ap (λ l. l ++ all) c_is' ∙ (append_assoc (front ++ row) (other_rows config room) all ∙ append_assoc front row (other_rows config room ++ all))) in
      let d_size : length d ≡ ROWS_BEGIN + length (opening_front config) = ap length d_is' ∙ omega (arith, length-append front (opening_front config), length-replicate {A = ℕ} ROWS_BEGIN 0) in
      filled_up d e TABLE_WORDS d_len d_long (omega (arith, length-front config room, few config room)) e_is
      ∙ (ap (λ l. l ++ replicate (TABLE_WORDS - length d) 0) d_is'
      ∙ (append_assoc front (opening_front config) (replicate (TABLE_WORDS - length d) 0)
      ∙ (ap (λ (n : ℕ). front ++ (opening_front config ++ replicate n 0)) (let g : TABLE_WORDS - length d ≡ stored_words the_shape - length (opening_front config) = omega (arith, stored_is) in g)
      ∙ ap (λ (n : ℕ). replicate n 0 ++ opening_stored config) (let g : ROWS_BEGIN ≡ suc the_shape.workers = omega (arith, workers_is) in g))))

  -- the same, where the last length is a number that turns out to be the table's: a body that takes another number is told so at once, and no list of that length is computed
  pub opened_words_sized : (a b c d e : List ℕ) (b_len d_len n : ℕ) → a ≡ replicate ROWS_BEGIN 0 → b ≡ a ++ own_row config room → b_len ≡ length b → c ≡ take POOL_BEGIN b ++ replicate (POOL_BEGIN - b_len) 0
      → d ≡ c ++ all_in_pages (words_of_programs config) → d_len ≡ length d → e ≡ take n d ++ replicate (n - d_len) 0 → n ≡ TABLE_WORDS → e ≡ (opened_with config).words
  opened_words_sized a b c d e b_len d_len n a_is b_is b_long c_is d_is d_long e_is size =
      opened_words_made a b c d e b_len d_len a_is b_is b_long c_is d_is d_long (e_is ∙ ap (λ (k : ℕ). take k d ++ replicate (k - d_len) 0) size)
