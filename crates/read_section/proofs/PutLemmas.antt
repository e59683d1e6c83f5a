-- What a publication takes from the row: the pages that its words name.
use Rattle.std.proofs.Common.{◌≡◌, ◌∙◌, ℕ, ◌+◌, ◌-◌, ◌*◌, ◌<◌, ◌≤◌, List, Some, ap, arith, drop, get_or, length, length-drop, map, mul-le-mul_right, refl, slice_get, slice_index, subst, suc, suc-mul, sym, take}
use Rattle.std.proofs.lemmas.List.{ext_get_or, get_or-drop, get_or-take, length-take-le}
use Rattle.config_image.specs.declared.TheConstants.{PAGE_LIMIT, ROW_WORDS}
use Rattle.std.proofs.lemmas.Option.{get_or_from_slice_get}
use Rattle.config_image.specs.Image.{Group, programs_begin}
use Rattle.config_image.specs.PageTable.{header_begin, header_count, page_of}
use Rattle.config_image.specs.Pooled.{ArePages, PooledRowTells, form_word, pages_of, parts, pooled_row}
use Rattle.config_image.proofs.PooledLemmas.{few_in_row, row_tells_with_room}
use Rattle.member_group.specs.Charge.{charge_of}
use Rattle.versions.specs.declared.book.Book.{Book}
use Rattle.versions.specs.declared.layout.TheConstants.{PAGES, ROWS, ROWS_BEGIN}
use Rattle.versions.specs.declared.view.OperatorView.{OperatorView}
use Rattle.versions.specs.Layout.{HoldsForm, pages_named, row_at}
use Rattle.versions.specs.Pooled.{HasRoom}
use Rattle.versions.specs.Table.{the_shape}
use Rattle.versions.proofs.FormLemmas.{are_pages}
use Rattle.versions.proofs.PooledLemmas as pooled
use Rattle.versions.proofs.ShapeLemmas.{named_is, pages_is, parts_is, rows_is}
use Rattle.versions.proofs.WorldLemmas.{has_room}
use Rattle.read_section.specs.Layout.{HoldsConfig, IsPublishable, IsZeroFrom}
use Rattle.read_section.specs.body.OperatorKept.{IsKeptBy}
use Rattle.read_section.specs.body.Seat.{HoldsNamed}
use Rattle.read_section.proofs.FilledLemmas.{place_stored}

module _ {A : Type 0} (view : OperatorView (List Group)) (config : List Group) (book : Book A) (reported : ℕ) (zeros words pages : List ℕ) (h : IsKeptBy view config book reported zeros words pages) where
  module _ (row : ℕ) (new : List Group) (low : row < the_shape.rows) (publishable : IsPublishable new) where
    room : HasRoom new
    room = has_room new (charge_of new) publishable.0 refl publishable.1

    -- the row names the pages that hold the configuration
    pub pages_are : (holds : HoldsConfig view row new) → pages_named the_shape view.stored row ≡ holds.0
    pages_are holds = (pooled.stands view.stored row new holds.0 h.stored_length low room holds.1).1

    pub holds_named : HoldsConfig view row new → HoldsNamed view row new
    holds_named holds = subst (HoldsForm the_shape 0 view.stored row new) (sym (pages_are holds)) holds.1

    in_rows : row < ROWS
    in_rows = omega (arith, rows_is)

    under : suc row * ROW_WORDS ≤ ROWS * ROW_WORDS
    under = mul-le-mul_right ROW_WORDS in_rows

    row_size : length (row_at the_shape view.stored row) ≡ ROW_WORDS
    unfolding the_shape
    row_size = length-take-le ROW_WORDS (drop (row * ROW_WORDS) view.stored) (omega (arith, length-drop (row * ROW_WORDS) view.stored, h.stored_length, suc-mul row ROW_WORDS, under))

    row_word_at : (i : ℕ) → i < ROW_WORDS → get_or (row_at the_shape view.stored row) i 0 ≡ get_or view.stored (row * ROW_WORDS + i) 0
    unfolding the_shape
    row_word_at i small = get_or-take ROW_WORDS (drop (row * ROW_WORDS) view.stored) i 0 small ∙ get_or-drop (row * ROW_WORDS) view.stored i 0

    -- the operator's own words of the row are the table's
    pub own_row : (begin end : ℕ) → begin ≡ ROWS_BEGIN + row * ROW_WORDS → end ≡ begin + ROW_WORDS → take (end - begin) (drop begin words) ≡ row_at the_shape view.stored row
    own_row begin end at to = ext_get_or 0 (take (end - begin) (drop begin words)) (row_at the_shape view.stored row) (sizes begin end at to) (λ i inside. same begin end i at to (let s = own_size begin end at to in omega arith))
      where
        own_size : (begin end : ℕ) → begin ≡ ROWS_BEGIN + row * ROW_WORDS → end ≡ begin + ROW_WORDS → length (take (end - begin) (drop begin words)) ≡ ROW_WORDS
        own_size begin end at to = length-take-le (end - begin) (drop begin words) (omega (arith, length-drop begin words, h.words_length, suc-mul row ROW_WORDS, under)) ∙ omega arith

        sizes : (begin end : ℕ) → begin ≡ ROWS_BEGIN + row * ROW_WORDS → end ≡ begin + ROW_WORDS → length (take (end - begin) (drop begin words)) ≡ length (row_at the_shape view.stored row)
        sizes begin end at to = own_size begin end at to ∙ sym row_size

        same : (begin end i : ℕ) → begin ≡ ROWS_BEGIN + row * ROW_WORDS → end ≡ begin + ROW_WORDS → i < ROW_WORDS → get_or (take (end - begin) (drop begin words)) i 0 ≡ get_or (row_at the_shape view.stored row) i 0
        same begin end i at to small = get_or-take (end - begin) (drop begin words) i 0 (omega arith) ∙ (get_or-drop begin words i 0
            ∙ (ap (λ (k : ℕ). get_or words k 0) (let g : begin + i ≡ ROWS_BEGIN + (row * ROW_WORDS + i) = omega arith in g) ∙ (h.words_same (row * ROW_WORDS + i) (place_stored row i in_rows small) ∙ sym (row_word_at i small))))

    -- so the names among them give these pages
    pub names_give : (own names : List ℕ) → own ≡ row_at the_shape view.stored row → map page_of names ≡ pages_of own → map page_of names ≡ pages_named the_shape view.stored row
    names_give own names is named = named ∙ (ap pages_of is ∙ sym (named_is view.stored row))

    -- which are pages of the pool, and not more than a version may name
    pub pages_fit : (holds : HoldsConfig view row new) (given : List ℕ) → given ≡ pages_named the_shape view.stored row → (index page : ℕ) → slice_get given index ≡ Some page → page < PAGES
    pages_fit holds given is index page at = let under = holds.1.below index page (ap (λ l. slice_get l index) (sym (is ∙ pages_are holds)) ∙ at) in omega (arith, pages_is)

    pub pages_few : (holds : HoldsConfig view row new) (given : List ℕ) → given ≡ pages_named the_shape view.stored row → length given ≤ PAGE_LIMIT
    pages_few holds given is = omega (arith, ap length (is ∙ pages_are holds), holds.1.counted, ap length (parts_is new), few_in_row new room)

    -- behind the form the words of the row are 0, and the row's first word tells where that is
    module _ (holds : HoldsConfig view row new) (first : ℕ) (is : first ≡ slice_index words (ROWS_BEGIN + row * ROW_WORDS)) where
      are : ArePages new holds.0
      are = are_pages new holds.0 (holds.1.counted ∙ ap length (parts_is new)) (λ index page at. omega (arith, holds.1.below index page at, pages_is))

      tells : PooledRowTells new holds.0
      tells = row_tells_with_room new holds.0 room are

      form_word_at : (i : ℕ) → i < ROW_WORDS → slice_index view.stored (row * ROW_WORDS + i) ≡ slice_index (pooled_row new holds.0) i
      unfolding the_shape
      form_word_at i small = ap (slice_index view.stored) (let g : row * ROW_WORDS + i ≡ 0 + (row * ROW_WORDS + i) = omega arith in g) ∙ holds.1.row i small

      first_is : first ≡ form_word new
      first_is = is ∙ (ap (slice_index words) (let g : ROWS_BEGIN + row * ROW_WORDS ≡ ROWS_BEGIN + (row * ROW_WORDS + 0) = omega arith in g)
          ∙ (h.words_same (row * ROW_WORDS + 0) (place_stored row 0 in_rows (omega arith)) ∙ (form_word_at 0 (omega arith) ∙ get_or_from_slice_get (pooled_row new holds.0) 0 (form_word new) 0 tells.form)))

      end_is : header_begin first + header_count first ≡ programs_begin new + length (parts new)
      end_is = ap (λ (n : ℕ). header_begin n + header_count n) first_is ∙ (ap (λ (n : ℕ). n + header_count (form_word new)) tells.begin_part ∙ ap (λ (n : ℕ). programs_begin new + n) tells.count_part)

      pub end_within : header_begin first + header_count first ≤ ROW_WORDS
      end_within = omega (arith, end_is, tells.inside, tells.short)

      pub zero_behind : IsZeroFrom view row (header_begin first + header_count first)
      zero_behind = subst (IsZeroFrom view row) (sym end_is) (λ i up small. form_word_at i small ∙ get_or_from_slice_get (pooled_row new holds.0) i 0 0 (tells.zeros i up small))
