-- What a row in the pooled form and its pages tell of the row that holds the image.
use Rattle.std.proofs.Common.{◌≡◌, ◌∙◌, ◌+◌, ◌++◌, ◌-◌, ◌<◌, ◌≤◌, List, Some, ap, arith, get_or, length, replicate, slice_index, sym, ℕ}
use Rattle.std.specs.List.{slice_get}
use Rattle.std.specs.Option.{unwrap_or}
use Rattle.std.proofs.Math.ListN.{get_or-append}
use Rattle.std.proofs.lemmas.List.{get_or-replicate, get_or-append-add}
use Rattle.std.proofs.lemmas.Option.{get_or_from_slice_get, slice_get-get_or, slice_get_within, unwrap_or-slice_get}
use Rattle.config_image.specs.declared.TheConstants.{ROW_WORDS}
use Rattle.config_image.specs.Image.{Group, image, programs_begin, row}
use Rattle.config_image.specs.Pooled.{IsPooledForm, PartsStand, PooledFormTells, PooledFormTellsRow, PooledRowTells, part_begin, pooled_row}
use Rattle.config_image.proofs.ImageLemmas.{length_word}
use Rattle.config_image.proofs.LengthLemmas.{length_image}
use Rattle.config_image.proofs.PooledLemmas.{parts_stand, row_tells_with_room}
use Rattle.config_image.proofs.RowLemmas.{row-padded}

same_word : (words others : List ℕ) (i : ℕ) → slice_get words i ≡ slice_get others i → slice_index words i ≡ slice_index others i
same_word words others i same = sym (unwrap_or-slice_get words i 0) ∙ ap (λ o. unwrap_or o 0) same ∙ unwrap_or-slice_get others i 0

module _ (config : List Group) (stored pages : List ℕ) (word : ℕ → ℕ → ℕ) (fits : length (image config) ≤ ROW_WORDS) (form : IsPooledForm config stored pages word) where
  abbrev tells : PooledRowTells config pages
  tells = row_tells_with_room config pages fits form.are

  abbrev stand : PartsStand config
  stand = parts_stand config

  image_word : (i : ℕ) → i < length (image config) → slice_index (row config) i ≡ slice_index (image config) i
  image_word i inside =
      ap (λ (ws : List ℕ). slice_index ws i) (row-padded config fits)
      ∙ get_or-append (image config) (replicate (ROW_WORDS - length (image config)) 0) 0 i inside

  zero_word : (i : ℕ) → length (image config) ≤ i → i < ROW_WORDS → slice_index (row config) i ≡ 0
  zero_word i behind inside =
      let zeros = ROW_WORDS - length (image config) in
      let place = i - length (image config) in
      let at : i ≡ length (image config) + place = omega arith in
      ap (λ (ws : List ℕ). slice_index ws i) (row-padded config fits)
      ∙ ap (slice_index (image config ++ replicate zeros 0)) at
      ∙ get_or-append-add (image config) (replicate zeros 0) place 0
      ∙ get_or-replicate zeros place 0 0 (omega arith)

  first_word : slice_index (row config) 0 ≡ length (image config)
  first_word =
      let size = length_image config in
      image_word 0 (omega arith) ∙ get_or_from_slice_get (image config) 0 (length (image config)) 0 (length_word config)

  word_before : (i : ℕ) → 0 < i → i < programs_begin config → slice_index (row config) i ≡ slice_index stored i
  word_before i behind before =
      let size = length_image config in
      image_word i (omega arith)
      ∙ sym (same_word (pooled_row config pages) (image config) i (tells.image_words i behind before))
      ∙ ap (λ (ws : List ℕ). slice_index ws i) (sym form.row_is)

  page_of_place : (i : ℕ) → programs_begin config ≤ i → i < length (image config)
      → (index : ℕ) × (page : ℕ) × (slice_get pages index ≡ Some page) × (part_begin config index ≤ i) × (i < part_begin config (index + 1))
  page_of_place i behind inside =
      let at = stand.covered i behind inside in
      let counted = form.are.counted in
      let in_parts = at.1 in
      (at.0, get_or pages at.0 0, slice_get-get_or pages at.0 0 (omega arith), at.2, at.3)

  word_of_page : (index page i : ℕ) → slice_get pages index ≡ Some page → part_begin config index ≤ i → i < part_begin config (index + 1)
      → slice_index (row config) i ≡ word page (i - part_begin config index)
  word_of_page index page i there begun ends =
      let counted = form.are.counted in
      let inside = slice_get_within pages index page there in
      let held = stand.found index i (omega arith) begun ends in
      let k = i - part_begin config index in
      let x = get_or held.0 k 0 in
      let here = slice_get-get_or held.0 k 0 held.2 in
      let in_image : slice_get (image config) i ≡ Some x = held.3 ∙ here in
      image_word i (slice_get_within (image config) i x in_image)
      ∙ get_or_from_slice_get (image config) i x 0 in_image
      ∙ sym (form.stands index page k x held.0 there held.1 here)

  told : PooledFormTells config stored pages word
  told = record {
    length_word = first_word;
    before = word_before;
    in_page = page_of_place;
    page_words = word_of_page;
    zeros = zero_word;
  }

pub form_tells : PooledFormTellsRow
form_tells config stored pages word fits form = told config stored pages word fits form
