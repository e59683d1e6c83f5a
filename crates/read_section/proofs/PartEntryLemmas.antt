-- What the page table entries of a row in the pooled form say of the parts, and what a search among them finds.
use Rattle.std.proofs.Common.{◌≡◌, ℕ, suc, zero, ◌+◌, ◌-◌, ◌<◌, ◌≤◌, List, [], Some, ap, arith, drop, get_or, inl, inr, length, length-drop, length-take, slice_get, slice_index, sym, ◌∙◌}
use Rattle.std.proofs.lemmas.Bool.{cases_lt}
use Rattle.std.proofs.lemmas.List.{get_or-drop, get_or-take}
use Rattle.std.proofs.lemmas.Option.{get_or_from_slice_get, slice_get-get_or, slice_get_within}
use Rattle.config_image.specs.declared.TheConstants.{ROW_WORDS}
use Rattle.config_image.specs.Image.{Group, image, programs_begin}
use Rattle.config_image.specs.PageTable.{entry_word, page_of, start_of}
use Rattle.config_image.specs.Pooled.{ArePages, PartsStand, PooledRowTells, part_begin, parts, pooled_row}
use Rattle.config_image.proofs.PageTableLemmas as entry
use Rattle.config_image.proofs.PooledLemmas.{row_tells_with_room}
use Rattle.config_image.specs.declared.pages.search.FoundPart.{FoundPart}
use Rattle.read_section.specs.body.Found.{HasPages}
use Rattle.read_section.specs.body.Sought.{entries_of}
use Rattle.config_image.specs.Search.{HoldsPlace, IsWithin}

-- pages of the table have 16 bits
pub ArePages-table : (config : List Group) (pages : List ℕ) → HasPages config pages → ArePages config pages
ArePages-table config pages has = record { counted = has.0; below = λ i d low. let p = has.1 i (get_or pages i d) (slice_get-get_or pages i d low) in omega arith }

module _ (config : List Group) (pages : List ℕ) (room : length (image config) ≤ ROW_WORDS) (are : ArePages config pages) where
  pub tells : PooledRowTells config pages
  tells = row_tells_with_room config pages room are

  abbrev stands : PartsStand config
  stands = tells.parts_stand

  abbrev entries : List ℕ
  entries = entries_of config pages

  pub entry_word_there : (index : ℕ) → index < length (parts config)
      → slice_get (pooled_row config pages) (programs_begin config + index) ≡ Some (entry_word (part_begin config index) (slice_index pages index))
  entry_word_there index low = let counted = are.counted in tells.entries index (slice_index pages index) (slice_get-get_or pages index 0 (omega arith))

  pub length-entries : length entries ≡ length (parts config)
  length-entries = let whole = tells.whole in let inside = tells.inside in
      omega (arith, length-take (length (parts config)) (drop (programs_begin config) (pooled_row config pages)), length-drop (programs_begin config) (pooled_row config pages))

  pub entry_at : (index : ℕ) → index < length (parts config) → get_or entries index 0 ≡ entry_word (part_begin config index) (slice_index pages index)
  entry_at index low = get_or-take (length (parts config)) (drop (programs_begin config) (pooled_row config pages)) index 0 low
      ∙ (get_or-drop (programs_begin config) (pooled_row config pages) index 0 ∙ get_or_from_slice_get (pooled_row config pages) (programs_begin config + index) (entry_word (part_begin config index) (slice_index pages index)) 0 (entry_word_there index low))

  pub entry_there : (index : ℕ) → index < length (parts config) → slice_get entries index ≡ Some (entry_word (part_begin config index) (slice_index pages index))
  entry_there index low = slice_get-get_or entries index 0 (let counted = length-entries in omega arith) ∙ ap Some (entry_at index low)

  pub page_below : (index : ℕ) → index < length (parts config) → slice_index pages index < 65536
  page_below index low = let counted = are.counted in are.below index 0 (omega arith)

  -- an entry has its part's start and its page
  pub start_told : (index : ℕ) → index < length (parts config) → start_of (entry_word (part_begin config index) (slice_index pages index)) ≡ part_begin config index
  start_told index low = entry.start_told (part_begin config index) (slice_index pages index) (page_below index low)

  pub page_told : (index : ℕ) → index < length (parts config) → page_of (entry_word (part_begin config index) (slice_index pages index)) ≡ slice_index pages index
  page_told index low = entry.page_told (part_begin config index) (slice_index pages index) (page_below index low)

  -- a place of the programs is one that a search may look for
  pub IsWithin-programs : (i : ℕ) → programs_begin config ≤ i → i < length (image config) → IsWithin entries (length (image config)) i
  IsWithin-programs i from to = let t = stands.covered i from to in let some = t.1 in let first : 0 < length (parts config) = omega arith in
      (entry_word (part_begin config 0) (slice_index pages 0), entry_there 0 first, (let start = start_told 0 first in let begin = stands.first in omega arith), to)

  -- the entry after the last part has the place where the parts end
  pub end_told : start_of (entry_word (length (image config)) 0) ≡ part_begin config (length (parts config))
  end_told = (let g : start_of (entry_word (length (image config)) 0) ≡ length (image config) = omega arith in g) ∙ sym stands.last

  -- a part begins behind those before it
  begins_behind : (index more : ℕ) → index + more ≤ length (parts config) → part_begin config index ≤ part_begin config (index + more)
  begins_behind index zero low = let g : index ≡ index + 0 = omega arith in let e = ap (part_begin config) g in omega arith
  begins_behind index (suc more) low =
      let before = begins_behind index more (omega arith) in let there = slice_get-get_or (parts config) (index + more) [] (omega arith) in
      let next = stands.next (index + more) (get_or (parts config) (index + more) []) there in
      let g : index + more + 1 ≡ index + suc more = omega arith in let e = ap (part_begin config) g in omega arith

  not_before : (i index other : ℕ) → index < other → other ≤ length (parts config) → i < part_begin config (index + 1) → part_begin config other ≤ i → ⊥
  not_before i index other less low to from =
      let behind = begins_behind (index + 1) (other - (index + 1)) (omega arith) in
      let g : index + 1 + (other - (index + 1)) ≡ other = omega arith in let e = ap (part_begin config) g in omega arith

  -- one part at most has a place
  pub one_part : (i index other : ℕ) → index < length (parts config) → other < length (parts config) → part_begin config index ≤ i → i < part_begin config (index + 1) → part_begin config other ≤ i → i < part_begin config (other + 1) → index ≡ other
  one_part i index other low low' from to from' to' = elim (cases_lt index other) [
    | inl less ↦ absurd (not_before i index other less (omega arith) to from')
    | inr same ↦ elim (cases_lt other index) [
      | inl less ↦ absurd (not_before i other index less (omega arith) to' from)
      | inr equal ↦ omega arith
    ]
  ]

  -- the part at an index has a place behind the one where it begins
  pub part_has_word : (index : ℕ) → index < length (parts config) → part_begin config index < part_begin config (index + 1)
  part_has_word index low =
      let there = slice_get-get_or (parts config) index [] low in let part = get_or (parts config) index [] in
      let next = stands.next index part there in let sized = stands.sized index part there in let some = sized.0 in omega arith

  pub ends_in_image : (index : ℕ) → index ≤ length (parts config) → part_begin config index ≤ length (image config)
  ends_in_image index low = let behind = begins_behind index (length (parts config) - index) (omega arith) in
      let g : index + (length (parts config) - index) ≡ length (parts config) = omega arith in let e = ap (part_begin config) g in let last = stands.last in omega arith

  module _ (i : ℕ) (part : FoundPart) (holds : HoldsPlace entries (length (image config)) i part) where
    pub index_below : part.index < length (parts config)
    index_below = let counted = length-entries in let within = slice_get_within entries part.index part.entry.0 holds.named in omega arith

    entry_is : part.entry.0 ≡ entry_word (part_begin config part.index) (slice_index pages part.index)
    entry_is = sym (get_or_from_slice_get entries part.index part.entry.0 0 holds.named) ∙ entry_at part.index index_below

    pub found_start : start_of part.entry.0 ≡ part_begin config part.index
    found_start = ap start_of entry_is ∙ start_told part.index index_below

    pub found_page : page_of part.entry.0 ≡ slice_index pages part.index
    found_page = ap page_of entry_is ∙ page_told part.index index_below

    pub found_end : start_of part.next.0 ≡ part_begin config (part.index + 1)
    found_end = elim (cases_lt (part.index + 1) (length (parts config))) [
      | inl more ↦ ap start_of (holds.next _ (entry_there (part.index + 1) more)) ∙ start_told (part.index + 1) more
      | inr last ↦ let below = index_below in let counted = length-entries in let e : part.index + 1 ≡ length (parts config) = omega arith in
          ap start_of (holds.last (omega arith)) ∙ ((let g : start_of (entry_word (length (image config)) 0) ≡ length (image config) = omega arith in g) ∙ (sym stands.last ∙ ap (part_begin config) (sym e)))
    ]

    pub found_next_page : part.index + 1 < length (parts config) → page_of part.next.0 ≡ slice_index pages (part.index + 1)
    found_next_page more = ap page_of (holds.next _ (entry_there (part.index + 1) more)) ∙ page_told (part.index + 1) more
