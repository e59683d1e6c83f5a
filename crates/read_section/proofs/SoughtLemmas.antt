-- The search for the part of a word that is sought: its fetches, and what they tell.
use Rattle.std.proofs.Common.{◌≡◌, ℕ, ◌*◌, ◌+◌, ◌-◌, ◌<◌, ◌≤◌, List, Some, ap, arith, inl, inr, length, slice_get, slice_index, subst, sym, ◌∙◌}
use Rattle.std.proofs.lemmas.Bool.{cases_lt}
use Rattle.std.proofs.lemmas.Option.{get_or_from_slice_get}
use Rattle.config_image.specs.declared.TheConstants.{PAGE_LIMIT, ROW_WORDS}
use Rattle.config_image.specs.Image.{Group, image, programs_begin}
use Rattle.config_image.specs.PageTable.{entry_word, header_begin, header_count, header_len, page_of, start_of}
use Rattle.config_image.specs.Pooled.{ArePages, PooledRowTells, part_begin, parts, pooled_row}
use Rattle.config_image.specs.declared.pages.search.FoundPart.{FoundPart}
use Rattle.config_image.specs.Search.{HoldsPlace, IsWithin}
use Rattle.versions.specs.declared.layout.TheConstants.{ROWS_BEGIN}
use Rattle.versions.specs.declared.view.Stage.TheVariants.{Inside}
use Rattle.versions.specs.Layout.{page_begin}
use Rattle.versions.specs.Safety.{IsHeldPlace}
use Rattle.versions.specs.Table.{the_shape}
use Rattle.read_section.specs.Worker.{WorkerValue}
use Rattle.read_section.specs.body.Found.{IsExtentOf, TellsOfHeld}
use Rattle.read_section.specs.body.Sought.{IsEntryOf, IsSought, entries_of}
use Rattle.read_section.specs.body.Steps.{SeesWord}
use Rattle.read_section.proofs.HeldWordLemmas.{config_held, row_place_held, row_word_told, same_version}
use Rattle.read_section.proofs.PartEntryLemmas as part
use Rattle.read_section.proofs.WorkerSeatLemmas.{page_place_is}

module _ (worker : WorkerValue) (row form i : ℕ) (s : IsSought worker.view row form i) where
  abbrev pub k : ℕ
  k = s.0

  abbrev pub n : ℕ
  n = s.1

  abbrev pub r : ℕ
  r = s.2

  abbrev pub stage : worker.view.stage ≡ Inside k n r
  stage = s.3

  abbrev pub config : List Group
  config = config_held worker n

  abbrev pub pages : List ℕ
  pages = worker.view.pages

  are : ArePages config pages
  are = part.ArePages-table config pages s.5.4

  tells : PooledRowTells config pages
  tells = part.tells config pages s.5.2 are

  abbrev pub heads : ℕ
  heads = header_begin form

  pub heads_are : heads ≡ programs_begin config
  heads_are = ap header_begin s.5.3 ∙ tells.begin_part

  pub entries_are : header_count form ≡ length (parts config)
  entries_are = ap header_count s.5.3 ∙ tells.count_part

  pub length_is : header_len form ≡ length (image config)
  length_is = ap header_len s.5.3 ∙ tells.length_part

  pub entries_fit : header_count form ≤ PAGE_LIMIT
  entries_fit = let few = tells.few in let e = entries_are in omega arith

  pub entries_counted : length (entries_of config pages) ≡ header_count form
  entries_counted = part.length-entries config pages s.5.2 are ∙ sym entries_are

  pub entries_within : IsWithin (entries_of config pages) (header_len form) i
  entries_within = subst (λ end. IsWithin (entries_of config pages) end i) (sym length_is) (part.IsWithin-programs config pages s.5.2 are i s.5.5 s.5.6)

  module _ (index : ℕ) (low : index < header_count form) where
    small : heads + index < ROW_WORDS
    small = let inside = tells.inside in let short = tells.short in let e = entries_are in let h = heads_are in omega arith

    pub entry_place_held : IsHeldPlace the_shape worker.view (ROWS_BEGIN + row * ROW_WORDS + (heads + index))
    entry_place_held = row_place_held worker k n r stage row (heads + index) s.5.0 s.5.1 small

    low_parts : index < length (parts config)
    low_parts = subst (λ m. index < m) entries_are low

    pub entry_told : (x : ℕ) → SeesWord worker (ROWS_BEGIN + row * ROW_WORDS + (heads + index)) x → x ≡ entry_word (part_begin config index) (slice_index pages index)
    entry_told x sees = row_word_told worker k n r stage row (heads + index) s.5.0 s.5.1 small x sees
        ∙ (ap (λ h. slice_index (pooled_row config pages) (h + index)) heads_are
        ∙ get_or_from_slice_get (pooled_row config pages) (programs_begin config + index) (entry_word (part_begin config index) (slice_index pages index)) 0 (part.entry_word_there config pages s.5.2 are index low_parts))

    pub entry_there : (x : ℕ) → SeesWord worker (ROWS_BEGIN + row * ROW_WORDS + (heads + index)) x → slice_get (entries_of config pages) index ≡ Some x
    entry_there x sees = part.entry_there config pages s.5.2 are index low_parts ∙ ap Some (sym (entry_told x sees))

    -- so the fetch loads the part's entry
    pub is_entry : (x : ℕ) → SeesWord worker (ROWS_BEGIN + row * ROW_WORDS + (heads + index)) x → IsEntryOf config pages index x
    is_entry x sees = let e = entry_told x sees in
        (ap start_of e ∙ part.start_told config pages s.5.2 are index low_parts, λ _. ap page_of e ∙ part.page_told config pages s.5.2 are index low_parts)

  pub is_end_entry : (index : ℕ) → index ≡ header_count form → IsEntryOf config pages index (entry_word (header_len form) 0)
  is_end_entry index e = let last : index ≡ length (parts config) = e ∙ entries_are in
      (ap (λ l. start_of (entry_word l 0)) length_is ∙ (part.end_told config pages s.5.2 are ∙ ap (part_begin config) (sym last)), λ low. absurd (omega arith))

  -- facts of the version that is held
  pub told_of : (Fact : List Group → List ℕ → Type 0) → Fact config pages → TellsOfHeld Fact worker.view
  told_of Fact fact k' n' r' e = subst (λ m. Fact (config_held worker m) pages) (same_version worker.view.stage k n r k' n' r' stage e) fact

  -- a part that was found, by its entry and the next one
  module _ (f : FoundPart) (holds : HoldsPlace (entries_of config pages) (length (image config)) i f) where
    pub found_below : f.index + 1 ≤ header_count form
    found_below = let low = part.index_below config pages s.5.2 are i f holds in let e = entries_are in omega arith

    pub found_next : IsEntryOf config pages (f.index + 1) f.next.0
    found_next = (part.found_end config pages s.5.2 are i f holds, λ more. part.found_next_page config pages s.5.2 are i f holds more)

    -- a page of the table begins behind each place in an image
    pub found_low : start_of f.entry.0 ≤ page_begin the_shape (page_of f.entry.0)
    found_low = let from = holds.from in let to = s.5.6 in let room = s.5.2 in let p = page_place_is (page_of f.entry.0) 0 in omega arith

    -- its words are an extent
    pub found_is : (shift : ℕ) → shift ≡ page_begin the_shape (page_of f.entry.0) - start_of f.entry.0 → IsExtentOf config pages (record { version = 0; at = start_of f.entry.0; end = start_of f.next.0; shift = shift })
    found_is shift e =
        let below = part.index_below config pages s.5.2 are i f holds in let begin = part.found_start config pages s.5.2 are i f holds in let end = part.found_end config pages s.5.2 are i f holds in
        let first = begins_in_programs f.index in let last = part.ends_in_image config pages s.5.2 are (f.index + 1) (omega arith) in let low = found_low in (
          (s.5.4, (omega arith, omega arith)),
          λ j index from to there from' to'.
              let same = part.one_part config pages s.5.2 are j index f.index there below from' to' (omega arith) (omega arith) in
              let q : page_begin the_shape (page_of f.entry.0) ≡ page_begin the_shape (slice_index pages index) = ap (page_begin the_shape) (part.found_page config pages s.5.2 are i f holds ∙ ap (slice_index pages) (sym same)) in
              let b : part_begin config index ≡ part_begin config f.index = ap (part_begin config) same in omega arith,
        )
      where
        begins_in_programs : (index : ℕ) → programs_begin config ≤ part_begin config index
        begins_in_programs index = omega arith

  -- an extent goes on in the next part, which stands in the next page
  module _ (at shift index next behind : ℕ) (low : index < header_count form) (entry : IsEntryOf config pages index next) (is : IsExtentOf config pages (record { version = 0; at = at; end = start_of next; shift = shift }))
      (follows : page_begin the_shape (page_of next) ≡ start_of next + shift) (entry' : IsEntryOf config pages (index + 1) behind) where
    below_parts : index < length (parts config)
    below_parts = subst (λ m. index < m) entries_are low

    pub further : start_of next < start_of behind
    further = let here = entry.0 in let there = entry'.0 in let word = part.part_has_word config pages s.5.2 are index below_parts in omega arith

    pub goes_on : IsExtentOf config pages (record { version = 0; at = at; end = start_of behind; shift = shift })
    goes_on =
        let here = entry.0 in let there = entry'.0 in let last = part.ends_in_image config pages s.5.2 are (index + 1) (let below = below_parts in omega arith) in (
          (is.0.0, (is.0.1.0, omega arith)),
          λ j other from to below from' to'. elim (cases_lt j (start_of next)) [
            | inl before ↦ is.1 j other from before below from' to'
            | inr after ↦
                let same = part.one_part config pages s.5.2 are j other index below below_parts from' to' (omega arith) (omega arith) in
                let q : page_begin the_shape (page_of next) ≡ page_begin the_shape (slice_index pages other) = ap (page_begin the_shape) (entry.1 below_parts ∙ ap (slice_index pages) (sym same)) in
                let b : part_begin config other ≡ part_begin config index = ap (part_begin config) same in omega arith
          ],
        )

  pub entry_small : (index next : ℕ) → index ≤ header_count form → IsEntryOf config pages index next → start_of next ≤ ROW_WORDS
  entry_small index next low entry = let inside = part.ends_in_image config pages s.5.2 are index (let e = entries_are in omega arith) in let here = entry.0 in let room = s.5.2 in omega arith
