-- The words of a row in pooled form.
use Rattle.std.proofs.Common.{◌≡◌, ◌∙◌, ◌∷◌, ◌+◌, ◌++◌, ◌-◌, ◌<◌, ◌≤◌, List, [], ap, append_assoc, arith, drop, get_or, inl, inr, length, length-append, lit<, refl, replicate, suc, sym, take, zero, ℕ}
use Rattle.std.specs.List.{flat_map}
use Rattle.std.proofs.Math.ListN.{get_or-append}
use Rattle.std.proofs.Math.Seq.{take-append_seam}
use Rattle.std.proofs.lemmas.Bool.{cases_lt}
use Rattle.std.proofs.lemmas.List.{get_or-append-add, get_or-replicate, get_or-take, get_or_past, length-replicate, take-take}
use Rattle.config_image.specs.declared.TheConstants.{ROW_WORDS}
use Rattle.config_image.specs.Image.{Group, all_member_records, group_records, image, members_begin, program_words, programs_begin}
use Rattle.config_image.specs.PageTable.{entry_word}
use Rattle.config_image.specs.Pooled.{form_word, page_entries, parts, parts_of, pooled_row}
use Rattle.config_image.specs.Walk.{words_of_programs}
use Rattle.config_image.proofs.ImageLemmas.{before_programs, image-before_programs, length-before_programs}
use Rattle.config_image.proofs.LengthLemmas.{length-all_member_records, length-group_records}
use Rattle.config_image.proofs.ProgramLemmas.{parts-by_words}
use Rattle.config_image.proofs.EntryLemmas.{entry_of_part}
use Rattle.config_image.proofs.PartsLemmas.{length-page_entries, size_of}

get_or-zeros : (n i : ℕ) → get_or {A = ℕ} (replicate n 0) i 0 ≡ 0
get_or-zeros n i = elim (cases_lt i n) [
  | inl inside ↦ get_or-replicate n i 0 0 inside
  | inr past ↦ let size = length-replicate {A = ℕ} n 0 in get_or_past (replicate n 0) i 0 (omega arith)
]

module _ (config : List Group) (pages : List ℕ) where
  abbrev entries : List ℕ
  entries = page_entries (programs_begin config) (parts config) pages

  abbrev head : List ℕ
  head = form_word config ∷ drop 1 (before_programs config)

  -- the words that are not the row's last zeros
  abbrev pub front : List ℕ
  front = head ++ entries

  before : take (programs_begin config) (image config) ≡ before_programs config
  before =
      ap (λ (ws : List ℕ). take (programs_begin config) ws) (image-before_programs config)
      ∙ ap (λ (n : ℕ). take n (before_programs config ++ program_words config)) (sym (length-before_programs config))
      ∙ take-append_seam (before_programs config) (program_words config)

  row-front : pooled_row config pages ≡ take ROW_WORDS (front ++ replicate ROW_WORDS 0)
  unfolding pooled_row
  row-front = ap (λ (ws : List ℕ). take ROW_WORDS (form_word config ∷ (drop 1 ws ++ entries ++ replicate ROW_WORDS 0))) before

  length-head : length head ≡ programs_begin config
  length-head = length-before_programs config

  pub length-front : length pages ≡ length (parts config) → length front ≡ programs_begin config + length (parts config)
  length-front counted =
      let first = length-head in
      let last = length-page_entries (programs_begin config) (parts config) pages counted in
      let both = length-append head entries in omega arith

  word_of_row : (i : ℕ) → i < ROW_WORDS → get_or (pooled_row config pages) i 0 ≡ get_or (front ++ replicate ROW_WORDS 0) i 0
  word_of_row i inside = ap (λ (ws : List ℕ). get_or ws i 0) row-front ∙ get_or-take ROW_WORDS (front ++ replicate ROW_WORDS 0) i 0 inside

  word_of_front : (i : ℕ) → i < ROW_WORDS → i < length front → get_or (pooled_row config pages) i 0 ≡ get_or front i 0
  word_of_front i inside before_zeros = word_of_row i inside ∙ get_or-append front (replicate ROW_WORDS 0) 0 i before_zeros

  pub form_of_row : get_or (pooled_row config pages) 0 0 ≡ form_word config
  form_of_row = word_of_row 0 (lit< tt)

  behind_first : (first : ℕ) (words : List ℕ) (i : ℕ) → 0 < i → get_or (first ∷ drop 1 words) i 0 ≡ get_or words i 0
  behind_first first words zero behind = absurd (omega arith)
  behind_first first [] (suc i) behind = refl
  behind_first first (word ∷ words) (suc i) behind = refl

  pub record_of_row : (i : ℕ) → 0 < i → i < programs_begin config → i < ROW_WORDS → get_or (pooled_row config pages) i 0 ≡ get_or (image config) i 0
  record_of_row i behind in_head inside =
      let size = length-head in
      let both = length-append head entries in
      let whole = length-before_programs config in
      word_of_front i inside (omega arith) ∙ get_or-append head entries 0 i (omega arith) ∙ behind_first (form_word config) (before_programs config) i behind
      ∙ sym (get_or-append (before_programs config) (program_words config) 0 i (omega arith)) ∙ ap (λ (ws : List ℕ). get_or ws i 0) (sym (image-before_programs config))

  pub entry_of_row : (k : ℕ) → length pages ≡ length (parts config) → k < length (parts config) → programs_begin config + k < ROW_WORDS
      → get_or (pooled_row config pages) (programs_begin config + k) 0 ≡ entry_word (programs_begin config + size_of (take k (parts config))) (get_or pages k 0)
  entry_of_row k counted is_part inside =
      let size = length-front counted in
      word_of_front (programs_begin config + k) inside (omega arith)
      ∙ ap (λ (n : ℕ). get_or front (n + k) 0) (sym length-head) ∙ get_or-append-add head entries k 0
      ∙ entry_of_part (programs_begin config) (parts config) pages k counted is_part

  pub zero_of_row : (i : ℕ) → length pages ≡ length (parts config) → programs_begin config + length (parts config) ≤ i → i < ROW_WORDS → get_or (pooled_row config pages) i 0 ≡ 0
  zero_of_row i counted past inside =
      let size = length-front counted in
      let split : i ≡ length front + (i - length front) = omega arith in
      word_of_row i inside ∙ ap (λ (n : ℕ). get_or (front ++ replicate ROW_WORDS 0) n 0) split
      ∙ get_or-append-add front (replicate ROW_WORDS 0) (i - length front) 0 ∙ get_or-zeros ROW_WORDS (i - length front)

  pub front_of_row : length pages ≡ length (parts config) → programs_begin config + length (parts config) ≤ ROW_WORDS
      → take (programs_begin config + length (parts config)) (pooled_row config pages) ≡ front
  front_of_row counted fits =
      let size = length-front counted in
      let n = programs_begin config + length (parts config) in
      ap (λ (ws : List ℕ). take n ws) row-front
      ∙ take-take n ROW_WORDS (front ++ replicate ROW_WORDS 0) fits
      ∙ ap (λ (m : ℕ). take m (front ++ replicate ROW_WORDS 0)) (sym size) ∙ take-append_seam front (replicate ROW_WORDS 0)

  abbrev records : List ℕ
  records = group_records (members_begin config) (programs_begin config) config

  abbrev members : List ℕ
  members = all_member_records (programs_begin config) config

  pub size_of_records : programs_begin config ≡ 2 + (length records + length members)
  size_of_records =
      let groups = length-group_records (members_begin config) (programs_begin config) config in
      let all = length-all_member_records (programs_begin config) config in omega arith

  abbrev first_words : List ℕ
  first_words = form_word config ∷ length config ∷ []

  abbrev entries_by_words : List ℕ
  entries_by_words = page_entries (programs_begin config) (flat_map parts_of (words_of_programs config)) pages

  pub row_written : (t0 t1 t2 t3 t4 : List ℕ) → length pages ≡ length (parts config) → programs_begin config + length (parts config) ≤ ROW_WORDS
      → t1 ≡ t0 ++ first_words → t2 ≡ t1 ++ records → t3 ≡ t2 ++ members → t4 ≡ t3 ++ entries_by_words
      → t4 ≡ t0 ++ take (programs_begin config + length (parts config)) (pooled_row config pages)
  row_written t0 t1 t2 t3 t4 counted fits first second third fourth =
      fourth ∙ ap (λ (all : List (List ℕ)). t3 ++ page_entries (programs_begin config) all pages) (sym (parts-by_words config))
      ∙ ap (λ (ws : List ℕ). ws ++ entries)
      (third ∙ ap (λ (ws : List ℕ). ws ++ members) (second ∙ ap (λ (ws : List ℕ). ws ++ records) first)
      ∙ append_assoc (t0 ++ first_words) records members ∙ append_assoc t0 first_words (records ++ members))
      ∙ append_assoc t0 (first_words ++ (records ++ members)) entries
      ∙ ap (λ (ws : List ℕ). t0 ++ ws) (sym (front_of_row counted fits))

  -- the entry at a place of the row, by the walk over the programs
  pub entry_word_at : (walk : List (List ℕ)) (i at part place : ℕ) → length pages ≡ length (parts config) → walk ≡ words_of_programs config → at ≡ programs_begin config
      → part + at ≡ i → part < length pages → i < ROW_WORDS → place ≡ at + size_of (take part (flat_map parts_of walk))
      → entry_word place (get_or pages part 0) ≡ get_or (pooled_row config pages) i 0
  entry_word_at walk i at part place counted walked begins stands inside in_row ends =
      let all : flat_map parts_of walk ≡ parts config = ap (λ (some : List (List ℕ)). flat_map parts_of some) walked ∙ sym (parts-by_words config) in
      let before_it = ap (λ (some : List (List ℕ)). size_of (take part some)) all in
      let begin : place ≡ programs_begin config + size_of (take part (parts config)) = omega arith in
      let same : programs_begin config + part ≡ i = omega arith in
      ap (λ (n : ℕ). entry_word n (get_or pages part 0)) begin
      ∙ sym (entry_of_row part counted (omega arith) (omega arith)) ∙ ap (λ (n : ℕ). get_or (pooled_row config pages) n 0) same
