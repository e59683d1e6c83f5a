-- What a row in the pooled form tells of the configuration and of the pages, and how many pages there are at most.
use Rattle.std.proofs.Common.{◌≡◌, ◌∙◌, ◌∷◌, ◌*◌, ◌+◌, ◌++◌, ◌-◌, ◌<◌, ◌≤◌, List, None, Option, Some, [], ap, append-nil, append_assoc, arith, drop, get_or, length, length-append, map, refl, replicate, slice_index, suc, sym, take, zero, ℕ}
use Rattle.std.specs.List.{cons_option, filter_map, slice_get, sum_by}
use Rattle.std.specs.Option.{option_to_list}
use Rattle.std.proofs.Math.Seq.{drop-append_seam, take-append-add, take-append_seam}
use Rattle.std.proofs.lemmas.List.{get_or-replicate, length-drop, length-replicate, take-replicate, take_all}
use Rattle.std.proofs.lemmas.List.Concat.{flat_map-append}
use Rattle.std.proofs.lemmas.List.Sums.{sum_by-cons}
use Rattle.std.proofs.lemmas.Option.{get_or_from_slice_get, slice_get-get_or, slice_get_within}
use Rattle.bpf_verify.specs.Program.{ProgramValue}
use Rattle.member_group.specs.declared.TheConstants.{HEAD_WORDS}
use Rattle.member_group.specs.declared.member.Member.{Member}
use Rattle.member_group.specs.Charge.{charge_of, members_of, programs_of, programs_of_group}
use Rattle.member_group.specs.Group.{IsConfig}
use Rattle.config_image.specs.declared.TheConstants.{PAGE_LIMIT, ROW_WORDS}
use Rattle.config_image.specs.Image.{Group, filter_words, group_program_words, image, program_words, programs_begin, words_of}
use Rattle.config_image.specs.PageTable.{entry_word, header_begin, header_count, header_len, page_of}
use Rattle.config_image.specs.Pooled.{ArePages, PartsStand, PooledRowTells, RowTellsItsParts, RowTellsItsPartsWithRoom, form_word, joined, page_entries, pages_for, pages_of, part_begin, parts, parts_of, pooled_row}
use Rattle.config_image.proofs.ImageLemmas.{before_programs, image-before_programs, length-before_programs}
use Rattle.config_image.proofs.LengthLemmas.{length_image, members_of-cons, within_charge}
use Rattle.config_image.proofs.PageTableLemmas.{header_parts}
use Rattle.config_image.proofs.PartsLemmas.{IsSized, at_least_one, joined-parts_of_all, length-joined, length-page_entries, length-parts_of, entry_at, pages-page_entries, pages_covered, parts_of_all, parts_of_all-sized, part_at, size_before_next, size_of, sized_part, word_of_part, words_of_all}
use Rattle.config_image.proofs.WordLemmas.{from_item, slice_get-append_add, slice_get-append_left, slice_get-append_right}

-- ---- the parts are the words of the programs

selector_words : (program : Option ProgramValue) → words_of program ≡ words_of_all (option_to_list program)
selector_words None = refl
selector_words (Some program) = sym (append-nil program.words)

filter_first : (filter : Option ProgramValue) (words : List ℕ) (programs : List ProgramValue) → words ≡ words_of_all programs → words_of filter ++ words ≡ words_of_all (cons_option filter programs)
filter_first None words programs more = more
filter_first (Some program) words programs more = ap (λ (ws : List ℕ). program.words ++ ws) more

filter_words_are : (members : List (Member ProgramValue)) → filter_words members ≡ words_of_all (filter_map (λ member. member.filter) members)
filter_words_are [] = refl
filter_words_are (member ∷ rest) = filter_first member.filter (filter_words rest) (filter_map (λ (m : Member ProgramValue). m.filter) rest) (filter_words_are rest)

group_words_are : (group : Group) → group_program_words group ≡ words_of_all (programs_of_group group)
group_words_are group =
    let filters = filter_map (λ (m : Member ProgramValue). m.filter) group.members in
    ap (λ (ws : List ℕ). ws ++ filter_words group.members) (selector_words group.selector)
    ∙ ap (λ (ws : List ℕ). words_of_all (option_to_list group.selector) ++ ws) (filter_words_are group.members)
    ∙ sym (flat_map-append (λ (program : ProgramValue). program.words) (option_to_list group.selector) filters)

program_words_are : (config : List Group) → program_words config ≡ words_of_all (programs_of config)
program_words_are [] = refl
program_words_are (group ∷ rest) =
    ap (λ (ws : List ℕ). ws ++ program_words rest) (group_words_are group)
    ∙ ap (λ (ws : List ℕ). words_of_all (programs_of_group group) ++ ws) (program_words_are rest)
    ∙ sym (flat_map-append (λ (program : ProgramValue). program.words) (programs_of_group group) (programs_of rest))

pub joined-parts : (config : List Group) → joined (parts config) ≡ program_words config
joined-parts config = joined-parts_of_all (programs_of config) ∙ sym (program_words_are config)

size_of-parts : (config : List Group) → size_of (parts config) ≡ length (program_words config)
size_of-parts config = sym (length-joined (parts config)) ∙ ap length (joined-parts config)

-- ---- how many pages there are

abbrev charges : List ProgramValue → ℕ
charges programs = sum_by (λ program. program.charge) programs

length-parts_of_all : (program : ProgramValue) (rest : List ProgramValue) → length (parts_of_all (program ∷ rest)) ≡ pages_for (length program.words) + length (parts_of_all rest)
length-parts_of_all program rest = length-append (parts_of program.words) (parts_of_all rest) ∙ ap (λ (n : ℕ). n + length (parts_of_all rest)) (length-parts_of program.words)

-- the pages of an optional program, then those of further ones
pages_first : (program : Option ProgramValue) (rest : List ProgramValue) → length (parts_of_all (cons_option program rest)) ≡ pages_for (length (words_of program)) + length (parts_of_all rest)
pages_first None rest = omega arith
pages_first (Some program) rest = length-parts_of_all program rest

option_pages : (program : Option ProgramValue) → length (parts_of_all (option_to_list program)) ≡ pages_for (length (words_of program))
option_pages None = omega arith
option_pages (Some program) = let one = length-parts_of_all program [] in omega arith

filter_pages_are : (members : List (Member ProgramValue)) → length (parts_of_all (filter_map (λ member. member.filter) members)) ≡ sum_by (λ member. pages_for (length (words_of member.filter))) members
filter_pages_are [] = refl
filter_pages_are (member ∷ rest) =
    let first = pages_first member.filter (filter_map (λ (m : Member ProgramValue). m.filter) rest) in
    let more = filter_pages_are rest in
    let sum = sum_by-cons (λ (m : Member ProgramValue). pages_for (length (words_of m.filter))) member rest in
    omega arith

-- how many pages a group's programs take
abbrev pub group_pages : Group → ℕ
group_pages group = pages_for (length (words_of group.selector)) + sum_by (λ member. pages_for (length (words_of member.filter))) group.members

group_pages_are : (group : Group) → length (parts_of_all (programs_of_group group)) ≡ group_pages group
group_pages_are group =
    let filters = filter_map (λ (m : Member ProgramValue). m.filter) group.members in
    let split = ap length (flat_map-append (λ (program : ProgramValue). parts_of program.words) (option_to_list group.selector) filters) in
    let both = length-append (parts_of_all (option_to_list group.selector)) (parts_of_all filters) in
    let selector = option_pages group.selector in
    let rest = filter_pages_are group.members in
    omega arith

pub length-parts-cons : (group : Group) (rest : List Group) → length (parts (group ∷ rest)) ≡ group_pages group + length (parts rest)
length-parts-cons group rest =
    let split = ap length (flat_map-append (λ (program : ProgramValue). parts_of program.words) (programs_of_group group) (programs_of rest)) in
    let both = length-append (parts_of_all (programs_of_group group)) (parts rest) in
    let first = group_pages_are group in
    omega arith

-- the pages from the group at an index on
pub pages_from : (config : List Group) (i : ℕ) (group : Group) → i < length config → group ≡ get_or config i group → length (parts (drop i config)) ≡ group_pages group + length (parts (drop (i + 1) config))
pages_from config i group inside is = from_item (λ (rest : List Group). length (parts rest)) config i group inside is ∙ length-parts-cons group (drop (i + 1) config)

-- the pages of the filters from the member at an index on
pub filter_pages_from : (members : List (Member ProgramValue)) (i : ℕ) (member : Member ProgramValue) → i < length members → member ≡ get_or members i member
    → sum_by (λ m. pages_for (length (words_of m.filter))) (drop i members) ≡ pages_for (length (words_of member.filter)) + sum_by (λ m. pages_for (length (words_of m.filter))) (drop (i + 1) members)
filter_pages_from members i member inside is =
    let pages = λ (m : Member ProgramValue). pages_for (length (words_of m.filter)) in
    from_item (sum_by pages) members i member inside is ∙ sum_by-cons pages member (drop (i + 1) members)

pub counted_parts : (programs : List ProgramValue) → length (parts_of_all programs) ≡ sum_by (λ (program : ProgramValue). pages_for (length program.words)) programs
counted_parts [] = refl
counted_parts (program ∷ rest) =
    let first = length-parts_of_all program rest in
    let more = counted_parts rest in
    let sum = sum_by-cons (λ (p : ProgramValue). pages_for (length p.words)) program rest in
    omega arith

-- four times the pages are not more than the programs' words, and three for each program that there may be
filters_pages : (members : List (Member ProgramValue)) → 4 * sum_by (λ member. pages_for (length (words_of member.filter))) members ≤ length (filter_words members) + 3 * length members
filters_pages [] = omega arith
filters_pages (member ∷ rest) =
    let sum = sum_by-cons (λ (m : Member ProgramValue). pages_for (length (words_of m.filter))) member rest in
    let words = length-append (words_of member.filter) (filter_words rest) in
    let first = pages_covered (length (words_of member.filter)) in
    let more = filters_pages rest in
    omega arith

group_pages_covered : (group : Group) → 4 * group_pages group ≤ length (group_program_words group) + 3 + 3 * length group.members
group_pages_covered group =
    let selector = pages_covered (length (words_of group.selector)) in
    let filters = filters_pages group.members in
    let words = length-append (words_of group.selector) (filter_words group.members) in
    omega arith

groups_pages_covered : (config : List Group) → 4 * length (parts config) ≤ length (program_words config) + 3 * length config + 3 * members_of config
groups_pages_covered [] = omega arith
groups_pages_covered (group ∷ rest) =
    let first = group_pages_covered group in
    let more = groups_pages_covered rest in
    let pages = length-parts-cons group rest in
    let members = members_of-cons group rest in
    let words = length-append (group_program_words group) (program_words rest) in
    omega arith

-- a page costs at least four words of the image, beside the words at the head
pub pages_cost : (config : List Group) → HEAD_WORDS + 4 * length (parts config) ≤ length (image config)
pages_cost config = let covered = groups_pages_covered config in let size = length_image config in omega arith

pub few_in_row : (config : List Group) → length (image config) ≤ ROW_WORDS → length (parts config) ≤ PAGE_LIMIT
few_in_row config fits = let cost = pages_cost config in omega arith

pub few_pages : (config : List Group) → IsConfig config → charge_of config ≤ ROW_WORDS → length (parts config) ≤ PAGE_LIMIT
few_pages config is_config charged = let within = within_charge config is_config in few_in_row config (omega arith)

-- ---- where the parts stand in the image

sized_parts : (config : List Group) (index : ℕ) (part : List ℕ) → slice_get (parts config) index ≡ Some part → IsSized part
sized_parts config index part there = sized_part (parts config) index part (parts_of_all-sized (programs_of config)) there

word_of_image_part : (config : List Group) (index k x : ℕ) (part : List ℕ) → slice_get (parts config) index ≡ Some part → slice_get part k ≡ Some x
    → slice_get (image config) (part_begin config index + k) ≡ Some x
word_of_image_part config index k x part there word =
    let place = size_of (take index (parts config)) + k in
    let begin = length-before_programs config in
    let at : part_begin config index + k ≡ length (before_programs config) + place = omega arith in
    ap (λ (ws : List ℕ). slice_get ws (part_begin config index + k)) (image-before_programs config)
    ∙ ap (slice_get (before_programs config ++ program_words config)) at
    ∙ slice_get-append_add (before_programs config) (program_words config) place
    ∙ ap (λ (ws : List ℕ). slice_get ws place) (sym (joined-parts config))
    ∙ word_of_part (parts config) index k x part there word

-- the part that holds a place of the image, and the word there
part_of_place : (config : List Group) (i : ℕ) → programs_begin config ≤ i → i < length (image config)
    → (index : ℕ) × (index < length (parts config)) × (part_begin config index ≤ i) × (i < part_begin config (index + 1))
part_of_place config i behind inside =
    let all = size_of-parts config in
    let whole = length_image config in
    let at = part_at (parts config) (i - programs_begin config) (omega arith) in
    let inside_parts = at.1 in let begun = at.2 in let ends = at.3 in
    let next : at.0 + 1 ≡ suc at.0 = omega arith in
    let same = ap (λ (n : ℕ). size_of (take n (parts config))) next in
    (at.0, omega arith, omega arith, omega arith)

word_of_place : (config : List Group) (index i : ℕ) → index < length (parts config) → part_begin config index ≤ i → i < part_begin config (index + 1)
    → (part : List ℕ) × (slice_get (parts config) index ≡ Some part) × (i - part_begin config index < length part)
    × (slice_get (image config) i ≡ slice_get part (i - part_begin config index))
word_of_place config index i inside begun ends =
    let part = get_or (parts config) index [] in
    let there = slice_get-get_or (parts config) index [] inside in
    let step = size_before_next (parts config) index part there in
    let k = i - part_begin config index in
    let below : k < length part = omega arith in
    let word = slice_get-get_or part k 0 below in
    let at : i ≡ part_begin config index + k = omega arith in
    (part, there, below, ap (slice_get (image config)) at ∙ word_of_image_part config index k (get_or part k 0) part there word ∙ sym word)

pub parts_stand : (config : List Group) → PartsStand config
parts_stand config =
    let all = size_of-parts config in
    let whole = length_image config in
    record {
      first = omega arith;
      next = λ index part there. let step = size_before_next (parts config) index part there in omega arith;
      last = let taken = ap size_of (take_all (length (parts config)) (parts config) (omega arith)) in omega arith;
      sized = sized_parts config;
      words = word_of_image_part config;
      counted = counted_parts (programs_of config);
      few = pages_cost config;
      covered = part_of_place config;
      found = word_of_place config;
    }

-- ---- the words of a row

-- words of which the first is another one
other_first : (word : ℕ) (words : List ℕ) (i : ℕ) → 0 < i → slice_get (word ∷ drop 1 words) i ≡ slice_get words i
other_first word words zero behind = absurd (omega arith)
other_first word [] (suc i) behind = refl
other_first word (first ∷ words) (suc i) behind = refl

padded : (words : List ℕ) (room : ℕ) → length words ≤ room → take room (words ++ replicate room 0) ≡ words ++ replicate (room - length words) 0
padded words room fits =
    let rest = room - length words in
    let split : room ≡ length words + rest = omega arith in
    ap (λ (n : ℕ). take n (words ++ replicate room 0)) split
    ∙ take-append-add words (replicate room 0) rest
    ∙ ap (λ (ws : List ℕ). words ++ ws) (take-replicate rest room 0 (omega arith))

module _ (config : List Group) where
  abbrev front : List ℕ
  front = form_word config ∷ drop 1 (take (programs_begin config) (image config))

  front-before_programs : take (programs_begin config) (image config) ≡ before_programs config
  front-before_programs =
      let size = length-before_programs config in
      ap (take (programs_begin config)) (image-before_programs config)
      ∙ ap (λ (n : ℕ). take n (before_programs config ++ program_words config)) (sym size)
      ∙ take-append_seam (before_programs config) (program_words config)

  length-front : length front ≡ programs_begin config
  length-front =
      let taken = ap length front-before_programs in
      let size = length-before_programs config in
      let less = length-drop 1 (take (programs_begin config) (image config)) in
      omega arith

  word_of_front : (i : ℕ) → 0 < i → i < programs_begin config → slice_get front i ≡ slice_get (image config) i
  word_of_front i behind before =
      let size = length-before_programs config in
      other_first (form_word config) (take (programs_begin config) (image config)) i behind
      ∙ ap (λ (ws : List ℕ). slice_get ws i) front-before_programs
      ∙ sym (ap (λ (ws : List ℕ). slice_get ws i) (image-before_programs config) ∙ slice_get-append_left (before_programs config) (program_words config) i (omega arith))

  -- each part has a word at least
  parts_inside : programs_begin config + length (parts config) ≤ length (image config)
  parts_inside =
      let words = size_of-parts config in
      let size = length_image config in
      let more = at_least_one (parts config) (parts_of_all-sized (programs_of config)) in
      omega arith

module _ (config : List Group) (pages : List ℕ) (image_short : length (image config) ≤ ROW_WORDS) (are : ArePages config pages) where
  abbrev entries : List ℕ
  entries = page_entries (programs_begin config) (parts config) pages

  length-entries : length entries ≡ length (parts config)
  length-entries = length-page_entries (programs_begin config) (parts config) pages are.counted

  length-written : length (front config ++ entries) ≡ programs_begin config + length (parts config)
  length-written = let all = length-append (front config) entries in let first = length-front config in let rest = length-entries in omega arith

  row-padded : pooled_row config pages ≡ (front config ++ entries) ++ replicate (ROW_WORDS - length (front config ++ entries)) 0
  unfolding pooled_row
  row-padded =
      let written = length-written in let inside = parts_inside config in
      padded (front config ++ entries) ROW_WORDS (omega arith)

  abbrev zeros_behind : List ℕ
  zeros_behind = replicate (ROW_WORDS - length (front config ++ entries)) 0

  word_written : (i : ℕ) → i < programs_begin config + length (parts config) → slice_get (pooled_row config pages) i ≡ slice_get (front config ++ entries) i
  word_written i inside =
      let written = length-written in
      ap (λ (ws : List ℕ). slice_get ws i) row-padded ∙ slice_get-append_left (front config ++ entries) zeros_behind i (omega arith)

  row-whole : length (pooled_row config pages) ≡ ROW_WORDS
  row-whole =
      let written = length-written in let inside = parts_inside config in
      let zeros = length-replicate {A = ℕ} (ROW_WORDS - length (front config ++ entries)) 0 in
      ap length row-padded ∙ length-append (front config ++ entries) zeros_behind ∙ omega arith

  row-form : slice_get (pooled_row config pages) 0 ≡ Some (form_word config)
  row-form = ap (λ (ws : List ℕ). slice_get ws 0) row-padded

  row-image : (i : ℕ) → 0 < i → i < programs_begin config → slice_get (pooled_row config pages) i ≡ slice_get (image config) i
  row-image i behind before =
      let size = length-front config in
      word_written i (omega arith) ∙ slice_get-append_left (front config) entries i (omega arith) ∙ word_of_front config i behind before

  row-entry : (index page : ℕ) → slice_get pages index ≡ Some page
      → slice_get (pooled_row config pages) (programs_begin config + index) ≡ Some (entry_word (part_begin config index) page)
  row-entry index page there =
      let inside = slice_get_within pages index page there in
      let counted = are.counted in
      let size = length-front config in
      let place : programs_begin config + index ≡ length (front config) + index = omega arith in
      word_written (programs_begin config + index) (omega arith)
      ∙ ap (slice_get (front config ++ entries)) place
      ∙ slice_get-append_add (front config) entries index
      ∙ entry_at (programs_begin config) (parts config) pages index page counted there

  row-zero : (i : ℕ) → programs_begin config + length (parts config) ≤ i → i < ROW_WORDS → slice_get (pooled_row config pages) i ≡ Some 0
  row-zero i behind inside =
      let written = length-written in
      let zeros = ROW_WORDS - length (front config ++ entries) in
      let place = i - length (front config ++ entries) in
      let below : place < zeros = omega arith in
      let count = length-replicate {A = ℕ} zeros 0 in
      ap (λ (ws : List ℕ). slice_get ws i) row-padded
      ∙ slice_get-append_right (front config ++ entries) zeros_behind i (omega arith)
      ∙ slice_get-get_or zeros_behind place 0 (omega arith)
      ∙ ap (λ (n : ℕ). Some n) (get_or-replicate zeros place 0 0 below)

  few : length (parts config) ≤ PAGE_LIMIT
  few = few_in_row config image_short

  form_cut : (header_len (form_word config) ≡ length (image config)) × (header_begin (form_word config) ≡ programs_begin config) × (header_count (form_word config) ≡ length (parts config))
  form_cut =
      let inside = parts_inside config in
      header_parts (length (image config)) (programs_begin config) (length (parts config)) (omega arith) (omega arith)

  row-pages : pages_of (pooled_row config pages) ≡ pages
  row-pages =
      let first : slice_index (pooled_row config pages) 0 ≡ form_word config = get_or_from_slice_get (pooled_row config pages) 0 (form_word config) 0 row-form in
      let begin : header_begin (slice_index (pooled_row config pages) 0) ≡ length (front config) = ap header_begin first ∙ form_cut.1 ∙ sym (length-front config) in
      let count : header_count (slice_index (pooled_row config pages) 0) ≡ length entries = ap header_count first ∙ form_cut.2 ∙ sym length-entries in
      let split : pooled_row config pages ≡ front config ++ (entries ++ zeros_behind) = row-padded ∙ append_assoc (front config) entries zeros_behind in
      let behind : drop (length (front config)) (pooled_row config pages) ≡ entries ++ zeros_behind = ap (drop (length (front config))) split ∙ drop-append_seam (front config) (entries ++ zeros_behind) in
      let named : take (length entries) (drop (length (front config)) (pooled_row config pages)) ≡ entries = ap (take (length entries)) behind ∙ take-append_seam entries zeros_behind in
      ap (λ (n : ℕ). map page_of (take n (drop (header_begin (slice_index (pooled_row config pages) 0)) (pooled_row config pages)))) count
      ∙ ap (λ (n : ℕ). map page_of (take (length entries) (drop n (pooled_row config pages)))) begin
      ∙ ap (map page_of) named
      ∙ pages-page_entries (programs_begin config) (parts config) pages are.counted are.below

  told : PooledRowTells config pages
  told = record {
    whole = row-whole;
    form = row-form;
    length_part = form_cut.0;
    begin_part = form_cut.1;
    count_part = form_cut.2;
    short = image_short;
    few = few;
    inside = parts_inside config;
    image_words = row-image;
    entries = row-entry;
    zeros = row-zero;
    pages_are = row-pages;
    parts_stand = parts_stand config;
  }

pub row_tells_with_room : RowTellsItsPartsWithRoom
row_tells_with_room config pages fits are = told config pages fits are

pub row_tells : RowTellsItsParts
row_tells config pages is_config charged are = let within = within_charge config is_config in row_tells_with_room config pages (omega arith) are
