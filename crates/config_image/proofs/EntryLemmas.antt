-- The parts of programs, one behind the other, and their page table entries.
use Rattle.std.proofs.Common.{◌≡◌, ◌∙◌, ◌∷◌, ◌+◌, ◌++◌, ◌-◌, ◌*◌, ◌<◌, ◌≤◌, Fits, List, [], ap, arith, drop, get_or, length, length-append, refl, subst, suc, sym, take, w64, zero, ℕ}
use Rattle.std.specs.List.{flat_map}
use Rattle.std.proofs.Math.Seq.{take-append-add}
use Rattle.std.proofs.lemmas.List.{at_drop_all, length-drop, length-take-le, take-append-drop, take-append-le}
use Rattle.std.proofs.lemmas.List.Concat.{flat_map-cons}
use Rattle.std.proofs.lemmas.List.Sums.{sum_by-append, sum_by-cons, sum_by-take-le}
use Rattle.config_image.specs.declared.TheConstants.{PAGE_WORDS}
use Rattle.config_image.specs.declared.word.TheConstants.{PLACE_LIMIT}
use Rattle.std.proofs.lemmas.Option.{get_or_from_slice_get, slice_get-get_or}
use Rattle.config_image.specs.PageTable.{entry_word}
use Rattle.config_image.specs.Pooled.{page_entries, pages_for, parts_from, parts_of}
use Rattle.config_image.proofs.PartsLemmas.{length-page_entries, length-parts_of, entry_at, size_of}
use Rattle.config_image.proofs.WritingLemmas.{IsWriting, writing_first, writing_last, writing_piece, writing_room}

pub size_of-cons : (first : List ℕ) (rest : List (List ℕ)) → size_of (first ∷ rest) ≡ length first + size_of rest
size_of-cons first rest = sum_by-cons (λ (words : List ℕ). length words) first rest

pub size_of-append : (first rest : List (List ℕ)) → size_of (first ++ rest) ≡ size_of first + size_of rest
size_of-append first rest = sum_by-append (λ (words : List ℕ). length words) first rest

-- ---- the parts of one program

words_of_parts_from : (n : ℕ) (words : List ℕ) → length words ≤ n * PAGE_WORDS → size_of (parts_from n words) ≡ length words
words_of_parts_from zero words fits = omega arith
words_of_parts_from (suc n) words fits =
    let left = length-drop PAGE_WORDS words in
    let more = words_of_parts_from n (drop PAGE_WORDS words) (omega arith) in
    let sum = size_of-cons (take PAGE_WORDS words) (parts_from n (drop PAGE_WORDS words)) in
    let both = length-append (take PAGE_WORDS words) (drop PAGE_WORDS words) in
    let whole = ap (λ (ws : List ℕ). length ws) (take-append-drop PAGE_WORDS words) in omega arith

pub words_of_parts : (words : List ℕ) → size_of (parts_of words) ≡ length words
words_of_parts words = words_of_parts_from (pages_for (length words)) words (omega arith)

-- all parts before a part are full
full_parts_from : (n left : ℕ) (words : List ℕ) → left ≤ n → left * PAGE_WORDS ≤ length words → size_of (take left (parts_from n words)) ≡ left * PAGE_WORDS
full_parts_from n zero words few inside = omega arith
full_parts_from zero (suc left) words few inside = absurd (omega arith)
full_parts_from (suc n) (suc left) words few inside =
    let rest = length-drop PAGE_WORDS words in
    let first = length-take-le PAGE_WORDS words (omega arith) in
    let more = full_parts_from n left (drop PAGE_WORDS words) (omega arith) (omega arith) in
    let sum = size_of-cons (take PAGE_WORDS words) (take left (parts_from n (drop PAGE_WORDS words))) in omega arith

pub full_parts : (words : List ℕ) (left : ℕ) → left < pages_for (length words) → size_of (take left (parts_of words)) ≡ left * PAGE_WORDS
full_parts words left inside = full_parts_from (pages_for (length words)) left words (omega arith) (omega arith)

-- ---- the parts of all programs

pub parts_of_more : (words : List ℕ) (rest : List (List ℕ)) → flat_map parts_of (words ∷ rest) ≡ parts_of words ++ flat_map parts_of rest
parts_of_more words rest = flat_map-cons parts_of words rest

pub length-parts_of_all : (words : List ℕ) (rest : List (List ℕ)) → length (flat_map parts_of (words ∷ rest)) ≡ pages_for (length words) + length (flat_map parts_of rest)
length-parts_of_all words rest =
    ap (λ (parts : List (List ℕ)). length parts) (parts_of_more words rest) ∙ length-append (parts_of words) (flat_map parts_of rest)
    ∙ ap (λ (n : ℕ). n + length (flat_map parts_of rest)) (length-parts_of words)

-- each part has a word at least
pub no_more_parts_than_words : (programs : List (List ℕ)) → length (flat_map parts_of programs) ≤ size_of programs
no_more_parts_than_words [] = omega arith
no_more_parts_than_words (words ∷ rest) =
    let more = no_more_parts_than_words rest in
    let count = length-parts_of_all words rest in
    let sum = size_of-cons words rest in
    let few : pages_for (length words) ≤ length words = omega arith in omega arith

-- ---- page table entries

abbrev pub entries_from : ℕ → List ℕ → List ℕ
entries_from place [] = []
entries_from place (page ∷ rest) = entry_word place page ∷ entries_from (place + PAGE_WORDS) rest

pub length-entries_from : (place : ℕ) (pages : List ℕ) → length (entries_from place pages) ≡ length pages
length-entries_from place [] = refl
length-entries_from place (page ∷ rest) = let more = length-entries_from (place + PAGE_WORDS) rest in omega arith

entries_of_parts_from : (n : ℕ) (words : List ℕ) (place : ℕ) (pages : List ℕ) → n * PAGE_WORDS < length words + PAGE_WORDS → n ≤ length pages
    → page_entries place (parts_from n words) pages ≡ entries_from place (take n pages)
entries_of_parts_from zero words place pages few enough = refl
entries_of_parts_from (suc n) words place [] few enough = absurd (omega arith)
entries_of_parts_from (suc zero) words place (page ∷ rest) few enough = refl
entries_of_parts_from (suc (suc n)) words place (page ∷ rest) few enough =
    let left = length-drop PAGE_WORDS words in
    let first = length-take-le PAGE_WORDS words (omega arith) in
    let more = entries_of_parts_from (suc n) (drop PAGE_WORDS words) (place + PAGE_WORDS) rest (omega arith) (omega arith) in
    ap (λ (m : ℕ). entry_word place page ∷ page_entries (place + m) (parts_from (suc n) (drop PAGE_WORDS words)) rest) first
    ∙ ap (λ (entries : List ℕ). entry_word place page ∷ entries) more

pub entries_of_program : (words : List ℕ) (place : ℕ) (pages : List ℕ) → pages_for (length words) ≤ length pages
    → page_entries place (parts_of words) pages ≡ entries_from place (take (pages_for (length words)) pages)
entries_of_program words place pages enough = entries_of_parts_from (pages_for (length words)) words place pages (omega arith) enough

-- the entries of some parts, and of those behind them
entries-append : (first rest : List (List ℕ)) (place : ℕ) (pages : List ℕ) → length first ≤ length pages
    → page_entries place (first ++ rest) pages ≡ page_entries place first pages ++ page_entries (place + size_of first) rest (drop (length first) pages)
entries-append [] rest place pages enough = let same : place ≡ place + 0 = omega arith in ap (λ (n : ℕ). page_entries n rest pages) same
entries-append (part ∷ first) rest place [] enough = absurd (omega arith)
entries-append (part ∷ first) rest place (page ∷ pages) enough =
    let more = entries-append first rest (place + length part) pages (omega arith) in
    let sum = size_of-cons part first in
    let same : place + length part + size_of first ≡ place + size_of (part ∷ first) = omega arith in
    ap (λ (entries : List ℕ). entry_word place page ∷ entries) more
    ∙ ap (λ (n : ℕ). entry_word place page ∷ (page_entries (place + length part) first pages ++ page_entries n rest (drop (length first) pages))) same

pub entries_of_more : (words : List ℕ) (rest : List (List ℕ)) (place : ℕ) (pages : List ℕ) → pages_for (length words) ≤ length pages
    → page_entries place (flat_map parts_of (words ∷ rest)) pages
    ≡ page_entries place (parts_of words) pages ++ page_entries (place + length words) (flat_map parts_of rest) (drop (pages_for (length words)) pages)
entries_of_more words rest place pages enough =
    let count = length-parts_of words in
    ap (λ (parts : List (List ℕ)). page_entries place parts pages) (parts_of_more words rest)
    ∙ entries-append (parts_of words) (flat_map parts_of rest) place pages (omega arith)
    ∙ ap (λ (n : ℕ). page_entries place (parts_of words) pages ++ page_entries (place + n) (flat_map parts_of rest) (drop (length (parts_of words)) pages)) (words_of_parts words)
    ∙ ap (λ (n : ℕ). page_entries place (parts_of words) pages ++ page_entries (place + length words) (flat_map parts_of rest) (drop n pages)) count

-- the entry of a part: its page, and the place where the parts before it end
pub entry_of_part : (place : ℕ) (parts : List (List ℕ)) (pages : List ℕ) (k : ℕ) → length pages ≡ length parts → k < length parts
    → get_or (page_entries place parts pages) k 0 ≡ entry_word (place + size_of (take k parts)) (get_or pages k 0)
entry_of_part place parts pages k counted inside =
    let page = get_or pages k 0 in
    get_or_from_slice_get (page_entries place parts pages) k (entry_word (place + size_of (take k parts)) page) 0 (entry_at place parts pages k page counted (slice_get-get_or pages k 0 (omega arith)))

-- the place of a part of the first program, or of one behind it
pub part_of_first : (words : List ℕ) (rest : List (List ℕ)) (k : ℕ) → k < pages_for (length words) → size_of (take k (flat_map parts_of (words ∷ rest))) ≡ k * PAGE_WORDS
part_of_first words rest k inside =
    let count = length-parts_of words in
    ap (λ (parts : List (List ℕ)). size_of (take k parts)) (parts_of_more words rest)
    ∙ ap size_of (take-append-le k (parts_of words) (flat_map parts_of rest) (omega arith)) ∙ full_parts words k inside

pub part_of_rest : (words : List ℕ) (rest : List (List ℕ)) (k : ℕ) → pages_for (length words) ≤ k
    → size_of (take k (flat_map parts_of (words ∷ rest))) ≡ length words + size_of (take (k - pages_for (length words)) (flat_map parts_of rest))
part_of_rest words rest k past =
    let count = length-parts_of words in
    let split : k ≡ length (parts_of words) + (k - pages_for (length words)) = omega arith in
    ap (λ (parts : List (List ℕ)). size_of (take k parts)) (parts_of_more words rest)
    ∙ ap (λ (n : ℕ). size_of (take n (parts_of words ++ flat_map parts_of rest))) split
    ∙ ap size_of (take-append-add (parts_of words) (flat_map parts_of rest) (k - pages_for (length words)))
    ∙ size_of-append (parts_of words) (take (k - pages_for (length words)) (flat_map parts_of rest))
    ∙ ap (λ (n : ℕ). n + size_of (take (k - pages_for (length words)) (flat_map parts_of rest))) (words_of_parts words)

-- the entries of one program, put into a sink page by page
pub entries_written : (taken_first taken : List ℕ) (room_first room : ℕ) (words own pages : List ℕ) (place at i n : ℕ)
    → IsWriting taken_first room_first taken room (entries_from at (drop i own)) (entries_from place own) → length own ≤ i
    → own ≡ take n pages → n ≡ pages_for (length words) → pages_for (length words) ≤ length pages
    → (taken ≡ taken_first ++ page_entries place (parts_of words) pages) × (room + pages_for (length words) ≡ room_first)
entries_written taken_first taken room_first room words own pages place at i n writing all front counted enough =
    let none : entries_from at (drop i own) ≡ [] = at_drop_all (λ (rest : List ℕ). entries_from at rest) own i all in
    let last = writing_last taken_first room_first taken room (entries_from place own) (subst (λ (left : List ℕ). IsWriting taken_first room_first taken room left (entries_from place own)) none writing) in
    let entries : page_entries place (parts_of words) pages ≡ entries_from place own = entries_of_program words place pages enough ∙ ap (λ (m : ℕ). entries_from place (take m pages)) (sym counted) ∙ ap (entries_from place) (sym front) in
    let size = length-entries_from place own in
    let taken_len = length-take-le n pages (omega arith) in
    let own_len = ap length front in
    let left = last.1 in
    (last.0 ∙ ap (λ (ns : List ℕ). taken_first ++ ns) (sym entries), omega arith)

-- ---- walking over programs: these are left, and then those behind the first

pub words_of_all_parts : (programs : List (List ℕ)) → size_of (flat_map parts_of programs) ≡ size_of programs
words_of_all_parts [] = refl
words_of_all_parts (words ∷ rest) =
    let more = words_of_all_parts rest in
    let own = words_of_parts words in
    let sum = size_of-cons words rest in
    ap size_of (parts_of_more words rest) ∙ size_of-append (parts_of words) (flat_map parts_of rest) ∙ omega arith

pub before_part : (k : ℕ) (programs : List (List ℕ)) → size_of (take k (flat_map parts_of programs)) ≤ size_of programs
before_part k programs =
    let some = sum_by-take-le (λ (words : List ℕ). length words) (flat_map parts_of programs) k in
    let all = words_of_all_parts programs in omega arith

pub place_fits : (place : ℕ) → place ≤ PLACE_LIMIT → Fits w64 place
place_fits place fits = omega arith

pub no_part_left : (programs : List (List ℕ)) (left : ℕ) → programs ≡ [] → left < length (flat_map parts_of programs) → ⊥
no_part_left programs left none inside =
    let count = ap (λ (some : List (List ℕ)). length (flat_map parts_of some)) none in omega arith

module _ (programs rest : List (List ℕ)) (words : List ℕ) (step : programs ≡ words ∷ rest) where
  count_of_parts : length (flat_map parts_of programs) ≡ pages_for (length words) + length (flat_map parts_of rest)
  count_of_parts = ap (λ (all : List (List ℕ)). length (flat_map parts_of all)) step ∙ length-parts_of_all words rest

  pub size_step : (place total : ℕ) → place + size_of programs ≡ total → place + length words + size_of rest ≡ total
  size_step place total sum =
      let first = ap size_of step in
      let both = size_of-cons words rest in omega arith

  pub first_fits : (place total limit : ℕ) → place + size_of programs ≡ total → total ≤ limit → (length words ≤ limit) × (place + length words ≤ limit)
  first_fits place total limit sum fits = let next = size_step place total sum in (omega arith, omega arith)

  pub part_fits : (left n place total limit : ℕ) → n ≡ pages_for (length words) → left < n → place + size_of programs ≡ total → total ≤ limit
      → (left * PAGE_WORDS ≤ limit) × (place + left * PAGE_WORDS ≤ limit)
  part_fits left n place total limit counted inside sum fits = let whole = first_fits place total limit sum fits in (omega arith, omega arith)

  pub place_in_first : (left n place goal : ℕ) → n ≡ pages_for (length words) → left < n → place + size_of (take left (flat_map parts_of programs)) ≡ goal → place + left * PAGE_WORDS ≡ goal
  place_in_first left n place goal counted inside so_far =
      let first = ap (λ (all : List (List ℕ)). size_of (take left (flat_map parts_of all))) step in
      let here = part_of_first words rest left (omega arith) in omega arith

  pub place_behind : (left n place goal : ℕ) → n ≡ pages_for (length words) → n ≤ left → place + size_of (take left (flat_map parts_of programs)) ≡ goal
      → place + length words + size_of (take (left - n) (flat_map parts_of rest)) ≡ goal
  place_behind left n place goal counted past so_far =
      let first = ap (λ (all : List (List ℕ)). size_of (take left (flat_map parts_of all))) step in
      let here = part_of_rest words rest left (omega arith) in
      let same = ap (λ (m : ℕ). size_of (take (left - m) (flat_map parts_of rest))) counted in omega arith

  pub left_behind : (left n : ℕ) → n ≡ pages_for (length words) → n ≤ left → left < length (flat_map parts_of programs) → left - n < length (flat_map parts_of rest)
  left_behind left n counted past inside = let count = count_of_parts in omega arith

  pub entries_enough : (pages : List ℕ) → length pages ≡ length (flat_map parts_of programs) → pages_for (length words) ≤ length pages
  entries_enough pages counted = let count = count_of_parts in omega arith

  module _ (taken_first : List ℕ) (room_first : ℕ) (taken : List ℕ) (room place : ℕ) (pages all : List ℕ) (counted : length pages ≡ length (flat_map parts_of programs)) (writing : IsWriting taken_first room_first taken room (page_entries place (flat_map parts_of programs) pages) all) where
    enough : pages_for (length words) ≤ length pages
    enough = entries_enough pages counted

    abbrev piece : List ℕ
    piece = page_entries place (parts_of words) pages

    abbrev behind : List ℕ
    behind = page_entries (place + length words) (flat_map parts_of rest) (drop (pages_for (length words)) pages)

    split : page_entries place (flat_map parts_of programs) pages ≡ piece ++ behind
    split = ap (λ (some : List (List ℕ)). page_entries place (flat_map parts_of some) pages) step ∙ entries_of_more words rest place pages enough

    length-piece : length piece ≡ pages_for (length words)
    length-piece =
        let few = enough in
        ap length (entries_of_program words place pages few) ∙ length-entries_from place (take (pages_for (length words)) pages) ∙ length-take-le (pages_for (length words)) pages few

    pub entries_room : pages_for (length words) ≤ room
    entries_room =
        let size = length-piece in
        let fits = writing_room taken_first room_first taken room (page_entries place (flat_map parts_of programs) pages) all writing piece behind split in omega arith

    pub entries_step : (taken' : List ℕ) (room' : ℕ) (pages' : List ℕ) → pages' ≡ drop (pages_for (length words)) pages → taken' ≡ taken ++ piece → room' + pages_for (length words) ≡ room
        → IsWriting taken_first room_first taken' room' (page_entries (place + length words) (flat_map parts_of rest) pages') all × (length pages' ≡ length (flat_map parts_of rest))
    entries_step taken' room' pages' dropped put less =
        let size = length-piece in
        let count = count_of_parts in
        let few = enough in
        let left = length-drop (pages_for (length words)) pages in
        let same = ap length dropped in
        let next = writing_piece taken_first room_first taken room (page_entries place (flat_map parts_of programs) pages) all writing piece behind split taken' room' put (omega arith) in (
          subst (λ (some : List ℕ). IsWriting taken_first room_first taken' room' (page_entries (place + length words) (flat_map parts_of rest) some) all) (sym dropped) next,
          omega arith,
        )

pub entries_first : (taken : List ℕ) (room place : ℕ) (programs walk : List (List ℕ)) (pages : List ℕ) → walk ≡ programs → length pages ≡ length (flat_map parts_of programs) → length pages ≤ room
    → IsWriting taken room taken room (page_entries place (flat_map parts_of walk) pages) (page_entries place (flat_map parts_of programs) pages)
entries_first taken room place programs walk pages same counted fits =
    let size = length-page_entries place (flat_map parts_of programs) pages counted in
    subst (λ (some : List (List ℕ)). IsWriting taken room taken room (page_entries place (flat_map parts_of some) pages) (page_entries place (flat_map parts_of programs) pages)) (sym same)
    (writing_first taken room (page_entries place (flat_map parts_of programs) pages) (omega arith))

pub entries_last : (taken_first : List ℕ) (room_first : ℕ) (taken : List ℕ) (room place at : ℕ) (programs walk : List (List ℕ)) (left pages : List ℕ) → walk ≡ [] → length pages ≡ length (flat_map parts_of programs)
    → IsWriting taken_first room_first taken room (page_entries at (flat_map parts_of walk) left) (page_entries place (flat_map parts_of programs) pages)
    → (taken ≡ taken_first ++ page_entries place (flat_map parts_of programs) pages) × (room + length pages ≡ room_first)
entries_last taken_first room_first taken room place at programs walk left pages none counted writing =
    let size = length-page_entries place (flat_map parts_of programs) pages counted in
    let last = writing_last taken_first room_first taken room (page_entries place (flat_map parts_of programs) pages)
    (subst (λ (some : List (List ℕ)). IsWriting taken_first room_first taken room (page_entries at (flat_map parts_of some) left) (page_entries place (flat_map parts_of programs) pages)) none writing) in
    let room_left = last.1 in (last.0, omega arith)
