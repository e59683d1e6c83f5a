-- Words in parts of a page each, and the page table entries of the parts.
use Rattle.std.proofs.Common.{◌≡◌, ◌∙◌, ◌∷◌, ◌*◌, ◌+◌, ◌++◌, ◌-◌, ◌<◌, ◌≤◌, List, Some, [], ap, arith, drop, inl, inr, length, map, refl, subst, suc, take, zero, ℕ}
use Rattle.std.specs.List.{All, flat_map, slice_get, sum_by}
use Rattle.std.proofs.lemmas.Bool.{cases_lt}
use Rattle.std.proofs.lemmas.List.{length-drop, length-take, nil_from_length, take-append-drop}
use Rattle.std.proofs.lemmas.List.Concat.{flat_map-append, length-flat_map}
use Rattle.std.proofs.lemmas.List.Elements.{All-append, All-cons, All-get_or, All-head, All-nil, All-tail}
use Rattle.std.proofs.lemmas.List.Sums.{sum_by-cons, sum_by_more}
use Rattle.std.proofs.lemmas.Option.{get_or_from_slice_get, slice_get_within}
use Rattle.bpf_verify.specs.Program.{ProgramValue}
use Rattle.config_image.specs.declared.TheConstants.{PAGE_WORDS}
use Rattle.config_image.specs.PageTable.{entry_word, page_of}
use Rattle.config_image.specs.Pooled.{IsCut, joined, page_entries, pages_for, parts_from, parts_of}
use Rattle.config_image.proofs.PageTableLemmas.{page_told}
use Rattle.config_image.proofs.WordLemmas.{slice_get-append_add, slice_get-append_left}

-- how many words parts have together
abbrev pub size_of : List (List ℕ) → ℕ
size_of parts = sum_by (λ (part : List ℕ). length part) parts

pub length-joined : (parts : List (List ℕ)) → length (joined parts) ≡ size_of parts
length-joined parts = length-flat_map (λ (part : List ℕ). part) parts

-- a part has at least one word, and not more than a page has room for
abbrev pub IsSized : List ℕ → Type 0
IsSized part = (1 ≤ length part) × (length part ≤ PAGE_WORDS)

pub length-parts_from : (n : ℕ) (words : List ℕ) → length (parts_from n words) ≡ n
length-parts_from zero words = refl
length-parts_from (suc n) words = let more = length-parts_from n (drop PAGE_WORDS words) in omega arith

joined-parts_from : (n : ℕ) (words : List ℕ) → length words ≤ n * PAGE_WORDS → joined (parts_from n words) ≡ words
joined-parts_from zero words fits = let none : words ≡ [] = nil_from_length words (omega arith) in rw none refl
joined-parts_from (suc n) words fits =
    let left = length-drop PAGE_WORDS words in
    ap (λ (ws : List ℕ). take PAGE_WORDS words ++ ws) (joined-parts_from n (drop PAGE_WORDS words) (omega arith)) ∙ take-append-drop PAGE_WORDS words

parts_from-sized : (n : ℕ) (words : List ℕ) → length words ≤ n * PAGE_WORDS → n * PAGE_WORDS < length words + PAGE_WORDS → All IsSized (parts_from n words)
parts_from-sized zero words fits full = All-nil IsSized
parts_from-sized (suc n) words fits full =
    let first = length-take PAGE_WORDS words in
    let left = length-drop PAGE_WORDS words in
    All-cons IsSized (take PAGE_WORDS words) (parts_from n (drop PAGE_WORDS words)) (omega arith, omega arith) (parts_from-sized n (drop PAGE_WORDS words) (omega arith) (omega arith))

-- each part but the last fills a page
parts_from-full : (n : ℕ) (words : List ℕ) (index : ℕ) (part : List ℕ) → n * PAGE_WORDS < length words + PAGE_WORDS → slice_get (parts_from n words) index ≡ Some part
    → index + 1 < n → length part ≡ PAGE_WORDS
parts_from-full zero words index part full there inside = absurd (omega arith)
parts_from-full (suc n) words zero part full there inside =
    let same : take PAGE_WORDS words ≡ part = cc in
    let size = ap (λ (ws : List ℕ). length ws) same in
    let first = length-take PAGE_WORDS words in
    omega arith
parts_from-full (suc n) words (suc index) part full there inside =
    let left = length-drop PAGE_WORDS words in
    parts_from-full n (drop PAGE_WORDS words) index part (omega arith) there (omega arith)

pub sized_part : (parts : List (List ℕ)) (index : ℕ) (part : List ℕ) → All IsSized parts → slice_get parts index ≡ Some part → IsSized part
sized_part parts index part sized there =
    let inside = slice_get_within parts index part there in
    let is = get_or_from_slice_get parts index part part there in
    subst IsSized is (All-get_or IsSized parts index part inside sized)

-- ---- the parts of a program

pub length-parts_of : (words : List ℕ) → length (parts_of words) ≡ pages_for (length words)
length-parts_of words = length-parts_from (pages_for (length words)) words

pub pages_covered : (len : ℕ) → 4 * pages_for len ≤ len + 3
pages_covered len = omega arith

joined-parts_of : (words : List ℕ) → joined (parts_of words) ≡ words
joined-parts_of words = joined-parts_from (pages_for (length words)) words (omega arith)

parts_of-sized : (words : List ℕ) → All IsSized (parts_of words)
parts_of-sized words = parts_from-sized (pages_for (length words)) words (omega arith) (omega arith)

pub parts_of-cut : (words : List ℕ) → IsCut words (parts_of words)
parts_of-cut words =
    let counted = length-parts_of words in
    record {
      counted = counted;
      whole = joined-parts_of words;
      sized = λ index part there. sized_part (parts_of words) index part (parts_of-sized words) there;
      full = λ index part there inside. parts_from-full (pages_for (length words)) words index part (omega arith) there (omega arith);
    }

-- ---- the parts of programs, one program behind the other

abbrev pub parts_of_all : List ProgramValue → List (List ℕ)
parts_of_all programs = flat_map (λ (program : ProgramValue). parts_of program.words) programs

abbrev pub words_of_all : List ProgramValue → List ℕ
words_of_all programs = flat_map (λ (program : ProgramValue). program.words) programs

pub joined-parts_of_all : (programs : List ProgramValue) → joined (parts_of_all programs) ≡ words_of_all programs
joined-parts_of_all [] = refl
joined-parts_of_all (program ∷ rest) =
    flat_map-append (λ (part : List ℕ). part) (parts_of program.words) (parts_of_all rest)
    ∙ ap (λ (ws : List ℕ). ws ++ joined (parts_of_all rest)) (joined-parts_of program.words)
    ∙ ap (λ (ws : List ℕ). program.words ++ ws) (joined-parts_of_all rest)

pub parts_of_all-sized : (programs : List ProgramValue) → All IsSized (parts_of_all programs)
parts_of_all-sized [] = All-nil IsSized
parts_of_all-sized (program ∷ rest) = All-append IsSized (parts_of program.words) (parts_of_all rest) (parts_of-sized program.words) (parts_of_all-sized rest)

-- ---- where a part stands in the joined words

pub at_least_one : (parts : List (List ℕ)) → All IsSized parts → length parts ≤ size_of parts
at_least_one [] sized = omega arith
at_least_one (part ∷ rest) sized =
    let first = (All-head IsSized part rest sized).0 in
    let more = at_least_one rest (All-tail IsSized part rest sized) in
    let sum = sum_by-cons (λ (one : List ℕ). length one) part rest in
    omega arith

pub size_before_next : (parts : List (List ℕ)) (index : ℕ) (part : List ℕ) → slice_get parts index ≡ Some part
    → size_of (take (index + 1) parts) ≡ size_of (take index parts) + length part
size_before_next parts index part there =
    let inside = slice_get_within parts index part there in
    let is = get_or_from_slice_get parts index part part there in
    sum_by_more (λ (one : List ℕ). length one) parts index part inside ∙ ap (λ (one : List ℕ). size_of (take index parts) + length one) is

-- the part that holds a place
pub part_at : (parts : List (List ℕ)) (place : ℕ) → place < size_of parts
    → (index : ℕ) × (index < length parts) × (size_of (take index parts) ≤ place) × (place < size_of (take (suc index) parts))
part_at [] place inside = absurd (omega arith)
part_at (part ∷ rest) place inside =
    let sum = sum_by-cons (λ (one : List ℕ). length one) part rest in
    elim (cases_lt place (length part)) [
      | inl here ↦ let first = sum_by-cons (λ (one : List ℕ). length one) part [] in (0, omega arith, omega arith, omega arith)
      | inr past ↦
          let more = part_at rest (place - length part) (omega arith) in
          let from = sum_by-cons (λ (one : List ℕ). length one) part (take more.0 rest) in
          let to = sum_by-cons (λ (one : List ℕ). length one) part (take (suc more.0) rest) in
          let inside_rest = more.1 in let begun = more.2 in let ends = more.3 in
          (suc more.0, omega arith, omega arith, omega arith)
    ]

pub word_of_part : (parts : List (List ℕ)) (index k x : ℕ) (part : List ℕ) → slice_get parts index ≡ Some part → slice_get part k ≡ Some x
    → slice_get (joined parts) (size_of (take index parts) + k) ≡ Some x
word_of_part [] index k x part there word = absurd cc
word_of_part (first ∷ rest) zero k x part there word =
    let same : first ≡ part = cc in
    let inside = slice_get_within part k x word in
    let none : 0 + k ≡ k = omega arith in
    ap (slice_get (first ++ joined rest)) none ∙ slice_get-append_left first (joined rest) k (rw same inside) ∙ rw same word
word_of_part (first ∷ rest) (suc index) k x part there word =
    let sum = sum_by-cons (λ (one : List ℕ). length one) first (take index rest) in
    let place : size_of (first ∷ take index rest) + k ≡ length first + (size_of (take index rest) + k) = omega arith in
    ap (slice_get (first ++ joined rest)) place ∙ slice_get-append_add first (joined rest) (size_of (take index rest) + k) ∙ word_of_part rest index k x part there word

-- ---- the entries of parts

pub length-page_entries : (place : ℕ) (parts : List (List ℕ)) (pages : List ℕ) → length pages ≡ length parts → length (page_entries place parts pages) ≡ length parts
length-page_entries place [] pages counted = refl
length-page_entries place (part ∷ rest) [] counted = absurd (omega arith)
length-page_entries place (part ∷ rest) (page ∷ pages) counted =
    let more = length-page_entries (place + length part) rest pages (omega arith) in omega arith

pub entry_at : (place : ℕ) (parts : List (List ℕ)) (pages : List ℕ) (index page : ℕ) → length pages ≡ length parts → slice_get pages index ≡ Some page
    → slice_get (page_entries place parts pages) index ≡ Some (entry_word (place + size_of (take index parts)) page)
entry_at place [] [] index page counted there = absurd cc
entry_at place [] (first ∷ pages) index page counted there = absurd (omega arith)
entry_at place (part ∷ rest) [] index page counted there = absurd cc
entry_at place (part ∷ rest) (first ∷ pages) zero page counted there =
    let same : first ≡ page = cc in
    let entry : entry_word place first ≡ entry_word (place + 0) page = omega arith in ap (λ (n : ℕ). Some n) entry
entry_at place (part ∷ rest) (first ∷ pages) (suc index) page counted there =
    let sum = sum_by-cons (λ (one : List ℕ). length one) part (take index rest) in
    let entry : entry_word (place + length part + size_of (take index rest)) page ≡ entry_word (place + size_of (part ∷ take index rest)) page = omega arith in
    entry_at (place + length part) rest pages index page (omega arith) there ∙ ap (λ (n : ℕ). Some n) entry

abbrev pub IsPage : ℕ → Type 0
IsPage page = page < 65536

pub pages-page_entries : (place : ℕ) (parts : List (List ℕ)) (pages : List ℕ) → length pages ≡ length parts → All IsPage pages → map page_of (page_entries place parts pages) ≡ pages
pages-page_entries place [] [] counted below = refl
pages-page_entries place [] (page ∷ pages) counted below = absurd (omega arith)
pages-page_entries place (part ∷ rest) [] counted below = refl
pages-page_entries place (part ∷ rest) (page ∷ pages) counted below =
    ap (λ (n : ℕ). n ∷ map page_of (page_entries (place + length part) rest pages)) (page_told place page (All-head IsPage page pages below))
    ∙ ap (λ (ns : List ℕ). page ∷ ns) (pages-page_entries (place + length part) rest pages (omega arith) (All-tail IsPage page pages below))
