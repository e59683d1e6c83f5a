-- Worked rows in the pooled form, by the definitions alone (docs/SWITCH.md, "The pooled form").
use Rattle.std.proofs.Common.{◌≡◌, ◌∙◌, ◌∷◌, ◌++◌, ◌<◌, ◌≤◌, List, Some, [], ap, arith, drop, length, map, refl, replicate, suc, take, zero, ℕ}
use Rattle.std.specs.List.{slice_get}
use Rattle.std.proofs.lemmas.List.{take-append-le, take-take}
use Rattle.std.proofs.lemmas.List.Elements.{All-cons, All-nil}
use Rattle.config_image.specs.declared.TheConstants.{ROW_WORDS}
use Rattle.config_image.specs.Image.{Group, image, programs_begin}
use Rattle.config_image.specs.PageTable.{entry_word, page_of, start_of}
use Rattle.config_image.specs.Pooled.{IsPooledForm, form_word, page_entries, pages_for, pages_of, parts, parts_of, pooled_row}

-- the words of a row before its zeros
abbrev written : List Group → List ℕ → List ℕ
written config pages = form_word config ∷ (drop 1 (take (programs_begin config) (image config)) ++ page_entries (programs_begin config) (parts config) pages)

first_words : (config : List Group) (pages : List ℕ) (n : ℕ) → n ≤ ROW_WORDS → n ≤ length (written config pages) → take n (pooled_row config pages) ≡ take n (written config pages)
unfolding pooled_row
first_words config pages n fits inside = take-take n ROW_WORDS (written config pages ++ replicate ROW_WORDS 0) fits ∙ take-append-le n (written config pages) (replicate ROW_WORDS 0) inside

-- the entry of the part that starts at image place 8191, in page 32767
packed_entry : entry_word 8191 32767 ≡ 0x1fff7fff
packed_entry = refl

entry_start : start_of 0x1fff7fff ≡ 8191
entry_start = refl

entry_page : page_of 0x1fff7fff ≡ 32767
entry_page = refl

empty_form : form_word [] ≡ 0x200020000
unfolding image
empty_form = refl

empty_row : take 2 (pooled_row [] []) ≡ 0x200020000 ∷ 0 ∷ []
unfolding image
empty_row = first_words [] [] 2 (omega arith) (omega arith)

-- group 10.0.0.2:53 without members, its selector `ret #0`
abbrev selector : List Group
selector = record { key = record { address = 0x0a000002; port = 53 }; selector = Some (record { words = 0x0006000000000000 ∷ []; charge = 1 }); members = [] } ∷ []

selector_parts : parts selector ≡ (0x6000000000000 ∷ []) ∷ []
selector_parts = refl

-- its row where the one part stands in page 0, and in page 3
selector_row : take 7 (pooled_row selector (0 ∷ [])) ≡ 0x700060001 ∷ 1 ∷ 0xa0000020035 ∷ 6 ∷ 0 ∷ 0x60001 ∷ 0x60000 ∷ []
unfolding image
selector_row = first_words selector (0 ∷ []) 7 (omega arith) (omega arith)

selector_row_elsewhere : take 7 (pooled_row selector (3 ∷ [])) ≡ 0x700060001 ∷ 1 ∷ 0xa0000020035 ∷ 6 ∷ 0 ∷ 0x60001 ∷ 0x60003 ∷ []
unfolding image
selector_row_elsewhere = first_words selector (3 ∷ []) 7 (omega arith) (omega arith)

pages_elsewhere : pages_of (0x700060001 ∷ 1 ∷ 0xa0000020035 ∷ 6 ∷ 0 ∷ 0x60001 ∷ 0x60003 ∷ 0 ∷ []) ≡ 3 ∷ []
pages_elsewhere = refl

only_word : (index : ℕ) (part : List ℕ) → slice_get ((0x0006000000000000 ∷ []) ∷ []) index ≡ Some part → (k x : ℕ) → slice_get part k ≡ Some x → 0x0006000000000000 ≡ x
only_word zero part held zero x word =
    let same : (0x0006000000000000 ∷ []) ≡ part = cc in
    let first : slice_get (0x0006000000000000 ∷ []) 0 ≡ Some x = ap (λ (ws : List ℕ). slice_get ws 0) same ∙ word in cc
only_word zero part held (suc k) x word =
    let same : (0x0006000000000000 ∷ []) ≡ part = cc in
    let none : slice_get (0x0006000000000000 ∷ []) (suc k) ≡ Some x = ap (λ (ws : List ℕ). slice_get ws (suc k)) same ∙ word in absurd cc
only_word (suc index) part held k x word = absurd cc

selector_stands : (index page k x : ℕ) (part : List ℕ) → slice_get (3 ∷ []) index ≡ Some page → slice_get (parts selector) index ≡ Some part → slice_get part k ≡ Some x → 0x0006000000000000 ≡ x
selector_stands index page k x part in_page held word = only_word index part held k x word

-- that row and a page with its part: every word of every page is `ret #0`, also behind the part
selector_form : IsPooledForm selector (pooled_row selector (3 ∷ [])) (3 ∷ []) (λ page k. 0x0006000000000000)
selector_form = record {
  are = record { counted = refl; below = All-cons (λ page. page < 65536) 3 [] (omega arith) (All-nil (λ page. page < 65536)) };
  row_is = refl;
  stands = selector_stands;
}

-- programs of 16, 17 and 33 words, and one of none
one_part : map (λ (part : List ℕ). length part) (parts_of (replicate 16 7)) ≡ 16 ∷ []
one_part = refl

two_parts : map (λ (part : List ℕ). length part) (parts_of (replicate 17 7)) ≡ 16 ∷ 1 ∷ []
two_parts = refl

three_parts : map (λ (part : List ℕ). length part) (parts_of (replicate 33 7)) ≡ 16 ∷ 16 ∷ 1 ∷ []
three_parts = refl

no_part : pages_for 0 ≡ 0
no_part = refl

-- the second of two parts begins 16 words behind the first
two_entries : page_entries 6 (parts_of (replicate 17 7)) (5 ∷ 9 ∷ []) ≡ 0x60005 ∷ 0x160009 ∷ []
two_entries = refl
