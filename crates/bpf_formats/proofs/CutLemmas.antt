-- Cutting a text into items.
use Rattle.std.proofs.Common.{◌≡◌, ◌==◌, ◌<◌, ◌≤◌, ◌++◌, ◌∙◌, ◌||◌, Bool, List, [], ap, append_assoc, arith, cond, false, if◌then◌else◌, refl, sym, true, ◌∷◌, ℕ}
use Rattle.std.specs.Char.{digit_value}
use Rattle.std.specs.Str.Parse.{AllDigits}
use Rattle.std.proofs.lemmas.Bool.{cond-false, ne_eqb}
use Rattle.std.proofs.lemmas.List.{append-nil}
use Rattle.bpf_formats.specs.Item.{ends_item, items_of, with_front}

-- the items with more bytes at the front of the first
abbrev pub with_fronts : List ℕ → List (List ℕ) → List (List ℕ)
with_fronts bytes [] = bytes ∷ []
with_fronts bytes (item ∷ items) = (bytes ++ item) ∷ items

pub with_fronts-with_front : (bytes : List ℕ) (b : ℕ) (items : List (List ℕ)) → with_fronts bytes (with_front b items) ≡ with_fronts (bytes ++ b ∷ []) items
with_fronts-with_front bytes b [] = refl
with_fronts-with_front bytes b (item ∷ items) = ap (λ first. first ∷ items) (sym (append_assoc bytes (b ∷ []) item))

pub with_fronts-first : (bytes : List ℕ) (items : List (List ℕ)) → with_fronts bytes ([] ∷ items) ≡ bytes ∷ items
with_fronts-first bytes items = ap (λ first. first ∷ items) (append-nil bytes)

kept : (ends : Bool) (b : ℕ) (items : List (List ℕ)) → with_fronts [] (if ends then [] ∷ items else with_front b items) ≡ (if ends then [] ∷ items else with_front b items)
kept true b items = refl
kept false b [] = refl
kept false b (item ∷ items) = refl

pub with_fronts-nil : (text : List ℕ) → with_fronts [] (items_of text) ≡ items_of text
with_fronts-nil [] = refl
with_fronts-nil (b ∷ text) = kept (ends_item b) b (items_of text)

-- ---- an item that is written before LF

-- no byte ends an item
abbrev pub StaysInItem : List ℕ → Type 0
StaysInItem [] = Unit {0}
StaysInItem (b ∷ item) = (ends_item b ≡ false) × StaysInItem item

pub items_of-line : (item text : List ℕ) → StaysInItem item → items_of (item ++ 10 ∷ text) ≡ item ∷ items_of text
items_of-line [] text stays = refl
items_of-line (b ∷ item) text stays =
    cond-false (ends_item b) ([] ∷ items_of (item ++ 10 ∷ text)) (with_front b (items_of (item ++ 10 ∷ text))) stays.0
    ∙ ap (with_front b) (items_of-line item text stays.1)

pub stays-append : (a b : List ℕ) → StaysInItem a → StaysInItem b → StaysInItem (a ++ b)
stays-append [] b first second = second
stays-append (c ∷ a) b first second = (first.0, stays-append a b first.1 second)

neither : (a b : Bool) → a ≡ false → b ≡ false → (a || b) ≡ false
neither true b first second = first
neither false b first second = second

-- a digit is no byte of which the value is none
apart : (radix c s : ℕ) → radix ≤ 36 → digit_value c < radix → digit_value s ≡ 36 → c ≡ s → ⊥
apart radix c s few digit none same =
    let value : digit_value c ≡ digit_value s = ap digit_value same in
    omega arith

digit_stays : (radix c : ℕ) → radix ≤ 36 → digit_value c < radix → ends_item c ≡ false
digit_stays radix c few digit =
    neither (c == 10) (c == 44) (ne_eqb c 10 (apart radix c 10 few digit refl)) (ne_eqb c 44 (apart radix c 44 few digit refl))

pub stays-digits : (radix : ℕ) (digits : List ℕ) → radix ≤ 36 → AllDigits radix digits → StaysInItem digits
stays-digits radix [] few all = tt
stays-digits radix (c ∷ digits) few all = (digit_stays radix c few all.0, stays-digits radix digits few all.1)
