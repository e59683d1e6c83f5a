-- The first sentence of a text, found from the front.
use Rattle.std.proofs.Common.{◌≡◌, ◌∙◌, ◌+◌, ◌-◌, ◌<◌, ◌++◌, ◌∷◌, Bool, List, [], ap, append-nil, arith, drop, false, length, refl, suc, sym, take, true, zero, ℕ}
use Rattle.std.proofs.Math.Seq.{drop-length, take-length}
use Rattle.std.proofs.lemmas.List.{length-drop}
use Rattle.command_explain.specs.Meaning.{begins_with_end, first_sentence}

-- no sentence ends before this place
abbrev pub IsPast : ℕ → List ℕ → Type 0
IsPast place text = first_sentence text ≡ take place text ++ first_sentence (drop place text)

goes_on : (byte : ℕ) (rest : List ℕ) → begins_with_end (byte ∷ rest) ≡ false → first_sentence (byte ∷ rest) ≡ byte ∷ first_sentence rest
goes_on byte rest is = simp is refl

ends_after : (byte : ℕ) (rest : List ℕ) → begins_with_end (byte ∷ rest) ≡ true → first_sentence (byte ∷ rest) ≡ byte ∷ []
ends_after byte rest is = simp is refl

more : (place : ℕ) (text : List ℕ) → place < length text → begins_with_end (drop place text) ≡ false
    → take place text ++ first_sentence (drop place text) ≡ take (suc place) text ++ first_sentence (drop (suc place) text)
more place [] inside is = absurd (let none : place < 0 = inside in omega arith)
more zero (byte ∷ rest) inside is = goes_on byte rest is
more (suc place) (byte ∷ rest) inside is = ap (λ (t : List ℕ). byte ∷ t) (more place rest (let all : suc place < suc (length rest) = inside in omega arith) is)

here : (place : ℕ) (text : List ℕ) → place < length text → begins_with_end (drop place text) ≡ true
    → take place text ++ first_sentence (drop place text) ≡ take (suc place) text
here place [] inside is = absurd (let none : place < 0 = inside in omega arith)
here zero (byte ∷ rest) inside is = ends_after byte rest is
here (suc place) (byte ∷ rest) inside is = ap (λ (t : List ℕ). byte ∷ t) (here place rest (let all : suc place < suc (length rest) = inside in omega arith) is)

pub past_more : (place : ℕ) (text : List ℕ) → IsPast place text → place < length text → begins_with_end (drop place text) ≡ false → IsPast (place + 1) text
past_more place text so_far inside is =
    let next : suc place ≡ place + 1 = omega arith in
    so_far ∙ more place text inside is ∙ ap (λ (n : ℕ). take n text ++ first_sentence (drop n text)) next

pub ends_here : (place : ℕ) (text : List ℕ) → IsPast place text → place < length text → begins_with_end (drop place text) ≡ true → take (place + 1) text ≡ first_sentence text
ends_here place text so_far inside is =
    let next : suc place ≡ place + 1 = omega arith in
    ap (λ (n : ℕ). take n text) (sym next) ∙ sym (so_far ∙ here place text inside is)

pub ends_nowhere : (text : List ℕ) → IsPast (length text) text → take (length text) text ≡ first_sentence text
ends_nowhere text so_far =
    sym (so_far ∙ ap (λ (left : List ℕ). take (length text) text ++ first_sentence left) (drop-length text) ∙ append-nil (take (length text) text))

-- the test is of the bytes from a place on
pub tested : (place : ℕ) (text : List ℕ) (test : Bool) → begins_with_end (take (length text - place) (drop place text)) ≡ test → begins_with_end (drop place text) ≡ test
tested place text test is =
    ap begins_with_end (sym (ap (λ (n : ℕ). take n (drop place text)) (sym (length-drop place text)) ∙ take-length (drop place text))) ∙ is
