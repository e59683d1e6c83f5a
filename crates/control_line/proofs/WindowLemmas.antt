-- The words from a place on that a reply to a read of a program has.
use Rattle.std.proofs.Common.{◌≡◌, ◌∙◌, ◌+◌, ◌∷◌, List, [], ap, arith, drop, get_or, refl, ℕ}
use Rattle.std.proofs.lemmas.List.{get_or-drop}
use Rattle.control_line.specs.Reading.{window}

first_five : (words : List ℕ) → window words 0 ≡ get_or words 0 0 ∷ get_or words 1 0 ∷ get_or words 2 0 ∷ get_or words 3 0 ∷ get_or words 4 0 ∷ []
first_five [] = refl
first_five (a ∷ []) = refl
first_five (a ∷ b ∷ []) = refl
first_five (a ∷ b ∷ c ∷ []) = refl
first_five (a ∷ b ∷ c ∷ d ∷ []) = refl
first_five (a ∷ b ∷ c ∷ d ∷ e ∷ rest) = refl

pub window_words : (words : List ℕ) (place : ℕ)
    → window words place ≡ get_or words place 0 ∷ get_or words (place + 1) 0 ∷ get_or words (place + 2) 0 ∷ get_or words (place + 3) 0 ∷ get_or words (place + 4) 0 ∷ []
window_words words place =
    let none : place + 0 ≡ place = omega arith in
    let one = get_or-drop place words 0 0 ∙ ap (λ n. get_or words n 0) none in
    first_five (drop place words)
    ∙ (λ i. one i ∷ get_or-drop place words 1 0 i ∷ get_or-drop place words 2 0 i ∷ get_or-drop place words 3 0 i ∷ get_or-drop place words 4 0 i ∷ [])
