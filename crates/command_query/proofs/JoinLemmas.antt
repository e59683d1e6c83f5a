-- Words with a space between each two.
use Rattle.std.proofs.Common.{◌≡◌, ◌∙◌, ◌-◌, ◌<◌, ◌∷◌, ◌++◌, [], Bor, List, ap, ap₂, arith, drop, get_or, length, map, sym, take, ℕ}
use Rattle.std.specs.List.{flat_map}
use Rattle.std.proofs.Math.Seq.{take-length}
use Rattle.std.proofs.lemmas.List.{append-nil}
use Rattle.control_line.specs.Request.{spaced}

-- the words, each after a space
abbrev pub after_spaces : List (List ℕ) → List ℕ
after_spaces words = flat_map (λ word. 32 ∷ word) words

pub spaced-first : (first : List ℕ) (rest : List (List ℕ)) → spaced (first ∷ rest) ≡ first ++ after_spaces rest
spaced-first first [] = sym (append-nil first)
spaced-first first (next ∷ rest) = ap (λ (t : List ℕ). first ++ (32 ∷ t)) (spaced-first next rest)

abbrev pub texts : List (Bor (List ℕ)) → List (List ℕ)
texts words = map (λ word. word.now) words

-- the text of the first word, and the other words
pub spaced_cut : (words : List (Bor (List ℕ))) (text : List ℕ) (other : Bor (List ℕ)) → 0 < length words → text ≡ (get_or words 0 other).now
    → text ++ after_spaces (texts (take (length words - 1) (drop 1 words))) ≡ spaced (texts words)
spaced_cut [] text other some same = absurd (omega arith)
spaced_cut (x ∷ xs) text other some same =
    let len : length (x ∷ xs) - 1 ≡ length xs = omega arith in
    let left : take (length (x ∷ xs) - 1) xs ≡ xs = ap (λ k. take k xs) len ∙ take-length xs in
    ap₂ (λ (t : List ℕ) (rest : List (Bor (List ℕ))). t ++ after_spaces (texts rest)) same left ∙ sym (spaced-first x.now (texts xs))
