-- The first word of a text.
use Rattle.std.specs.Prelude.{◌≡◌, ◌++◌, ◌∷◌, List, ℕ}
use Rattle.control_summary.specs.Verdict.{words_of}

-- the text begins with its first word
pub record BeginsWithWord (text word : List ℕ) : Type 0 where
  pub words : List (List ℕ)
  pub rest : List ℕ
  pub first : words_of text ≡ word ∷ words
  pub front : text ≡ word ++ rest
