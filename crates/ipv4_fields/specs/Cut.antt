-- A text that is cut at a separator.
use Rattle.std.specs.Prelude.{◌≡◌, ◌≢◌, ◌∷◌, ◌++◌, EachIndex, List, slice_index, ℕ}

-- the byte is nowhere in the text
abbrev pub Lacks : ℕ → List ℕ → Type 0
Lacks byte text = EachIndex text (λ k. slice_index text k ≢ byte)

-- the text is cut at the first separator in it
pub record IsSplitAt (separator : ℕ) (text first rest : List ℕ) : Type 0 where
  pub lacks : Lacks separator first
  pub whole : text ≡ first ++ separator ∷ rest
