-- A text that grows by pieces.
use Rattle.std.proofs.Common.{◌≡◌, ◌∙◌, ◌++◌, List, ap, append_assoc, ℕ}

-- one more piece behind those that were appended
pub more : {new mid : List ℕ} (old front piece : List ℕ) → new ≡ mid ++ piece → mid ≡ old ++ front → new ≡ old ++ (front ++ piece)
more old front piece is before = is ∙ ap (λ (m : List ℕ). m ++ piece) before ∙ append_assoc old front piece
