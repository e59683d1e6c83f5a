-- Writes in a row, of which some may fail.
use Rattle.std.proofs.Common.{◌≡◌, ◌∙◌, ◌++◌, ℕ, List, Option, ap, append_assoc, drop, sym, take}
use Rattle.std.proofs.lemmas.List.{take-append-drop}
use Rattle.std.proofs.KnownBytes.{Appends-kept, Appends-trans}
use Rattle.std.specs.Io.KnownBytes.{Appends, Keeps}

-- a beginning was appended, of which this is what is left
abbrev pub HasWritten : Option (List ℕ) → Option (List ℕ) → List ℕ → List ℕ → Type 0
HasWritten before after text left = (told : List ℕ) × Appends before after told × (text ≡ told ++ left)

-- some more of what is left
pub writes_more : (start mid end : Option (List ℕ)) (text left : List ℕ) (count : ℕ) → HasWritten start mid text left → Appends mid end (take count left)
    → HasWritten start end text (drop count left)
writes_more start mid end text left count before more = (
  before.0 ++ take count left,
  Appends-trans start mid end before.0 (take count left) before.1 more,
  before.2 ∙ ap (λ rest. before.0 ++ rest) (sym (take-append-drop count left)) ∙ sym (append_assoc before.0 (take count left) (drop count left)),
)

-- nothing more
pub writes_kept : (start mid end : Option (List ℕ)) (text left : List ℕ) → HasWritten start mid text left → Keeps mid end → HasWritten start end text left
writes_kept start mid end text left before kept = (before.0, Appends-kept start mid end before.0 before.1 kept, before.2)
