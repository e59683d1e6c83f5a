-- How the words and numbers of a text are separated.
use Rattle.std.specs.Prelude.{◌≡◌, ◌≢◌, ◌<◌, ◌≤◌, ◌∷◌, List, [], length, slice_index, ℕ}

-- a space follows, or nothing
abbrev pub IsAfterWord : List ℕ → Type 0
IsAfterWord [] = Unit {0}
IsAfterWord (byte ∷ rest) = byte ≡ 32

-- the first byte is a small letter
abbrev pub BeginsSmall : List ℕ → Type 0
BeginsSmall [] = ⊥
BeginsSmall (byte ∷ rest) = (97 ≤ byte) × (byte ≤ 122)

-- a number may be written so: no sign, and no leading zero
pub record IsPlain (field : List ℕ) : Type 0 where
  pub not_empty : 0 < length field
  pub no_sign : slice_index field 0 ≢ 43
  pub no_leading_zero : slice_index field 0 ≡ 48 → length field ≡ 1
