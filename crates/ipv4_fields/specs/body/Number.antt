-- How numbers are read: their digits, and which are written plainly.
use Rattle.std.specs.Prelude.{◌≡◌, ◌<◌, ◌≤◌, ◌⊎◌, List, length, slice_index, ℕ}
use Rattle.ipv4_fields.specs.declared.text.TheConstants.{NUMBER_LIMIT}

-- the byte is no decimal digit
abbrev pub IsNoDigit : ℕ → Type 0
IsNoDigit byte = (byte < 48) ⊎ (57 < byte)

-- a number of 32 bits may be written so: by few digits, and with no leading zero
pub record IsPlain (field : List ℕ) : Type 0 where
  pub not_empty : 0 < length field
  pub few : length field ≤ NUMBER_LIMIT
  pub no_leading_zero : slice_index field 0 ≡ 48 → length field ≡ 1
