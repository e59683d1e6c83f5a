-- Bytes as they are shown to people.
use Rattle.std.specs.Prelude.{◌+◌, ◌-◌, ◌/◌, ◌%◌, ◌&&◌, ◌∷◌, [], List, codes, if◌then◌else◌, nat_le, nat_lt, ◌++◌, ℕ}
use Rattle.std.specs.List.{flat_map}

-- a lowercase hexadecimal digit
abbrev pub hex_digit : ℕ → ℕ
hex_digit value = if nat_lt value 10 then 48 + value else 97 + (value - 10)

-- printable ASCII as it is, and every other byte as `\x` and two digits
abbrev pub shown_byte : ℕ → List ℕ
shown_byte byte =
    if nat_le 32 byte && nat_le byte 126 then byte ∷ [] else codes "\\x" ++ hex_digit (byte / 16) ∷ hex_digit (byte % 16) ∷ []

abbrev pub shown_text : List ℕ → List ℕ
shown_text bytes = flat_map shown_byte bytes
