-- Programs in hexadecimal, a word a line (docs/MACHINE.md, "Programs as numbers").
use Rattle.std.specs.Prelude.{◌≡◌, ◌/◌, ◌%◌, ◌∷◌, ◌++◌, List, [], length, suc, zero, ℕ}
use Rattle.std.specs.Char.{digit_char}
use Rattle.std.specs.List.{flat_map}
use Rattle.std.specs.Str.Parse.{AllDigits, digits_value}
use Rattle.bpf_formats.specs.Item.{AreWords, items_of}

-- an item is a word: sixteen hexadecimal digits of either case
pub record SpellsDigits (item : List ℕ) (it : ℕ) : Type 0 where
  pub sixteen : length item ≡ 16
  pub digits : AllDigits 16 item
  pub is_word : it ≡ digits_value 16 item

-- the items are the words
abbrev pub IsHex : List ℕ → List ℕ → Type 0
IsHex text words = AreWords SpellsDigits (items_of text) words

-- the last `count` hexadecimal digits of a number, in lower case
unfoldable pub hex_digits : ℕ → ℕ → List ℕ
hex_digits zero n = []
hex_digits (suc count) n = hex_digits count (n / 16) ++ digit_char (n % 16) ∷ []

-- a word as a line
abbrev pub hex_line : ℕ → List ℕ
hex_line it = hex_digits 16 it ++ 10 ∷ []

-- the one text that is printed of words: each on a separate line
abbrev pub hex_text : List ℕ → List ℕ
hex_text words = flat_map hex_line words
