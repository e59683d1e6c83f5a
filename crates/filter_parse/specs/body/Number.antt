-- Numbers at the front of a text: most are decimal, and are read by their digits alone.
use Rattle.std.specs.Prelude.{◌∷◌, ◌==◌, ◌&&◌, Bool, List, [], false, nat_lt, not, take, true, ℕ}
use Rattle.std.specs.List.{prefix_len}
use Rattle.filter_parse.specs.declared.token.Lexeme.{Lexeme}
use Rattle.filter_parse.specs.Token.{is_number_part, number_or_address}

-- the number or address that a text begins with, and its number of bytes
abbrev pub number_lexeme : List ℕ → Lexeme
number_lexeme text = record { token = number_or_address (take (prefix_len is_number_part text) text); len = prefix_len is_number_part text }

-- digits without a leading zero, or one alone
abbrev pub is_plain : List ℕ → Bool
is_plain [] = false
is_plain (c ∷ []) = true
is_plain (c ∷ digits) = nat_lt 48 c

-- `0x`, and whatever follows
abbrev pub begins_hexadecimal : List ℕ → Bool
begins_hexadecimal (c ∷ d ∷ rest) = c == 48 && d == 120
begins_hexadecimal _ = false

-- no number goes on with what follows
abbrev pub ends_number : List ℕ → Bool
ends_number [] = true
ends_number (c ∷ rest) = not (is_number_part c)
