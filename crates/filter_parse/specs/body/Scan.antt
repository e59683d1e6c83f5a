-- The scanner: it takes a text apart from its first byte to its last.
use Rattle.std.specs.Prelude.{◌+◌, ◌-◌, ◌∷◌, List, None, Option, Some, [], if◌then◌else◌, suc, take, ℕ}
use Prim.Native.Nat.{zero}
use Rattle.std.specs.Char.{is_ascii_digit}
use Rattle.std.specs.List.{prefix_len}
use Rattle.filter_parse.specs.declared.token.Lexeme.{Lexeme}
use Rattle.filter_parse.specs.declared.token.Token.{Token}
use Rattle.filter_parse.specs.Token.{Placed, begins_word, is_blank, is_number_part, is_word_part, number_or_address, pair_sign, sign, word_token}

-- a sign of two bytes where they are one, else the first byte alone
abbrev pub sign_or : ℕ → Option Token → Lexeme
sign_or c (Some token) = record { token = token; len = 2 }
sign_or c None = record { token = sign c; len = 1 }

-- a sign: of two bytes where they are one
abbrev pub sign_lexeme : ℕ → List ℕ → Lexeme
sign_lexeme c [] = record { token = sign c; len = 1 }
sign_lexeme c (d ∷ rest) = sign_or c (pair_sign c d)

-- the token that begins with a byte that is no blank, and its number of bytes
abbrev pub lexeme : ℕ → List ℕ → Lexeme
lexeme c rest =
    if begins_word c then
    record { token = word_token (take (prefix_len is_word_part (c ∷ rest)) (c ∷ rest)); len = prefix_len is_word_part (c ∷ rest) }
    else (if is_ascii_digit c then
    record { token = number_or_address (take (prefix_len is_number_part (c ∷ rest)) (c ∷ rest)); len = prefix_len is_number_part (c ∷ rest) }
    else sign_lexeme c rest)

-- the tokens of a text whose first byte is at a place, behind so many bytes that belong to the token before them
abbrev pub tokens_from : ℕ → ℕ → List ℕ → List Placed
tokens_from inside place [] = []
tokens_from (suc inside) place (c ∷ text) = tokens_from inside (place + 1) text
tokens_from zero place (c ∷ text) =
    if is_blank c then tokens_from zero (place + 1) text
    else record { token = (lexeme c text).token; place = place } ∷ tokens_from ((lexeme c text).len - 1) (place + 1) text

-- the tokens of a text
abbrev pub tokens_of : List ℕ → List Placed
tokens_of text = tokens_from 0 0 text
