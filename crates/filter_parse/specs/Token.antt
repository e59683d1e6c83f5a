-- The tokens of a text (pcap-filter(7); docs/EXPRESSIONS.md, "Tokens"): spellings of words, numbers, addresses and signs.
use Rattle.std.specs.Prelude.{◌≡◌, ◌+◌, ◌*◌, ◌^◌, ◌==◌, ◌&&◌, ◌||◌, ◌++◌, ◌∷◌, Bool, List, None, Option, Some, [], codes, drop, false, if◌then◌else◌, length, map, min, nat_le, nat_lt, option_and_then, option_map, take, true, unwrap_or, ℕ}
use Rattle.std.specs.Char.{digit_value, is_ascii_alphabetic, is_ascii_alphanumeric, is_ascii_digit, is_ascii_hexdigit}
use Rattle.std.specs.List.{fold, list_all, list_any, position_or_len, prefix_len}
use Rattle.std.specs.Str.{bytes_eq}
use Rattle.filter_tree.specs.declared.arithmetic.Operator.TheVariants.{Add, And as BitAnd, Divide, ExclusiveOr, Modulo, Multiply, Or as BitOr, ShiftLeft, ShiftRight, Subtract}
use Rattle.filter_tree.specs.declared.arithmetic.Protocol.TheVariants.{Icmp, Ip, Tcp, Udp}
use Rattle.filter_tree.specs.declared.expression.Relation.TheVariants.{Equal, Greater as GreaterThan, GreaterOrEqual, Less as LessThan, LessOrEqual, NotEqual}
use Rattle.filter_parse.specs.declared.token.TheConstants.{TOO_BIG}
use Rattle.filter_parse.specs.declared.token.Connective.TheVariants.{And, AndSign, Or, OrSign}
use Rattle.filter_parse.specs.declared.token.Token.{Token}
use Rattle.filter_parse.specs.declared.token.Token.TheVariants.{Address, Close, CloseIndex, Colon, Compares, Connects, Destination, Greater, Host, Length, Less, Named, Net, Not, Number, Open, OpenIndex, Operates, Port, PortRange, Proto, Source, Stray}

-- space and tab separate tokens
abbrev pub is_blank : ℕ → Bool
is_blank c = c == 32 || c == 9

-- a word is a longest run of letters, digits and `_` that begins with a letter or `_`
abbrev pub begins_word : ℕ → Bool
begins_word c = is_ascii_alphabetic c || c == 95

-- the bytes with which a word goes on
abbrev pub is_word_part : ℕ → Bool
is_word_part c = is_ascii_alphanumeric c || c == 95

abbrev pub is_dot : ℕ → Bool
is_dot c = c == 46

-- a number or an address is a longest run of letters, digits and dots that begins with a digit: the bytes with which it goes on
abbrev pub is_number_part : ℕ → Bool
is_number_part c = is_ascii_alphanumeric c || c == 46

-- the words of the language: names and connectives
abbrev pub name_token : List ℕ → Option Token
name_token word =
    if bytes_eq word (codes "ip") then Some (Named Ip)
    else (if bytes_eq word (codes "tcp") then Some (Named Tcp)
    else (if bytes_eq word (codes "udp") then Some (Named Udp)
    else (if bytes_eq word (codes "icmp") then Some (Named Icmp)
    else (if bytes_eq word (codes "and") then Some (Connects And)
    else (if bytes_eq word (codes "or") then Some (Connects Or)
    else (if bytes_eq word (codes "not") then Some Not
    else (if bytes_eq word (codes "len") then Some Length
    else None)))))))

-- qualifiers, and words that begin a primitive
abbrev pub qualifier_token : List ℕ → Token
qualifier_token word =
    if bytes_eq word (codes "src") then Source
    else (if bytes_eq word (codes "dst") then Destination
    else (if bytes_eq word (codes "proto") then Proto
    else (if bytes_eq word (codes "host") then Host
    else (if bytes_eq word (codes "net") then Net
    else (if bytes_eq word (codes "port") then Port
    else (if bytes_eq word (codes "portrange") then PortRange
    else (if bytes_eq word (codes "less") then Less
    else (if bytes_eq word (codes "greater") then Greater
    else Stray))))))))

-- a word; any other is not a token of the language
abbrev pub word_token : List ℕ → Token
word_token word = unwrap_or (name_token word) (qualifier_token word)

-- the kept value of a number of any size: 4294967296 for every greater one
abbrev pub capped : ℕ → ℕ
capped n = min n TOO_BIG

-- the value of digits
abbrev pub value_of : ℕ → List ℕ → ℕ
value_of base digits = fold (λ n c. n * base + digit_value c) 0 digits

-- decimal digits without a leading zero, or `0` alone
abbrev pub is_decimal : List ℕ → Bool
is_decimal [] = false
is_decimal (c ∷ []) = is_ascii_digit c
is_decimal (c ∷ digits) = nat_lt 48 c && list_all is_ascii_digit (c ∷ digits)

-- `0x`, and at least one hexadecimal digit
abbrev pub is_hexadecimal : List ℕ → Bool
is_hexadecimal (c ∷ d ∷ e ∷ digits) = c == 48 && d == 120 && list_all is_ascii_hexdigit (e ∷ digits)
is_hexadecimal _ = false

-- a number; a malformed one is not a token of the language
abbrev pub number_token : List ℕ → Token
number_token text =
    if is_decimal text then Number (capped (value_of 10 text))
    else (if is_hexadecimal text then Number (capped (value_of 16 (drop 2 text))) else Stray)

-- a part of an address: a decimal number up to 255
abbrev pub octet_of : List ℕ → Option ℕ
octet_of part = if is_decimal part && nat_le (value_of 10 part) 255 then Some (value_of 10 part) else None

-- the place of the first dot, or the length
abbrev pub first_dot : List ℕ → ℕ
first_dot text = position_or_len is_dot text

-- the part before the first dot, and the text after that dot
abbrev pub first_octet : List ℕ → Option (ℕ × List ℕ)
first_octet text =
    if first_dot text == length text then None
    else option_map (λ octet. (octet, drop (first_dot text + 1) text)) (octet_of (take (first_dot text) text))

-- an address: four parts with a dot between each two
abbrev pub address_of : List ℕ → Option ℕ
address_of text =
    option_and_then (λ a. option_and_then (λ b. option_and_then (λ c. option_map (λ d. a.0 * 2 ^ 24 + b.0 * 2 ^ 16 + c.0 * 2 ^ 8 + d)
    (octet_of c.1)) (first_octet b.1)) (first_octet a.1)) (first_octet text)

-- a run with a dot is an address, well formed or not
abbrev pub number_or_address : List ℕ → Token
number_or_address text = if list_any is_dot text then Address (unwrap_or (address_of text) TOO_BIG) else number_token text

-- the signs of two bytes
abbrev pub pair_sign : ℕ → ℕ → Option Token
pair_sign c d =
    if c == 38 && d == 38 then Some (Connects AndSign)
    else (if c == 124 && d == 124 then Some (Connects OrSign)
    else (if c == 60 && d == 60 then Some (Operates ShiftLeft)
    else (if c == 62 && d == 62 then Some (Operates ShiftRight)
    else (if c == 62 && d == 61 then Some (Compares GreaterOrEqual)
    else (if c == 60 && d == 61 then Some (Compares LessOrEqual)
    else (if c == 61 && d == 61 then Some (Compares Equal)
    else (if c == 33 && d == 61 then Some (Compares NotEqual)
    else None)))))))

-- the signs of one byte: brackets and `:`
abbrev pub mark : ℕ → Token
mark c =
    if c == 40 then Open
    else (if c == 41 then Close
    else (if c == 91 then OpenIndex
    else (if c == 93 then CloseIndex
    else (if c == 58 then Colon
    else (if c == 33 then Not
    else Stray)))))

-- operators and relations
abbrev pub sign : ℕ → Token
sign c =
    if c == 47 then Operates Divide
    else (if c == 43 then Operates Add
    else (if c == 45 then Operates Subtract
    else (if c == 42 then Operates Multiply
    else (if c == 37 then Operates Modulo
    else (if c == 38 then Operates BitAnd
    else (if c == 124 then Operates BitOr
    else (if c == 94 then Operates ExclusiveOr
    else (if c == 60 then Compares LessThan
    else (if c == 62 then Compares GreaterThan
    else (if c == 61 then Compares Equal
    else mark c))))))))))

-- ---- the spellings

-- a longest run of bytes: each may go on in it, and none of the rest does
pub record IsLongestRun (part : ℕ → Bool) (run rest : List ℕ) : Type 0 where
  pub all : list_all part run ≡ true
  pub ends : prefix_len part rest ≡ 0

-- a byte that is no blank and begins no word and no number
pub record BeginsSign (c : ℕ) : Type 0 where
  pub word : begins_word c ≡ false
  pub digit : is_ascii_digit c ≡ false
  pub blank : is_blank c ≡ false

-- it begins no sign of two bytes
abbrev pub StandsAlone : ℕ → List ℕ → Type 0
StandsAlone c [] = Unit {0}
StandsAlone c (d ∷ rest) = pair_sign c d ≡ None

-- these bytes, with this rest after them, are the spelling of a token
pub data IsSpelling : List ℕ → List ℕ → Token → Type 0 where
  a_word : (c : ℕ) (more rest : List ℕ) → begins_word c ≡ true → IsLongestRun is_word_part (c ∷ more) rest →
      IsSpelling (c ∷ more) rest (word_token (c ∷ more))
  a_number : (c : ℕ) (more rest : List ℕ) → is_ascii_digit c ≡ true → IsLongestRun is_number_part (c ∷ more) rest →
      IsSpelling (c ∷ more) rest (number_or_address (c ∷ more))
  two_signs : (c d : ℕ) (rest : List ℕ) (it : Token) → BeginsSign c → pair_sign c d ≡ Some it → IsSpelling (c ∷ d ∷ []) rest it
  one_sign : (c : ℕ) (rest : List ℕ) → BeginsSign c → StandsAlone c rest → IsSpelling (c ∷ []) rest (sign c)

-- a token and the place of its first byte
pub record Placed : Type 0 where
  pub token : Token
  pub place : ℕ

-- these are the tokens of a text whose first byte is at a place: spellings, one after the other, with blanks before, between and
-- after them
pub data AreTokens : ℕ → List ℕ → List Placed → Type 0 where
  no_more : (place : ℕ) → AreTokens place [] []
  blank_first : (place c : ℕ) (text : List ℕ) (tokens : List Placed) → is_blank c ≡ true → AreTokens (place + 1) text tokens →
      AreTokens place (c ∷ text) tokens
  token_first : (place : ℕ) (text spelling rest : List ℕ) (it : Token) (tokens : List Placed) → text ≡ spelling ++ rest →
      IsSpelling spelling rest it → AreTokens (place + length spelling) rest tokens →
      AreTokens place text (record { token = it; place = place } ∷ tokens)

-- tokens without their places
abbrev pub kinds : List Placed → List Token
kinds tokens = map (λ placed. placed.token) tokens
