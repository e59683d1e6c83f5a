-- The tokens of a line (docs/MACHINE.md, "Assembly text"; networking/filter.rst, "BPF engine and instruction set").
use Rattle.std.specs.Prelude.{◌≡◌, ◌==◌, ◌<◌, ◌^◌, ◌∷◌, ◌++◌, ◌||◌, ◌⊎◌, Bool, IsTrue, List, [], codes, ℕ}
use Rattle.std.specs.Char.{is_ascii_alphabetic, is_ascii_alphanumeric, is_ascii_digit}
use Rattle.std.specs.Fmt.{decimal}
use Rattle.std.specs.List.{list_all, list_any}
use Rattle.std.specs.Str.Parse.{IsNumeral, digits_value}

-- a word, the value of a number, a punctuation mark; a stray is what is none of these
pub data Token : Type 0 where
  word : List ℕ → Token
  number : ℕ → Token
  mark : ℕ → Token
  stray : Token

-- space and tab
abbrev pub is_gap : ℕ → Bool
is_gap b = (b == 32) || (b == 9)

abbrev pub is_mark : ℕ → Bool
is_mark b = list_any (λ mark. b == mark) (codes "[]()#+*&,:")

-- letters, digits and `_`, of which a digit begins no word
abbrev pub begins_word : ℕ → Bool
begins_word b = is_ascii_alphabetic b || (b == 95)

abbrev pub is_in_word : ℕ → Bool
is_in_word b = is_ascii_alphanumeric b || (b == 95)

-- the first byte is of this kind
abbrev pub BeginsWith : (ℕ → Bool) → List ℕ → Type 0
BeginsWith is_kind [] = ⊥
BeginsWith is_kind (b ∷ text) = IsTrue (is_kind b)

-- all bytes of the run are of this kind, and no further byte of that kind follows
pub record IsLongestRun (is_kind : ℕ → Bool) (run rest : List ℕ) : Type 0 where
  pub all : IsTrue (list_all is_kind run)
  pub longest : BeginsWith is_kind rest → ⊥

-- `0`, or decimal without a leading zero, or `0x` and hexadecimal digits of either case
abbrev pub IsHexadecimal : List ℕ → ℕ → Type 0
IsHexadecimal run n = (digits : List ℕ) × (run ≡ codes "0x" ++ digits) × IsNumeral 16 digits × (n ≡ digits_value 16 digits)

abbrev pub SpellsNumber : List ℕ → ℕ → Type 0
SpellsNumber run n = (n < 2 ^ 32) × ((run ≡ decimal n) ⊎ IsHexadecimal run n)

-- a run of bytes is this token, if the rest of the line follows
abbrev pub SpellsToken : List ℕ → List ℕ → Token → Type 0
SpellsToken run rest (word name) = (run ≡ name) × BeginsWith begins_word run × IsLongestRun is_in_word run rest
SpellsToken run rest (number n) = BeginsWith is_ascii_digit run × IsLongestRun is_ascii_alphanumeric run rest × SpellsNumber run n
SpellsToken run rest (mark b) = (run ≡ b ∷ []) × IsTrue (is_mark b)
SpellsToken run rest stray = ⊥

-- a line is these tokens, with any gaps between them
abbrev pub IsTokens : List ℕ → List Token → Type 0
IsTokens line [] = IsTrue (list_all is_gap line)
IsTokens line (token ∷ tokens) =
    (gap run rest : List ℕ)
    × (line ≡ gap ++ (run ++ rest))
    × IsTrue (list_all is_gap gap)
    × SpellsToken run rest token
    × IsTokens rest tokens
