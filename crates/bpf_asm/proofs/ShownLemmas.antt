-- Printed texts: their tokens, and that no byte of them ends a line.
use Rattle.std.proofs.Common.{◌&&◌, ◌≡◌, ◌==◌, ◌∙◌, ◌++◌, ◌<◌, ◌≤◌, ◌^◌, ◌⊎◌, List, [], ap, arith, inl, inr, length, not, nat_le, refl, subst, true, ◌∷◌, Bool, ℕ}
use Rattle.std.specs.Char.{is_ascii_alphanumeric, is_ascii_digit}
use Rattle.std.specs.Fmt.{decimal}
use Rattle.std.specs.Int.{is_in_range}
use Rattle.std.specs.List.{list_all}
use Rattle.std.specs.Str.{all_ascii_digits}
use Rattle.std.proofs.lemmas.Bool.{and_from, and_parts, cond-false, eqb-true, false_from_ne_true, le-leb, leb-true, not-true, or_cases}
use Rattle.std.proofs.lemmas.Fmt.{decimal_nonempty, digits_decimal}
use Rattle.std.proofs.lemmas.List.{append-nil}
use Rattle.std.proofs.lemmas.Str.Parse.{numerals_by_value, tells_all_ascii_digits}
use Rattle.bpf_asm.proofs.TokenLemmas.{is_ascii_alphanumeric-first}
use Rattle.bpf_asm.specs.Line.{ends_line, lines_of, with_front}
use Rattle.bpf_asm.specs.Text.{IsPrintable}
use Rattle.bpf_asm.specs.Token.{BeginsWith, IsTokens, SpellsNumber, Token, begins_word, is_in_word, is_mark, mark, number, word}

-- a byte that does not end a line, and is no control character
abbrev pub is_on_line : ℕ → Bool
is_on_line b = not (ends_line b) && nat_le 32 b

abbrev pub StaysOnLine : List ℕ → Type 0
StaysOnLine text = list_all is_on_line text ≡ true

-- a text on one line is these tokens
pub record Shows (text : List ℕ) (tokens : List Token) : Type 0 where
  pub tokens_are : IsTokens text tokens
  pub on_line : StaysOnLine text

stays-append : (left right : List ℕ) → StaysOnLine left → StaysOnLine right → StaysOnLine (left ++ right)
stays-append [] right here later = later
stays-append (b ∷ left) right here later =
    let both = and_parts (is_on_line b) (list_all is_on_line left) here in
    and_from (is_on_line b) (list_all is_on_line (left ++ right)) both.0 (stays-append left right both.1 later)

-- ---- digits

range : (low high b : ℕ) → is_in_range low high b ≡ true → (low ≤ b) × (b ≤ high)
range low high b is = let both = and_parts _ _ is in (leb-true low b both.0, leb-true b high both.1)

digit_stays : (b : ℕ) → is_ascii_digit b ≡ true → is_on_line b ≡ true
digit_stays b digit =
    let at = range 48 57 b digit in
    and_from (not (ends_line b)) (nat_le 32 b) (ap not (false_from_ne_true (ends_line b) (λ ends. by_end (or_cases (b == 10) (b == 59) ends)))) (le-leb 32 b (omega arith))
  where
    by_end : ((b == 10) ≡ true) ⊎ ((b == 59) ≡ true) → ⊥
    by_end (inl same) = let at = range 48 57 b digit in let it = eqb-true b 10 same in absurd (omega arith)
    by_end (inr same) = let at = range 48 57 b digit in let it = eqb-true b 59 same in absurd (omega arith)

-- digits alone are letters and digits, and stay on the line
abbrev pub AreDigits : List ℕ → Type 0
AreDigits text = BeginsWith is_ascii_digit text × (list_all is_ascii_alphanumeric text ≡ true) × StaysOnLine text

digits_are : (digits : List ℕ) → all_ascii_digits digits ≡ true → (list_all is_ascii_alphanumeric digits ≡ true) × StaysOnLine digits
digits_are [] all = (refl, refl)
digits_are (b ∷ digits) all =
    let both = and_parts (is_ascii_digit b) (all_ascii_digits digits) all in
    let later = digits_are digits both.1 in (
      and_from (is_ascii_alphanumeric b) (list_all is_ascii_alphanumeric digits) (is_ascii_alphanumeric-first b both.0) later.0,
      and_from (is_on_line b) (list_all is_on_line digits) (digit_stays b both.0) later.1,
    )

begins_with_digit : (digits : List ℕ) → 0 < length digits → all_ascii_digits digits ≡ true → BeginsWith is_ascii_digit digits
begins_with_digit [] some all = absurd (omega arith)
begins_with_digit (b ∷ digits) some all = (and_parts (is_ascii_digit b) (all_ascii_digits digits) all).0

pub decimal_digits : (n : ℕ) → n < 2 ^ 32 → AreDigits (decimal n)
decimal_digits n small =
    let wide : n < 2 ^ 64 = omega arith in
    let all = digits_decimal (numerals_by_value (λ digits. all_ascii_digits digits ≡ true) tells_all_ascii_digits) n wide in
    let both = digits_are (decimal n) all in
    (begins_with_digit (decimal n) (decimal_nonempty n wide) all, both.0, both.1)

-- ---- a text from its end to its front

pub nothing_shown : Shows [] []
nothing_shown = record { tokens_are = refl; on_line = refl }

pub gap_shown : (text : List ℕ) (tokens : List Token) → Shows text tokens → Shows (32 ∷ text) tokens
gap_shown text [] shown = record { tokens_are = shown.tokens_are; on_line = shown.on_line }
gap_shown text (token ∷ tokens) shown = behind_gap shown.tokens_are where
  behind_gap : IsTokens text (token ∷ tokens) → Shows (32 ∷ text) (token ∷ tokens)
  behind_gap (gap, run, rest, is, gaps, spelled, later) = record {
    tokens_are = (32 ∷ gap, run, rest, ap (λ left. 32 ∷ left) is, gaps, spelled, later);
    on_line = shown.on_line;
  }

pub mark_shown : (b : ℕ) (text : List ℕ) (tokens : List Token) → is_mark b ≡ true → is_on_line b ≡ true → Shows text tokens → Shows (b ∷ text) (mark b ∷ tokens)
mark_shown b text tokens is stays shown = record {
  tokens_are = ([], b ∷ [], text, refl, refl, (refl, is), shown.tokens_are);
  on_line = and_from (is_on_line b) (list_all is_on_line text) stays shown.on_line;
}

-- a name is a word that stays on the line
pub record IsName (name : List ℕ) : Type 0 where
  pub begins : BeginsWith begins_word name
  pub all : list_all is_in_word name ≡ true
  pub stays : StaysOnLine name

pub name_shown : (name text : List ℕ) (tokens : List Token) → IsName name → (BeginsWith is_in_word text → ⊥) → Shows text tokens → Shows (name ++ text) (word name ∷ tokens)
name_shown name text tokens is longest shown = record {
  tokens_are = ([], name, text, refl, refl, (refl, is.begins, record { all = is.all; longest = longest }), shown.tokens_are);
  on_line = stays-append name text is.stays shown.on_line;
}

pub number_shown : (run text : List ℕ) (n : ℕ) (tokens : List Token) → AreDigits run → SpellsNumber run n → (BeginsWith is_ascii_alphanumeric text → ⊥) → Shows text tokens → Shows (run ++ text) (number n ∷ tokens)
number_shown run text n tokens digits spelled longest shown = record {
  tokens_are = ([], run, text, refl, refl, (digits.0, record { all = digits.1; longest = longest }, spelled), shown.tokens_are);
  on_line = stays-append run text digits.2 shown.on_line;
}

pub decimal_shown : (n : ℕ) (text : List ℕ) (tokens : List Token) → n < 2 ^ 32 → (BeginsWith is_ascii_alphanumeric text → ⊥) → Shows text tokens → Shows (decimal n ++ text) (number n ∷ tokens)
decimal_shown n text tokens small longest shown =
    number_shown (decimal n) text n tokens (decimal_digits n small) (small, inl refl) longest shown

pub last_decimal_shown : (n : ℕ) → n < 2 ^ 32 → Shows (decimal n) (number n ∷ [])
last_decimal_shown n small =
    subst (λ text. Shows text (number n ∷ [])) (append-nil (decimal n)) (decimal_shown n [] [] small (λ begins. begins) nothing_shown)

-- ---- the lines of a printed text

-- a byte that ends a line
module _ (end : ℕ) (ends : ends_line end ≡ true) where
  pub lines_of-line : (line text : List ℕ) → StaysOnLine line → lines_of (line ++ end ∷ text) ≡ line ∷ lines_of text
  lines_of-line [] text stays = rw ends refl
  lines_of-line (b ∷ line) text stays =
      let both = and_parts (is_on_line b) (list_all is_on_line line) stays in
      cond-false (ends_line b) ([] ∷ lines_of (line ++ end ∷ text)) (with_front b (lines_of (line ++ end ∷ text))) (not-true (ends_line b) (and_parts (not (ends_line b)) (nat_le 32 b) both.0).0)
      ∙ ap (with_front b) (lines_of-line line text both.1)

pub lines_of-last : (line : List ℕ) → StaysOnLine line → lines_of line ≡ line ∷ []
lines_of-last [] stays = refl
lines_of-last (b ∷ line) stays =
    let both = and_parts (is_on_line b) (list_all is_on_line line) stays in
    cond-false (ends_line b) ([] ∷ lines_of line) (with_front b (lines_of line)) (not-true (ends_line b) (and_parts (not (ends_line b)) (nat_le 32 b) both.0).0)
    ∙ ap (with_front b) (lines_of-last line both.1)

pub printable-append : (left right : List ℕ) → IsPrintable left → IsPrintable right → IsPrintable (left ++ right)
printable-append [] right here later = later
printable-append (b ∷ left) right here later =
    let both = and_parts (nat_le 32 b) (list_all (λ it. nat_le 32 it) left) here in
    and_from (nat_le 32 b) (list_all (λ it. nat_le 32 it) (left ++ right)) both.0 (printable-append left right both.1 later)

pub printable : (text : List ℕ) → StaysOnLine text → IsPrintable text
printable [] stays = refl
printable (b ∷ text) stays =
    let both = and_parts (is_on_line b) (list_all is_on_line text) stays in
    and_from (nat_le 32 b) (list_all (λ it. nat_le 32 it) text) (and_parts (not (ends_line b)) (nat_le 32 b) both.0).1 (printable text both.1)
