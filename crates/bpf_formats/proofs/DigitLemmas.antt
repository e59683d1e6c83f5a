-- Words by sixteen hexadecimal digits.
use Rattle.std.proofs.Common.{◌≡◌, ◌≢◌, ◌∙◌, ◌+◌, ◌-◌, ◌/◌, ◌%◌, ◌^◌, ◌<◌, ◌++◌, Err, List, MatchOption, Ok, Result, [], ap, arith, false, get_or, length, length-append, refl, subst, suc, sym, zero, ◌∷◌, ℕ}
use Rattle.std.specs.Char.{digit_char, digit_value}
use Rattle.std.specs.Fmt.{digits}
use Rattle.std.specs.Result.{result_ok}
use Rattle.std.specs.Str.{IsAscii, IsUtf8}
use Rattle.std.specs.Str.Parse.{AllDigits, ParsesUnsigned, digits_value}
use Rattle.std.proofs.Math.Nat.{pow-suc}
use Rattle.std.proofs.lemmas.Bool.Decides.{nat_tests}
use Rattle.std.proofs.lemmas.Fmt.{hex_one_digit}
use Rattle.std.proofs.lemmas.Int.Digits.{digits_value-lt, digits_value_push}
use Rattle.std.proofs.lemmas.Str.{IsUtf8-from_ascii, digit_value-digit_char}
use Rattle.std.proofs.lemmas.Str.Parse.{without_leading_plus_none}
use Rattle.bpf_formats.specs.Hex.{SpellsDigits, hex_digits}

pub one_word : (item : List ℕ) (a b : ℕ) → SpellsDigits item a → SpellsDigits item b → a ≡ b
one_word item a b p q = p.is_word ∙ sym q.is_word

-- ---- what is read is what is spelled

digit_is_ascii : (c : ℕ) → digit_value c < 16 → c < 128
digit_is_ascii c small = grind (arith, nat_tests)

digits_are_ascii : (item : List ℕ) → AllDigits 16 item → IsAscii item
digits_are_ascii [] all i = omega arith
digits_are_ascii (c ∷ item) all zero = digit_is_ascii c all.0
digits_are_ascii (c ∷ item) all (suc i) = digits_are_ascii item all.1 i

pub spelled-utf8 : (item : List ℕ) (it : ℕ) → SpellsDigits item it → IsUtf8 item
spelled-utf8 item it spelled = IsUtf8-from_ascii item (digits_are_ascii item spelled.digits)

-- sixteen digits fit a word
fits : (item : List ℕ) → length item ≡ 16 → AllDigits 16 item → digits_value 16 item < 2 ^ 64
fits item sixteen all = subst (λ n. digits_value 16 item < 16 ^ n) sixteen (digits_value-lt 16 item all)

-- the answer of a call that parsed sixteen bytes
pub parsed : {E : Type 0} (item : List ℕ) (r : Result ℕ E) → length item ≡ 16 → get_or item 0 0 ≢ 43 → ParsesUnsigned 64 16 item r → MatchOption (result_ok r) ((it : ℕ) → SpellsDigits item it → ⊥) (λ it. SpellsDigits item it)
parsed item (Ok it) sixteen plain parses =
    let own = without_leading_plus_none item plain in
    record { sixteen = sixteen; digits = subst (AllDigits 16) own parses.0.0.1; is_word = parses.1 ∙ ap (digits_value 16) own }
parsed item (Err e) sixteen plain parses = λ it spelled.
    let own = without_leading_plus_none item plain in
    let some : 0 < length item = omega (arith, sixteen) in
    parses (subst (λ ds. ((0 < length ds) × AllDigits 16 ds) × (digits_value 16 ds < 2 ^ 64)) (sym own) ((some, spelled.digits), fits item sixteen spelled.digits))

-- ---- what is printed is spelled

pub hex_digits_none : (count n : ℕ) → count ≡ 0 → hex_digits count n ≡ []
unfolding hex_digits
hex_digits_none zero n none = refl
hex_digits_none (suc count) n none = absurd (omega arith)

pub hex_digits_more : (count n : ℕ) → 0 < count → hex_digits count n ≡ hex_digits (count - 1) (n / 16) ++ digits 16 false (n % 16)
unfolding hex_digits
hex_digits_more zero n some = absurd (omega arith)
hex_digits_more (suc count) n some =
    let less : count ≡ suc count - 1 = omega arith in
    ap (λ m. hex_digits m (n / 16) ++ digit_char (n % 16) ∷ []) less
    ∙ ap (λ last. hex_digits (suc count - 1) (n / 16) ++ last) (sym (hex_one_digit false (n % 16) (omega arith)))

all_push : (item : List ℕ) (c : ℕ) → AllDigits 16 item → digit_value c < 16 → AllDigits 16 (item ++ c ∷ [])
all_push [] c all digit = (digit, tt)
all_push (d ∷ item) c all digit = (all.0, all_push item c all.1 digit)

last_digit : (n : ℕ) → digit_value (digit_char (n % 16)) ≡ n % 16
last_digit n = digit_value-digit_char (n % 16) (omega arith)

all_hex : (count n : ℕ) → AllDigits 16 (hex_digits count n)
unfolding hex_digits
all_hex zero n = tt
all_hex (suc count) n =
    all_push (hex_digits count (n / 16)) (digit_char (n % 16)) (all_hex count (n / 16)) (omega (arith, last_digit n))

length-hex_digits : (count n : ℕ) → length (hex_digits count n) ≡ count
unfolding hex_digits
length-hex_digits zero n = refl
length-hex_digits (suc count) n =
    omega (arith, length-append (hex_digits count (n / 16)) (digit_char (n % 16) ∷ []), length-hex_digits count (n / 16))

hex_digits_value : (count n : ℕ) → n < 16 ^ count → digits_value 16 (hex_digits count n) ≡ n
unfolding hex_digits
hex_digits_value zero n small = omega arith
hex_digits_value (suc count) n small =
    let power = pow-suc 16 count in
    let front : n / 16 < 16 ^ count = omega (arith, power) in
    let later = hex_digits_value count (n / 16) front in
    omega (arith, digits_value_push 16 (hex_digits count (n / 16)) (digit_char (n % 16)), later, last_digit n)

pub hex_spells : (it : ℕ) → it < 2 ^ 64 → SpellsDigits (hex_digits 16 it) it
hex_spells it small = record {
  sixteen = length-hex_digits 16 it;
  digits = all_hex 16 it;
  is_word = sym (hex_digits_value 16 it small);
}
