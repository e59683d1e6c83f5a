-- Numbers: what is read is what is spelled.
use Rattle.std.proofs.Common.{◌≡◌, ◌==◌, ◌∙◌, ◌+◌, ◌++◌, ◌*◌, ◌^◌, ◌<◌, ◌≤◌, ◌⊎◌, ◌&&◌, Bool, List, None, Option, Some, [], ap, arith, codes, cond, drop, false, get_or, inl, inr, length, nat_lt, refl, suc, sym, true, ◌∷◌, ℕ}
use Rattle.std.specs.Char.{digit_value}
use Rattle.std.specs.Fmt.{decimal}
use Rattle.std.specs.Str.Parse.{AllDigits, IsNumeral, digits_value, digits_value_after}
use Rattle.std.proofs.Math.Nat.{mul-le-mul_left}
use Rattle.std.proofs.lemmas.Bool.{and_from, and_left, and_parts, and_right, cases_lt, cond-false, cond-true, cond_both, eq-eqb, eqb-true, le-ltb, lt-ltb, ltb-true, ne_eqb}
use Rattle.std.proofs.lemmas.Fmt.{decimal-digits_value, decimal_digit, decimal_is_IsNumeral, first_decimal}
use Rattle.std.proofs.lemmas.List.{drop_more}
use Rattle.std.proofs.lemmas.Option.{cond_some}
use Rattle.std.proofs.lemmas.Str.Parse.{IsNumeralModel}
use Rattle.bpf_asm.specs.body.Reading.{next_value, number_of, numeral, numeral_after}
use Rattle.bpf_asm.specs.Token.{SpellsNumber}

-- behind a digit that is none nothing is read
pub numeral_after-none : (radix : ℕ) (cs : List ℕ) → numeral_after radix cs None ≡ None
numeral_after-none radix [] = refl
numeral_after-none radix (c ∷ cs) = refl

pub numeral-stops : (radix value i : ℕ) (digits : List ℕ) → i < length digits → next_value radix value (get_or digits i 0) ≡ None → numeral_after radix (drop i digits) (Some value) ≡ numeral_after radix digits (Some 0) → numeral radix digits ≡ None
unfolding numeral
numeral-stops radix value i digits inside stops rest =
    let whole : numeral_after radix digits (Some 0) ≡ None =
    sym rest
    ∙ ap (λ left. numeral_after radix left (Some value)) (drop_more digits i 0 inside)
    ∙ ap (numeral_after radix (drop (i + 1) digits)) stops
    ∙ numeral_after-none radix (drop (i + 1) digits) in
    cond_both (nat_lt 0 (length digits)) (numeral_after radix digits (Some 0)) None (λ found. found ≡ None) (λ _. whole) (λ _. refl)

-- ---- what is read is spelled

cond_of_some : {A : Type 0} (test : Bool) (found : Option A) (x : A) → cond test found None ≡ Some x → (test ≡ true) × (found ≡ Some x)
cond_of_some true found x is = (refl, is)
cond_of_some false found x is = cc

-- the number that is read, and what is known of the digits
abbrev pub ReadsAs : ℕ → ℕ → List ℕ → ℕ → Type 0
ReadsAs radix value digits n = AllDigits radix digits × (n ≡ digits_value_after radix value digits) × (value < 2 ^ 32 → n < 2 ^ 32)

module _ (radix n : ℕ) where
  reads_next : (value c : ℕ) (cs : List ℕ) (next : Option ℕ) → next_value radix value c ≡ next → ((w : ℕ) → numeral_after radix cs (Some w) ≡ Some n → ReadsAs radix w cs n) → numeral_after radix cs next ≡ Some n → ReadsAs radix value (c ∷ cs) n
  reads_next value c cs None is reads found = let none = numeral_after-none radix cs in cc
  reads_next value c cs (Some w) is reads found =
      let outer = cond_of_some (nat_lt (digit_value c) radix) (cond (nat_lt (value * radix + digit_value c) (2 ^ 32)) (Some (value * radix + digit_value c)) None) w is in
      let inner = cond_some (nat_lt (value * radix + digit_value c) (2 ^ 32)) (value * radix + digit_value c) w outer.1 in
      let later = reads w found in
      let fits = ltb-true (value * radix + digit_value c) (2 ^ 32) inner.0 in
      ((ltb-true (digit_value c) radix outer.0, later.0), rw inner.1 later.1, λ _. later.2 (rw inner.1 at fits))

  reads_digits : (digits : List ℕ) (value : ℕ) → numeral_after radix digits (Some value) ≡ Some n → ReadsAs radix value digits n
  reads_digits [] value found = let same : value ≡ n = cc in (tt, sym same, λ small. rw same at small)
  reads_digits (c ∷ cs) value found = reads_next value c cs (next_value radix value c) refl (λ w. reads_digits cs w) found

  pub numeral_is : (digits : List ℕ) → numeral radix digits ≡ Some n → IsNumeral radix digits × (n ≡ digits_value radix digits) × (n < 2 ^ 32)
  unfolding numeral
  numeral_is digits found =
      let some = cond_of_some (nat_lt 0 (length digits)) (numeral_after radix digits (Some 0)) n found in
      let read = reads_digits digits 0 some.1 in
      ((ltb-true 0 (length digits) some.0, read.0), read.1, read.2 (omega arith))

decimals : IsNumeralModel (AllDigits 10) (digits_value 10)
decimals = record { to = λ digits all. all; from = λ digits all. all; same = λ digits all. refl }

hexadecimal_is : (run : List ℕ) → 1 < length run → get_or run 0 0 ≡ 48 → get_or run 1 0 ≡ 120 → run ≡ codes "0x" ++ drop 2 run
hexadecimal_is [] long zero_first x_second = absurd (omega arith)
hexadecimal_is (b ∷ []) long zero_first x_second = absurd (omega arith)
hexadecimal_is (b ∷ c ∷ run) long zero_first x_second = cc

lone_zero : (run : List ℕ) → 0 < length run → (nat_lt 1 (length run) && (get_or run 0 0 == 48)) ≡ false → get_or run 0 0 ≡ 48 → length run ≡ 1
lone_zero run some no_prefix zero_first = by_length (cases_lt 1 (length run)) where
  by_length : (1 < length run) ⊎ (length run ≤ 1) → length run ≡ 1
  by_length (inl long) =
      let prefix = and_from (nat_lt 1 (length run)) (get_or run 0 0 == 48) (lt-ltb 1 (length run) long) (eq-eqb (get_or run 0 0) 48 zero_first) in
      cc
  by_length (inr short) = omega arith

pub number_is : (run : List ℕ) (n : ℕ) → number_of run ≡ Some n → SpellsNumber run n
unfolding number_of
number_is run n found = by_prefix (nat_lt 1 (length run) && (get_or run 0 0 == 48)) refl found where
  by_prefix : (prefix : Bool) → (nat_lt 1 (length run) && (get_or run 0 0 == 48)) ≡ prefix → cond prefix (cond (get_or run 1 0 == 120) (numeral 16 (drop 2 run)) None) (numeral 10 run) ≡ Some n → SpellsNumber run n
  by_prefix true is some =
      let begins = and_parts (nat_lt 1 (length run)) (get_or run 0 0 == 48) is in
      let hex = cond_of_some (get_or run 1 0 == 120) (numeral 16 (drop 2 run)) n some in
      let read = numeral_is 16 n (drop 2 run) hex.1 in
      (read.2, inr (drop 2 run, hexadecimal_is run (ltb-true 1 (length run) begins.0) (eqb-true (get_or run 0 0) 48 begins.1) (eqb-true (get_or run 1 0) 120 hex.0), read.0, read.1))
  by_prefix false is some =
      let read = numeral_is 10 n run some in
      let small : digits_value 10 run < 2 ^ 64 = omega (arith, read.1, read.2) in
      (read.2, inl (sym (decimal-digits_value decimals run read.0.1 read.0.0 (lone_zero run read.0.0 is) small) ∙ ap decimal (sym read.1)))

-- ---- what is spelled is read

value_grows : (radix : ℕ) (digits : List ℕ) (value : ℕ) → 0 < radix → value ≤ digits_value_after radix value digits
value_grows radix [] value some = omega arith
value_grows radix (c ∷ cs) value some =
    let later = value_grows radix cs (value * radix + digit_value c) some in
    let product = mul-le-mul_left value some in
    omega (arith, later, product)

module _ (radix : ℕ) (some : 0 < radix) where
  digits_read : (digits : List ℕ) (value : ℕ) → AllDigits radix digits → digits_value_after radix value digits < 2 ^ 32 → numeral_after radix digits (Some value) ≡ Some (digits_value_after radix value digits)
  digits_read [] value all small = refl
  digits_read (c ∷ cs) value all small =
      let fits : value * radix + digit_value c < 2 ^ 32 = omega (arith, value_grows radix cs (value * radix + digit_value c) some) in
      let first = cond-true (nat_lt (digit_value c) radix) (cond (nat_lt (value * radix + digit_value c) (2 ^ 32)) (Some (value * radix + digit_value c)) None) None (lt-ltb (digit_value c) radix all.0) in
      let second = cond-true (nat_lt (value * radix + digit_value c) (2 ^ 32)) (Some (value * radix + digit_value c)) None (lt-ltb (value * radix + digit_value c) (2 ^ 32) fits) in
      ap (numeral_after radix cs) (first ∙ second) ∙ digits_read cs (value * radix + digit_value c) all.1 small

  pub numeral-spelled : (digits : List ℕ) → IsNumeral radix digits → digits_value radix digits < 2 ^ 32 → numeral radix digits ≡ Some (digits_value radix digits)
  unfolding numeral
  numeral-spelled digits spelled small =
      cond-true (nat_lt 0 (length digits)) (numeral_after radix digits (Some 0)) None (lt-ltb 0 (length digits) spelled.0)
      ∙ digits_read digits 0 spelled.1 small

-- a decimal number has no digit behind a leading zero
no_prefix : (n : ℕ) → n < 2 ^ 64 → (nat_lt 1 (length (decimal n)) && (get_or (decimal n) 0 0 == 48)) ≡ false
no_prefix n small = by_value (cases_lt 0 n) where
  by_value : (0 < n) ⊎ (n ≤ 0) → (nat_lt 1 (length (decimal n)) && (get_or (decimal n) 0 0 == 48)) ≡ false
  by_value (inl above) =
      and_right (nat_lt 1 (length (decimal n))) (get_or (decimal n) 0 0 == 48) (ne_eqb (get_or (decimal n) 0 0) 48 (λ zero_first. let first = first_decimal n above small in absurd (omega arith)))
  by_value (inr none) =
      let one : length (decimal n) ≤ 1 = rw (decimal_digit n (omega arith)) (omega arith) in
      and_left (nat_lt 1 (length (decimal n))) (get_or (decimal n) 0 0 == 48) (le-ltb 1 (length (decimal n)) one)

pub number-spelled : (run : List ℕ) (n : ℕ) → SpellsNumber run n → number_of run ≡ Some n
unfolding number_of
number-spelled run n (small, inl is) =
    let wide : n < 2 ^ 64 = omega arith in
    let numeral_of = decimal_is_IsNumeral n wide in
    let value = numeral_of.1 in
    let read = numeral-spelled 10 (omega arith) (decimal n) numeral_of.0 (rw value small) in
    ap number_of is
    ∙ cond-false (nat_lt 1 (length (decimal n)) && (get_or (decimal n) 0 0 == 48)) (cond (get_or (decimal n) 1 0 == 120) (numeral 16 (drop 2 (decimal n))) None) (numeral 10 (decimal n)) (no_prefix n wide)
    ∙ read
    ∙ ap (λ it. Some it) value
number-spelled run n (small, inr (digits, is, spelled, value)) =
    let read = numeral-spelled 16 (omega arith) digits spelled (rw value at small) in
    let long : nat_lt 1 (suc (suc (length digits))) ≡ true = lt-ltb 1 (suc (suc (length digits))) (omega arith) in
    ap number_of is
    ∙ cond-true (nat_lt 1 (suc (suc (length digits))) && (48 == 48)) (cond (120 == 120) (numeral 16 digits) None) (numeral 10 (48 ∷ 120 ∷ digits)) (and_from (nat_lt 1 (suc (suc (length digits)))) (48 == 48) long refl)
    ∙ read
    ∙ ap (λ it. Some it) (sym value)
