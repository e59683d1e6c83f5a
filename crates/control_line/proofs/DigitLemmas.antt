-- How long the decimal digits of a number are, and words by their hexadecimal digits.
use Rattle.std.proofs.Common.{List, append-nil, append_assoc, codes, get_or, subst, suc, sym, take, zero, ◌++◌, ◌-◌, ◌≡◌, ◌∙◌, ◌+◌, ◌/◌, ◌%◌, ◌^◌, ◌<◌, ◌≤◌, ◌∷◌, [], ap, arith, decimal, length, length-append, ℕ}
use Rattle.std.specs.Char.{digit_char}
use Rattle.std.specs.List.{flat_map}
use Rattle.std.proofs.lemmas.Bool.Decides.{nat_tests}
use Rattle.std.proofs.lemmas.Fmt.{decimal_digit, decimal_step}
use Rattle.bpf_formats.specs.Hex.{hex_digits}
use Rattle.control_line.specs.Reply.{spaced_word}

pub one_digit : (n : ℕ) → n < 10 → length (decimal n) ≡ 1
one_digit n low = ap length (decimal_digit n low)

-- without the last digit
pub one_digit_less : (n : ℕ) → 10 ≤ n → n < 2 ^ 64 → length (decimal n) ≡ length (decimal (n / 10)) + 1
one_digit_less n more small = ap length (decimal_step n more small) ∙ length-append (decimal (n / 10)) ((48 + n % 10) ∷ [])

pub two_digits : (n : ℕ) → 10 ≤ n → n < 100 → length (decimal n) ≡ 2
two_digits n more less = omega (arith, one_digit_less n more (omega arith), one_digit (n / 10) (omega arith))

pub three_digits : (n : ℕ) → 100 ≤ n → n < 1000 → length (decimal n) ≡ 3
three_digits n more less = omega (arith, one_digit_less n (omega arith) (omega arith), two_digits (n / 10) (omega arith) (omega arith))

pub four_digits : (n : ℕ) → 1000 ≤ n → n < 10000 → length (decimal n) ≡ 4
four_digits n more less = omega (arith, one_digit_less n (omega arith) (omega arith), three_digits (n / 10) (omega arith) (omega arith))

-- without the last four digits
pub four_digits_less : (n : ℕ) → 10000 ≤ n → n < 2 ^ 64 → length (decimal n) ≡ length (decimal (n / 10000)) + 4
four_digits_less n more small =
    let by_ten : n / 10 / 10 / 10 / 10 ≡ n / 10000 = omega arith in
    omega (
      arith,
      one_digit_less n (omega arith) small,
      one_digit_less (n / 10) (omega arith) (omega arith),
      one_digit_less (n / 10 / 10) (omega arith) (omega arith),
      one_digit_less (n / 10 / 10 / 10) (omega arith) (omega arith),
      ap (λ k. length (decimal k)) by_ten,
    )

-- ---- hexadecimal digits

pub low_char : (d : ℕ) → d < 10 → digit_char d ≡ 48 + d
low_char d low = grind (arith, nat_tests)

pub high_char : (d : ℕ) → 10 ≤ d → digit_char d ≡ 87 + d
high_char d high = grind (arith, nat_tests)

pub hex_more : (count n : ℕ) → 0 < count → hex_digits count n ≡ hex_digits (count - 1) (n / 16) ++ digit_char (n % 16) ∷ []
unfolding hex_digits
hex_more zero n some = absurd (omega arith)
hex_more (suc count) n some = let less : count ≡ suc count - 1 = omega arith in ap (λ m. hex_digits m (n / 16) ++ digit_char (n % 16) ∷ []) less

-- one word more
words_after : (words : List ℕ) (i : ℕ) → i < length words
    → flat_map spaced_word (take (suc i) words) ≡ flat_map spaced_word (take i words) ++ (codes " " ++ hex_digits 16 (get_or words i 0))
words_after [] i inside = absurd (omega arith)
words_after (w ∷ ws) zero inside = append-nil (spaced_word w)
words_after (w ∷ ws) (suc i) inside =
    ap (λ text. spaced_word w ++ text) (words_after ws i (omega arith))
    ∙ sym (append_assoc (spaced_word w) (flat_map spaced_word (take i ws)) (codes " " ++ hex_digits 16 (get_or ws i 0)))

pub words_more : (words : List ℕ) (i : ℕ) → i < length words
    → flat_map spaced_word (take (i + 1) words) ≡ flat_map spaced_word (take i words) ++ (codes " " ++ hex_digits 16 (get_or words i 0))
words_more words i inside =
    let next : suc i ≡ i + 1 = omega arith in
    subst (λ n. flat_map spaced_word (take n words) ≡ flat_map spaced_word (take i words) ++ (codes " " ++ hex_digits 16 (get_or words i 0))) next (words_after words i inside)
