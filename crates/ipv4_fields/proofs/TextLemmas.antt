-- Pieces of texts: a text is cut at a separator in one way, and a number is spelled in one way.
use Rattle.std.proofs.Common.{◌≡◌, ◌≢◌, ◌∙◌, ◌==◌, ◌+◌, ◌/◌, ◌%◌, ◌^◌, ◌<◌, ◌≤◌, ◌⊎◌, ◌∷◌, ◌++◌, if◌then◌else◌, Bool, List, [], ap, arith, decimal, false, get_or, inl, inr, length, nat_lt, not, refl, suc, sym, true, zero, ℕ}
use Rattle.std.specs.Fmt.{digit_glyph, digits, digits_onto}
use Rattle.std.specs.List.{list_all}
use Rattle.std.specs.Str.Parse.{AllDigits, digits_value}
use Rattle.std.proofs.lemmas.Bool.{and_parts, cases_lt, eq-eqb, false≢true, lt-ltb}
use Rattle.std.proofs.lemmas.Fmt.{decimal-digits_value, decimal_digit, decimal_injective, decimal_nonempty, digits_decimal, digits_value-decimal, first_decimal, length-decimal-le}
use Rattle.std.proofs.lemmas.Str.Parse.{IsNumeralModel, digits_value_short, numerals_by_value, tells_digits}
use Rattle.ipv4_fields.specs.declared.endpoint.Endpoint.{Endpoint}
use Rattle.ipv4_fields.specs.Endpoint.{IsEndpoint, endpoint_text}
use Rattle.ipv4_fields.specs.Cut.{IsSplitAt, Lacks}
use Rattle.ipv4_fields.specs.body.Number.{IsNoDigit, IsPlain}

-- ---- separators

lacks-tail : (s x : ℕ) (text : List ℕ) → Lacks s (x ∷ text) → Lacks s text
lacks-tail s x text lacks k inside = lacks (suc k) (omega arith)

lacks-first : (s x : ℕ) (text : List ℕ) → Lacks s (x ∷ text) → x ≢ s
lacks-first s x text lacks = lacks 0 (omega arith)

pub lacks-cons : (s x : ℕ) (text : List ℕ) → x ≢ s → Lacks s text → Lacks s (x ∷ text)
lacks-cons s x text apart lacks zero inside = apart
lacks-cons s x text apart lacks (suc k) inside = lacks k (omega arith)

-- a text is cut at the first separator in one way
pub one_cut : (s : ℕ) (a c b d : List ℕ) → Lacks s a → Lacks s c → a ++ s ∷ b ≡ c ++ s ∷ d → (a ≡ c) × (b ≡ d)
one_cut s [] [] b d la lc e = (refl, cc)
one_cut s [] (y ∷ c) b d la lc e = let first : s ≡ y = cc in absurd (lacks-first s y c lc (sym first))
one_cut s (x ∷ a) [] b d la lc e = let first : x ≡ s = cc in absurd (lacks-first s x a la first)
one_cut s (x ∷ a) (y ∷ c) b d la lc e =
    let first : x ≡ y = cc in
    let tails : a ++ s ∷ b ≡ c ++ s ∷ d = cc in
    let rest = one_cut s a c b d (lacks-tail s x a la) (lacks-tail s y c lc) tails in
    let same = rest.0 in (cc, rest.1)

pub has_separator : (s : ℕ) (a b : List ℕ) → Lacks s (a ++ s ∷ b) → ⊥
has_separator s [] b lacks = lacks-first s s b lacks refl
has_separator s (x ∷ a) b lacks = has_separator s a b (lacks-tail s x (a ++ s ∷ b) lacks)

pub lacks-append : (s : ℕ) (a b : List ℕ) → Lacks s a → Lacks s b → Lacks s (a ++ b)
lacks-append s [] b la lb = lb
lacks-append s (x ∷ a) b la lb = lacks-cons s x (a ++ b) (lacks-first s x a la) (lacks-append s a b (lacks-tail s x a la) lb)

-- a text of which each byte is another
pub lacks-test : (s : ℕ) (text : List ℕ) → list_all (λ b. not (b == s)) text ≡ true → Lacks s text
lacks-test s [] all = λ k inside. absurd (omega arith)
lacks-test s (x ∷ text) all =
    let both = and_parts (not (x == s)) (list_all (λ b. not (b == s)) text) all in
    lacks-cons s x text (λ same. false≢true (rw (eq-eqb x s same) at both.0)) (lacks-test s text both.1)

-- ---- numbers

decimals : IsNumeralModel (AllDigits 10) (digits_value 10)
decimals = numerals_by_value (AllDigits 10) tells_digits

-- a digit is another byte
lacks-glyph : (s d : ℕ) → IsNoDigit s → d < 10 → digit_glyph false d ≢ s
lacks-glyph s d none small = by_size (nat_lt d 10) (lt-ltb d 10 small) none
  where
    by_size : (is_digit : Bool) → is_digit ≡ true → IsNoDigit s → (if is_digit then 48 + d else 87 + d) ≢ s
    by_size true is (inl below) same = absurd (omega (arith, same))
    by_size true is (inr above) same = absurd (omega (arith, same))
    by_size false is other same = absurd (false≢true is)

-- a digit more in front
onto_if : (s : ℕ) (last : Bool) (digit n k : ℕ) (acc : List ℕ) → digit ≢ s → Lacks s acc → (Lacks s (digit ∷ acc) → Lacks s (digits_onto k 10 false n (digit ∷ acc)))
    → Lacks s (if last then digit ∷ acc else digits_onto k 10 false n (digit ∷ acc))
onto_if s true digit n k acc apart lacks more = lacks-cons s digit acc apart lacks
onto_if s false digit n k acc apart lacks more = more (lacks-cons s digit acc apart lacks)

lacks-onto : (s k n : ℕ) (acc : List ℕ) → IsNoDigit s → Lacks s acc → Lacks s (digits_onto k 10 false n acc)
lacks-onto s zero n acc none lacks = lacks
lacks-onto s (suc k) n acc none lacks =
    onto_if s (n / 10 == 0) (digit_glyph false (n % 10)) (n / 10) k acc (lacks-glyph s (n % 10) none (omega arith)) lacks (lacks-onto s k (n / 10) (digit_glyph false (n % 10) ∷ acc) none)

pub lacks-decimal : (s n : ℕ) → IsNoDigit s → Lacks s (decimal n)
unfolding digits
lacks-decimal s n none = lacks-onto s 64 n [] none (λ k inside. absurd (omega arith))

pub plain-decimal : (n : ℕ) → n < 2 ^ 32 → IsPlain (decimal n)
plain-decimal n small = record {
  not_empty = decimal_nonempty n (omega arith);
  few = length-decimal-le 10 n (omega arith) (omega arith) (omega arith);
  no_leading_zero = λ zero_first. by_value zero_first (cases_lt 0 n);
}
  where
    by_value : get_or (decimal n) 0 0 ≡ 48 → (0 < n) ⊎ (n ≤ 0) → length (decimal n) ≡ 1
    by_value zero_first (inl above) = let first = first_decimal n above (omega arith) in absurd (omega arith)
    by_value zero_first (inr none) = ap length (decimal_digit n (omega arith))

-- the digits of a number have its value
pub digits_of_decimal : (n : ℕ) → n < 2 ^ 32 → AllDigits 10 (decimal n) × (digits_value 10 (decimal n) ≡ n)
digits_of_decimal n small = (digits_decimal decimals n (omega arith), digits_value-decimal decimals n (omega arith))

-- a plain field of digits spells their value
pub spelled_value : (field : List ℕ) → IsPlain field → AllDigits 10 field → digits_value 10 field < 2 ^ 32 → field ≡ decimal (digits_value 10 field)
spelled_value field plain digits small = sym (decimal-digits_value decimals field digits plain.not_empty plain.no_leading_zero (omega arith))

-- few digits have a value of less than 64 bits, also with a digit more behind them
pub value_small : (field : List ℕ) (k : ℕ) → AllDigits 10 field → length field ≤ k → digits_value 10 field < 10 ^ k
value_small field k digits few = digits_value_short decimals field k digits few

-- a part in front of a separator is the number that it spells
pub one_part : (s n : ℕ) (text part left rest : List ℕ) → IsNoDigit s → IsSplitAt s text part left → text ≡ decimal n ++ s ∷ rest → (part ≡ decimal n) × (left ≡ rest)
one_part s n text part left rest none cut is =
    one_cut s part (decimal n) left rest cut.lacks (lacks-decimal s n none) (sym cut.whole ∙ is)

-- a number before a separator and what stands behind it
pub number_parts : (s n m : ℕ) (left rest : List ℕ) → IsNoDigit s → n < 2 ^ 64 → m < 2 ^ 64 → decimal n ++ s ∷ left ≡ decimal m ++ s ∷ rest → (n ≡ m) × (left ≡ rest)
number_parts s n m left rest none n_small m_small same =
    let cut = one_cut s (decimal n) (decimal m) left rest (lacks-decimal s n none) (lacks-decimal s m none) same in
    (decimal_injective n m n_small m_small cut.0, cut.1)

-- ---- endpoints

-- the text of an endpoint from its fourth number on, from its third and from its second
abbrev pub from_fourth : Endpoint → List ℕ
from_fourth e = decimal (e.address % 256) ++ 58 ∷ decimal e.port

abbrev pub from_third : Endpoint → List ℕ
from_third e = decimal (e.address / 2 ^ 8 % 256) ++ 46 ∷ from_fourth e

abbrev pub from_second : Endpoint → List ℕ
from_second e = decimal (e.address / 2 ^ 16 % 256) ++ 46 ∷ from_third e

-- a byte below the dot, the digits and the colon
pub lacks-endpoint : (s : ℕ) (e : Endpoint) → s < 46 → Lacks s (endpoint_text e)
lacks-endpoint s e low =
    lacks-append s (decimal (e.address / 2 ^ 24)) _ (number (e.address / 2 ^ 24))
    (lacks-cons s 46 _ (λ same. absurd (omega (arith, same))) (lacks-append s (decimal (e.address / 2 ^ 16 % 256)) _ (number (e.address / 2 ^ 16 % 256))
    (lacks-cons s 46 _ (λ same. absurd (omega (arith, same))) (lacks-append s (decimal (e.address / 2 ^ 8 % 256)) _ (number (e.address / 2 ^ 8 % 256))
    (lacks-cons s 46 _ (λ same. absurd (omega (arith, same))) (lacks-append s (decimal (e.address % 256)) _ (number (e.address % 256))
    (lacks-cons s 58 _ (λ same. absurd (omega (arith, same))) (number e.port))))))))
  where
    number : (n : ℕ) → Lacks s (decimal n)
    number n = lacks-decimal s n (inl (omega arith))

-- no text is that of two endpoints
pub one_endpoint : (e f : Endpoint) → IsEndpoint e → IsEndpoint f → endpoint_text e ≡ endpoint_text f → e ≡ f
one_endpoint e f e_range f_range same =
    let first = number_parts 46 (e.address / 2 ^ 24) (f.address / 2 ^ 24) (from_second e) (from_second f) (inl (omega arith)) (omega (arith, e_range.address)) (omega (arith, f_range.address)) same in
    let second = number_parts 46 (e.address / 2 ^ 16 % 256) (f.address / 2 ^ 16 % 256) (from_third e) (from_third f) (inl (omega arith)) (omega arith) (omega arith) first.1 in
    let third = number_parts 46 (e.address / 2 ^ 8 % 256) (f.address / 2 ^ 8 % 256) (from_fourth e) (from_fourth f) (inl (omega arith)) (omega arith) (omega arith) second.1 in
    let fourth = number_parts 58 (e.address % 256) (f.address % 256) (decimal e.port) (decimal f.port) (inr (omega arith)) (omega arith) (omega arith) third.1 in
    let port = decimal_injective e.port f.port (omega (arith, e_range.port)) (omega (arith, f_range.port)) fourth.1 in
    let address : e.address ≡ f.address = omega (arith, first.0, second.0, third.0, fourth.0) in
    let at_address : ℕ → Endpoint = λ a. record { address = a; port = e.port } in
    let at_port : ℕ → Endpoint = λ p. record { address = f.address; port = p } in
    ap at_address address ∙ ap at_port port

module _ (field : List ℕ) (e : Endpoint) (range : IsEndpoint e) (is : field ≡ endpoint_text e) where
  pub second_stands : (a : ℕ) (rest : List ℕ) → a < 256 → field ≡ decimal a ++ 46 ∷ rest → rest ≡ from_second e
  second_stands a rest small read =
      (number_parts 46 a (e.address / 2 ^ 24) rest (from_second e) (inl (omega arith)) (omega arith) (omega (arith, range.address)) (sym read ∙ is)).1

  pub third_stands : (a b : ℕ) (rest more : List ℕ) → a < 256 → b < 256 → field ≡ decimal a ++ 46 ∷ rest → rest ≡ decimal b ++ 46 ∷ more → more ≡ from_third e
  third_stands a b rest more a_small b_small read then_read =
      (number_parts 46 b (e.address / 2 ^ 16 % 256) more (from_third e) (inl (omega arith)) (omega arith) (omega arith) (sym then_read ∙ second_stands a rest a_small read)).1

  pub fourth_stands : (a b c : ℕ) (rest more most : List ℕ) → a < 256 → b < 256 → c < 256 → field ≡ decimal a ++ 46 ∷ rest → rest ≡ decimal b ++ 46 ∷ more → more ≡ decimal c ++ 46 ∷ most → most ≡ from_fourth e
  fourth_stands a b c rest more most a_small b_small c_small read then_read last_read =
      (number_parts 46 c (e.address / 2 ^ 8 % 256) most (from_fourth e) (inl (omega arith)) (omega arith) (omega arith) (sym last_read ∙ third_stands a b rest more a_small b_small read then_read)).1

  pub port_stands : (a b c d : ℕ) (rest more most port : List ℕ) → a < 256 → b < 256 → c < 256 → d < 256 → field ≡ decimal a ++ 46 ∷ rest → rest ≡ decimal b ++ 46 ∷ more → more ≡ decimal c ++ 46 ∷ most → most ≡ decimal d ++ 58 ∷ port → port ≡ decimal e.port
  port_stands a b c d rest more most port a_small b_small c_small d_small read then_read next_read last_read =
      (number_parts 58 d (e.address % 256) port (decimal e.port) (inr (omega arith)) (omega arith) (omega arith) (sym last_read ∙ fourth_stands a b c rest more most a_small b_small c_small read then_read next_read)).1
