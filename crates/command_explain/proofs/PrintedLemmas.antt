-- What stands around a code is read in one way.
use Rattle.std.proofs.Common.{◌≡◌, ◌≢◌, ◌∙◌, ◌+◌, ◌^◌, ◌<◌, ◌≤◌, ◌⊎◌, ◌==◌, ◌∷◌, ◌++◌, Bool, Err, List, MatchOption, None, Ok, Option, Result, Some, [], ap, arith, codes, decimal, false, get_or, inl, inr, length, nat_lt, not, refl, subst, suc, sym, true, zero, ℕ}
use Rattle.std.specs.Prelude.{Contains}
use Rattle.std.specs.List.{list_all}
use Rattle.std.specs.Result.{result_ok}
use Rattle.std.specs.Str.{IsAscii, IsUtf8}
use Rattle.std.specs.Str.Parse.{AllDigits, ParsesUnsigned, digits_value}
use Rattle.std.proofs.lemmas.Bool.{and_parts, cases_lt, false≢true, ltb-true}
use Rattle.std.proofs.lemmas.Fmt.{IsAscii-decimal, decimal-digits_value, decimal_digit, decimal_injective, decimal_nonempty, digits_decimal, digits_value-decimal, first_decimal}
use Rattle.std.proofs.lemmas.List.{append-nil, append_cancel_left}
use Rattle.std.proofs.lemmas.List.Elements.{All-contains}
use Rattle.std.proofs.lemmas.List.Sums.{AllPass-from_list_all}
use Rattle.std.proofs.lemmas.Str.{IsUtf8-from_ascii}
use Rattle.std.proofs.lemmas.Str.Parse.{IsNumeralModel, numerals_by_value, tells_digits, without_leading_plus_none}
use Rattle.ipv4_fields.specs.Cut.{Lacks}
use Rattle.ipv4_fields.proofs.TextLemmas.{has_separator, lacks-decimal, lacks-test, one_cut}
use Rattle.command_explain.specs.Explanation.{codes_explained}
use Rattle.command_explain.specs.Printed.{Front, IsNumber, ShowsCode, bare, failed, front_text, line_text, number_text, refused}
use Rattle.command_explain.specs.body.Word.{BeginsSmall, IsAfterWord, IsPlain}

-- ---- numbers

decimals : IsNumeralModel (AllDigits 10) (digits_value 10)
decimals = numerals_by_value (AllDigits 10) tells_digits

pub plain-decimal : (n : ℕ) → n < 2 ^ 64 → IsPlain (decimal n)
plain-decimal n small = record {
  not_empty = decimal_nonempty n small;
  no_sign = λ sign. unsigned sign (cases_lt 0 n);
  no_leading_zero = λ zero_first. by_value zero_first (cases_lt 0 n);
}
  where
    zero_of : n ≤ 0 → decimal n ≡ (48 + n) ∷ []
    zero_of none = decimal_digit n (omega arith)

    unsigned : get_or (decimal n) 0 0 ≡ 43 → (0 < n) ⊎ (n ≤ 0) → ⊥
    unsigned sign (inl above) = let first = first_decimal n above small in absurd (omega arith)
    unsigned sign (inr none) =
        let at : get_or (decimal n) 0 0 ≡ 48 + n = ap (λ (d : List ℕ). get_or d 0 0) (zero_of none) in absurd (omega arith)

    by_value : get_or (decimal n) 0 0 ≡ 48 → (0 < n) ⊎ (n ≤ 0) → length (decimal n) ≡ 1
    by_value zero_first (inl above) = let first = first_decimal n above small in absurd (omega arith)
    by_value zero_first (inr none) = ap length (zero_of none)

pub utf8-decimal : (n : ℕ) → n < 2 ^ 64 → IsUtf8 (decimal n)
utf8-decimal n small = IsUtf8-from_ascii (decimal n) (IsAscii-decimal n small)

-- the answer of a call that parsed a plain field
pub parsed : {E : Type 0} (field : List ℕ) (r : Result ℕ E) → IsPlain field → ParsesUnsigned 64 10 field r
    → MatchOption (result_ok r) ((n : ℕ) → n < 2 ^ 64 → field ≢ decimal n) (λ n. field ≡ decimal n)
parsed field (Ok n) plain parses =
    let own = without_leading_plus_none field plain.no_sign in
    let digits : AllDigits 10 field = subst (AllDigits 10) own parses.0.0.1 in
    let value : n ≡ digits_value 10 field = parses.1 ∙ ap (digits_value 10) own in
    let small : digits_value 10 field < 2 ^ 64 = subst (λ ds. digits_value 10 ds < 2 ^ 64) own parses.0.1 in
    sym (decimal-digits_value decimals field digits plain.not_empty plain.no_leading_zero (omega (arith, small))) ∙ ap (λ m. decimal m) (sym value)
parsed field (Err e) plain parses = λ n small is.
    let own = without_leading_plus_none field plain.no_sign in
    let digits : AllDigits 10 field = subst (AllDigits 10) (sym is) (digits_decimal decimals n (omega (arith, small))) in
    let value : digits_value 10 field ≡ n = ap (digits_value 10) is ∙ digits_value-decimal decimals n (omega (arith, small)) in
    let fits : digits_value 10 field < 2 ^ 64 = omega (arith, small, value) in
    parses (subst (λ ds. ((0 < length ds) × AllDigits 10 ds) × (digits_value 10 ds < 2 ^ 64)) (sym own) ((plain.not_empty, digits), fits))

-- ---- words

-- a word is cut in one way from what follows it
pub word_cut : (word other rest more : List ℕ) → Lacks 32 word → Lacks 32 other → IsAfterWord rest → IsAfterWord more → word ++ rest ≡ other ++ more → (word ≡ other) × (rest ≡ more)
word_cut word other [] [] lacks also after after' same = (sym (append-nil word) ∙ same ∙ append-nil other, refl)
word_cut word other [] (byte ∷ more) lacks also after after' same =
    let at : byte ≡ 32 = after' in
    absurd (has_separator 32 other more (subst (λ (b : ℕ). Lacks 32 (other ++ b ∷ more)) at (subst (Lacks 32) (sym (append-nil word) ∙ same) lacks)))
word_cut word other (byte ∷ rest) [] lacks also after after' same =
    let at : byte ≡ 32 = after in
    absurd (has_separator 32 word rest (subst (λ (b : ℕ). Lacks 32 (word ++ b ∷ rest)) at (subst (Lacks 32) (sym (append-nil other) ∙ sym same) also)))
word_cut word other (byte ∷ rest) (byte' ∷ more) lacks also after after' same =
    let at : byte ≡ 32 = after in let at' : byte' ≡ 32 = after' in
    let cut = one_cut 32 word other rest more lacks also (ap (λ (b : ℕ). word ++ b ∷ rest) (sym at) ∙ same ∙ ap (λ (b : ℕ). other ++ b ∷ more) at') in
    (cut.0, ap (λ (b : ℕ). b ∷ rest) at ∙ ap (λ (r : List ℕ). 32 ∷ r) cut.1 ∙ ap (λ (b : ℕ). b ∷ more) (sym at'))

lacks-number : (n : ℕ) → Lacks 32 (decimal n)
lacks-number n = lacks-decimal 32 n (inl (omega arith))

after-line : (line : Option ℕ) → IsAfterWord (line_text line)
after-line None = tt
after-line (Some n) = refl

after-numbers : (number line : Option ℕ) → IsAfterWord (number_text number ++ line_text line)
after-numbers None line = after-line line
after-numbers (Some n) line = refl

-- ---- the numbers after a code

-- a number is cut in one way from the line that follows
number_cut : (n : ℕ) (line : Option ℕ) (word more : List ℕ) → Lacks 32 word → IsAfterWord more → word ++ more ≡ decimal n ++ line_text line → (word ≡ decimal n) × (more ≡ line_text line)
number_cut n line word more lacks after same = word_cut word (decimal n) more (line_text line) lacks (lacks-number n) after (after-line line) same

module _ (text rest word more : List ℕ) (stripped : text ≡ codes " " ++ rest) (whole : rest ≡ word ++ more) (lacks : Lacks 32 word) (after : IsAfterWord more) where
  abbrev pub HasNoNumbers : Type 0
  HasNoNumbers = (number line : Option ℕ) → IsNumber number → IsNumber line → text ≢ number_text number ++ line_text line

  abbrev pub HasNoLine : List ℕ → Type 0
  HasNoLine text = (line : Option ℕ) → IsNumber line → text ≢ line_text line

  cut_is : (n : ℕ) (line : Option ℕ) → text ≡ number_text (Some n) ++ line_text line → (word ≡ decimal n) × (more ≡ line_text line)
  cut_is n line is =
      let same : 32 ∷ (word ++ more) ≡ 32 ∷ (decimal n ++ line_text line) = ap (λ (t : List ℕ). 32 ∷ t) (sym whole) ∙ sym stripped ∙ is in
      let behind : word ++ more ≡ decimal n ++ line_text line = cc in
      number_cut n line word more lacks after behind

  pub no_number : HasNoLine text → ((n : ℕ) → n < 2 ^ 64 → word ≢ decimal n) → HasNoNumbers
  no_number none misspelt None line fits line_fits is = none line line_fits is
  no_number none misspelt (Some n) line fits line_fits is = misspelt n fits (cut_is n line is).0

  no_line : HasNoLine text → HasNoLine more → HasNoNumbers
  no_line none none_after None line fits line_fits is = none line line_fits is
  no_line none none_after (Some n) line fits line_fits is = none_after line line_fits (cut_is n line is).1

  is_number : (n : ℕ) (line : Option ℕ) → word ≡ decimal n → more ≡ line_text line → text ≡ number_text (Some n) ++ line_text line
  is_number n line spelled then_line =
      stripped ∙ ap (λ (t : List ℕ). 32 ∷ t) (whole ∙ ap (λ (w : List ℕ). w ++ more) spelled ∙ ap (λ (m : List ℕ). decimal n ++ m) then_line)

  pub line_after : (n : ℕ) (read : Option (Option ℕ)) → HasNoLine text → n < 2 ^ 64 → word ≡ decimal n
      → MatchOption read (HasNoLine more) (λ line. IsNumber line × (more ≡ line_text line))
      → MatchOption read HasNoNumbers (λ line. IsNumber line × ((number : Option ℕ) × IsNumber number × (text ≡ number_text number ++ line_text line)))
  line_after n None none small spelled none_after = no_line none none_after
  line_after n (Some line) none small spelled is = (is.0, (Some n, small, is_number n line spelled is.1))

-- no text is that of two lines
line_is : (line other : Option ℕ) → IsNumber line → IsNumber other → line_text line ≡ line_text other → line ≡ other
line_is None None fits fits' same = refl
line_is None (Some m) fits fits' same = absurd (cc)
line_is (Some n) None fits fits' same = absurd (cc)
line_is (Some n) (Some m) fits fits' same =
    ap (λ (k : ℕ). Some k) (decimal_injective n m fits fits' (append_cancel_left (codes " line ") (decimal n) (decimal m) same))

-- a number is not the word `line`
number_is_line : (n : ℕ) (line : Option ℕ) (m : ℕ) → number_text (Some n) ++ line_text line ≡ line_text (Some m) → ⊥
number_is_line n line m same =
    let behind : decimal n ++ line_text line ≡ codes "line" ++ (32 ∷ decimal m) = append_cancel_left (32 ∷ []) (decimal n ++ line_text line) (codes "line" ++ (32 ∷ decimal m)) same in
    let word : decimal n ≡ codes "line" = (word_cut (decimal n) (codes "line") (line_text line) (32 ∷ decimal m) (lacks-number n) (lacks-test 32 (codes "line") refl) (after-line line) refl behind).0 in
    let lacks : Lacks 108 (codes "line") = subst (Lacks 108) word (lacks-decimal 108 n (inr (omega arith))) in
    lacks 0 (omega arith) refl

pub one_line : (number other line also : Option ℕ) → IsNumber line → IsNumber also → number_text number ++ line_text line ≡ number_text other ++ line_text also → line ≡ also
one_line None None line also fits fits' same = line_is line also fits fits' same
one_line None (Some m) None also fits fits' same = absurd (cc)
one_line None (Some m) (Some n) also fits fits' same = absurd (number_is_line m also n (sym same))
one_line (Some n) None line None fits fits' same = absurd (cc)
one_line (Some n) None line (Some m) fits fits' same = absurd (number_is_line n line m same)
one_line (Some n) (Some m) line also fits fits' same =
    let behind : decimal n ++ line_text line ≡ decimal m ++ line_text also = append_cancel_left (32 ∷ []) (decimal n ++ line_text line) (decimal m ++ line_text also) same in
    line_is line also fits fits' (number_cut m also (decimal n) (line_text line) (lacks-number n) (after-line line) behind).1

-- ---- codes

module _ (code : List ℕ) (known : Contains codes_explained code) where
  -- what a test of each code tells
  tested : (test : List ℕ → Bool) → list_all test codes_explained ≡ true → test code ≡ true
  tested test all = All-contains (λ c. test c ≡ true) codes_explained code (AllPass-from_list_all test codes_explained all) known

  pub lacks-code : Lacks 32 code
  lacks-code = lacks-test 32 code (tested (λ c. list_all (λ b. not (b == 32)) c) refl)

  pub utf8-code : IsUtf8 code
  utf8-code = IsUtf8-from_ascii code (ascii code (tested (λ c. list_all (λ b. nat_lt b 128) c) refl))
    where
      ascii : (bytes : List ℕ) → list_all (λ b. nat_lt b 128) bytes ≡ true → IsAscii bytes
      ascii [] all i = omega arith
      ascii (b ∷ bytes) all zero = ltb-true b 128 (and_parts (nat_lt b 128) _ all).0
      ascii (b ∷ bytes) all (suc i) = ascii bytes (and_parts (nat_lt b 128) (list_all (λ d. nat_lt d 128) bytes) all).1 i

  -- a capital letter is no small one
  pub begins-code : (rest : List ℕ) → BeginsSmall (code ++ rest) → ⊥
  begins-code rest small = capital code rest (tested begins_capital refl) small
    where
      begins_capital : List ℕ → Bool
      begins_capital [] = false
      begins_capital (b ∷ bytes) = nat_lt b 97

      capital : (bytes rest : List ℕ) → begins_capital bytes ≡ true → BeginsSmall (bytes ++ rest) → ⊥
      capital [] rest is small = false≢true is
      capital (b ∷ bytes) rest is small = let below : b < 97 = ltb-true b 97 is in omega (arith, small.0)

-- ---- what stands before a code

apart : (rest more : List ℕ) → codes "refused " ++ rest ≡ codes "failed " ++ more → ⊥
apart rest more same = let first : 114 ≡ 102 = ap (λ (t : List ℕ). get_or t 0 0) same in absurd (omega (arith, first))

module _ (text : List ℕ) where
  -- the text after `refused `, after `failed `, and without either
  abbrev pub IsCutOnly : List ℕ → Type 0
  IsCutOnly cut = (front : Front) (rest : List ℕ) → (BeginsSmall rest → ⊥) → text ≡ front_text front ++ rest → cut ≡ rest

  pub after_refused : (cut : List ℕ) → text ≡ codes "refused " ++ cut → IsCutOnly cut
  after_refused cut is bare rest large also = absurd (large (subst BeginsSmall (sym is ∙ also) (omega arith, omega arith)))
  after_refused cut is refused rest large also = append_cancel_left (codes "refused ") cut rest (sym is ∙ also)
  after_refused cut is failed rest large also = absurd (apart cut rest (sym is ∙ also))

  pub after_failed : (cut : List ℕ) → text ≡ codes "failed " ++ cut → IsCutOnly cut
  after_failed cut is bare rest large also = absurd (large (subst BeginsSmall (sym is ∙ also) (omega arith, omega arith)))
  after_failed cut is refused rest large also = absurd (apart rest cut (sym also ∙ is))
  after_failed cut is failed rest large also = append_cancel_left (codes "failed ") cut rest (sym is ∙ also)

  pub after_neither : ((rest : List ℕ) → text ≢ codes "refused " ++ rest) → ((rest : List ℕ) → text ≢ codes "failed " ++ rest) → IsCutOnly text
  after_neither not_refused not_failed bare rest large also = also
  after_neither not_refused not_failed refused rest large also = absurd (not_refused rest also)
  after_neither not_refused not_failed failed rest large also = absurd (not_failed rest also)

-- ---- the whole text

module _ (text cut word rest : List ℕ) (only : IsCutOnly text cut) (whole : cut ≡ word ++ rest) (lacks : Lacks 32 word) (after : IsAfterWord rest) where
  -- what is read is what is shown
  parts : (code : List ℕ) (line : Option ℕ) (shows : ShowsCode text code line) → (word ≡ code) × (rest ≡ number_text shows.number ++ line_text line)
  parts code line shows =
      let numbers : List ℕ = number_text shows.number ++ line_text line in
      let is : cut ≡ code ++ numbers = only shows.front (code ++ numbers) (begins-code code shows.is_code numbers) shows.whole in
      word_cut word code rest numbers lacks (lacks-code code shows.is_code) after (after-numbers shows.number line) (sym whole ∙ is)

  pub no_code : (Contains codes_explained word → ⊥) → (code : List ℕ) (line : Option ℕ) → ShowsCode text code line → ⊥
  no_code unknown code line shows = unknown (subst (Contains codes_explained) (sym (parts code line shows).0) shows.is_code)

  pub no_numbers : ((number line : Option ℕ) → IsNumber number → IsNumber line → rest ≢ number_text number ++ line_text line)
      → (code : List ℕ) (line : Option ℕ) → ShowsCode text code line → ⊥
  no_numbers none code line shows = none shows.number line shows.number_fits shows.line_fits (parts code line shows).1

  pub only_reading : (number line : Option ℕ) → IsNumber line → rest ≡ number_text number ++ line_text line
      → (code : List ℕ) (other : Option ℕ) → ShowsCode text code other → (code ≡ word) × (other ≡ line)
  only_reading number line fits is code other shows =
      (sym (parts code other shows).0, one_line shows.number number other line shows.line_fits fits (sym (parts code other shows).1 ∙ is))
