-- The tokens of a text that is put together of texts of tokens.
use Rattle.std.proofs.Common.{◌≡◌, ◌<◌, ◌≤◌, ◌+◌, ◌-◌, ◌*◌, ◌/◌, ◌%◌, ◌^◌, ◌∙◌, ◌∷◌, ◌++◌, ◌&&◌, ◌||◌, Bool, List, None, [], ap, arith, cond, drop, false, length, nat_eq, refl, take, true, unwrap_or, ℕ}
use Rattle.std.proofs.Math.Seq.{drop-append_seam, take-append_seam}
use Rattle.std.proofs.lemmas.Bool.{eq-eqb, lt-ltb}
use Rattle.std.proofs.lemmas.Bool.Decides.{nat_tests}
use Rattle.std.proofs.lemmas.Fmt.{decimal_by_steps}
use Rattle.std.proofs.lemmas.List.Folds.{list_all-append, prefix_len-append}
use Rattle.std.proofs.lemmas.List.Sums.{fold-append}
use Rattle.std.specs.Char.{digit_value, is_ascii_digit}
use Rattle.std.specs.Fmt.{decimal}
use Rattle.std.specs.List.{list_all, list_any, prefix_len}
use Rattle.filter_parse.specs.declared.token.Lexeme.{Lexeme}
use Rattle.filter_parse.specs.declared.token.TheConstants.{TOO_BIG}
use Rattle.filter_parse.specs.declared.token.Token.{Token}
use Rattle.filter_parse.specs.declared.token.Token.TheVariants.{Address, Number, Stray}
use Rattle.filter_parse.specs.Token.{address_of, begins_word, capped, is_blank, is_decimal, is_dot, is_hexadecimal, is_number_part, is_word_part, kinds, number_or_address, number_token, pair_sign, sign, value_of, word_token}
use Rattle.filter_parse.specs.body.Scan.{lexeme, sign_lexeme, sign_or, tokens_from}
use Rattle.filter_parse.proofs.TokenLemmas.{tokens_from-inside}

-- the tokens of a text, wherever it stands
pub record Lexes (text : List ℕ) (tokens : List Token) : Type 0 where
  pub same : (place : ℕ) → kinds (tokens_from 0 place text) ≡ tokens

pub lexes-one : (c : ℕ) (text rest : List ℕ) (l : Lexeme) (tokens : List Token) → is_blank c ≡ false → lexeme c text ≡ l → drop (l.len - 1) text ≡ rest →
    Lexes rest tokens → Lexes (c ∷ text) (l.token ∷ tokens)
lexes-one c text rest l tokens dark is behind h = record {
  same = λ place.
      ap (λ t. kinds (cond t (tokens_from 0 (place + 1) text) (record { token = (lexeme c text).token; place = place } ∷ tokens_from ((lexeme c text).len - 1) (place + 1) text))) dark
      ∙ ap (λ (m : Lexeme). m.token ∷ kinds (tokens_from (m.len - 1) (place + 1) text)) is
      ∙ ap (λ ts. l.token ∷ ts)
      (ap kinds (tokens_from-inside (l.len - 1) (place + 1) text)
      ∙ ap (λ r. kinds (tokens_from 0 ((place + 1) + (l.len - 1)) r)) behind
      ∙ h.same ((place + 1) + (l.len - 1)));
}

pub lexes-space : (rest : List ℕ) (tokens : List Token) → Lexes rest tokens → Lexes (32 ∷ rest) tokens
lexes-space rest tokens h = record { same = λ place. h.same (place + 1) }

pub longest : (p : ℕ → Bool) (w rest : List ℕ) → prefix_len p w ≡ length w → prefix_len p rest ≡ 0 → prefix_len p (w ++ rest) ≡ length w
longest p w rest full apart =
    prefix_len-append p w rest
    ∙ ap (λ n. cond (nat_eq n (length w)) (length w + prefix_len p rest) n) full
    ∙ ap (λ t. cond t (length w + prefix_len p rest) (length w)) (eq-eqb (length w) (length w) refl)
    ∙ ap (λ n. length w + n) apart ∙ omega arith

pub lexeme-word : (c : ℕ) (w rest : List ℕ) → begins_word c ≡ true → prefix_len is_word_part (c ∷ w) ≡ length (c ∷ w) → prefix_len is_word_part rest ≡ 0 →
    lexeme c (w ++ rest) ≡ record { token = word_token (c ∷ w); len = length (c ∷ w) }
lexeme-word c w rest begins full apart =
    ap (λ t. cond t (record { token = word_token (take (prefix_len is_word_part (c ∷ w ++ rest)) (c ∷ w ++ rest)); len = prefix_len is_word_part (c ∷ w ++ rest) })
    (cond (is_ascii_digit c) (record { token = number_or_address (take (prefix_len is_number_part (c ∷ w ++ rest)) (c ∷ w ++ rest)); len = prefix_len is_number_part (c ∷ w ++ rest) }) (sign_lexeme c (w ++ rest)))) begins
    ∙ ap (λ n. record { token = word_token (take n (c ∷ w ++ rest)); len = n }) (longest is_word_part (c ∷ w) rest full apart)
    ∙ ap (λ x. record { token = word_token x; len = length (c ∷ w) }) (take-append_seam (c ∷ w) rest)

pub lexes-word : (c : ℕ) (w rest : List ℕ) (token : Token) (tokens : List Token) → is_blank c ≡ false → begins_word c ≡ true →
    prefix_len is_word_part (c ∷ w) ≡ length (c ∷ w) → word_token (c ∷ w) ≡ token → prefix_len is_word_part rest ≡ 0 →
    Lexes rest tokens → Lexes ((c ∷ w) ++ rest) (token ∷ tokens)
lexes-word c w rest token tokens dark begins full is apart h =
    lexes-one c (w ++ rest) rest (record { token = token; len = length (c ∷ w) }) tokens dark
    (lexeme-word c w rest begins full apart ∙ ap (λ k. record { token = k; len = length (c ∷ w) }) is)
    (ap (λ n. drop n (w ++ rest)) (omega arith) ∙ drop-append_seam w rest) h

pub lexeme-digits : (c : ℕ) (w rest : List ℕ) → begins_word c ≡ false → is_ascii_digit c ≡ true → prefix_len is_number_part (c ∷ w) ≡ length (c ∷ w) →
    prefix_len is_number_part rest ≡ 0 → lexeme c (w ++ rest) ≡ record { token = number_or_address (c ∷ w); len = length (c ∷ w) }
lexeme-digits c w rest no_word begins full apart =
    ap (λ t. cond t (record { token = word_token (take (prefix_len is_word_part (c ∷ w ++ rest)) (c ∷ w ++ rest)); len = prefix_len is_word_part (c ∷ w ++ rest) })
    (cond (is_ascii_digit c) (record { token = number_or_address (take (prefix_len is_number_part (c ∷ w ++ rest)) (c ∷ w ++ rest)); len = prefix_len is_number_part (c ∷ w ++ rest) }) (sign_lexeme c (w ++ rest)))) no_word
    ∙ ap (λ t. cond t (record { token = number_or_address (take (prefix_len is_number_part (c ∷ w ++ rest)) (c ∷ w ++ rest)); len = prefix_len is_number_part (c ∷ w ++ rest) }) (sign_lexeme c (w ++ rest))) begins
    ∙ ap (λ n. record { token = number_or_address (take n (c ∷ w ++ rest)); len = n }) (longest is_number_part (c ∷ w) rest full apart)
    ∙ ap (λ x. record { token = number_or_address x; len = length (c ∷ w) }) (take-append_seam (c ∷ w) rest)

pub lexes-digits : (c : ℕ) (w rest : List ℕ) (token : Token) (tokens : List Token) → is_blank c ≡ false → begins_word c ≡ false → is_ascii_digit c ≡ true →
    prefix_len is_number_part (c ∷ w) ≡ length (c ∷ w) → number_or_address (c ∷ w) ≡ token → prefix_len is_number_part rest ≡ 0 →
    Lexes rest tokens → Lexes ((c ∷ w) ++ rest) (token ∷ tokens)
lexes-digits c w rest token tokens dark no_word begins full is apart h =
    lexes-one c (w ++ rest) rest (record { token = token; len = length (c ∷ w) }) tokens dark
    (lexeme-digits c w rest no_word begins full apart ∙ ap (λ k. record { token = k; len = length (c ∷ w) }) is)
    (ap (λ n. drop n (w ++ rest)) (omega arith) ∙ drop-append_seam w rest) h

-- no sign of two bytes begins where this one stands
abbrev pub IsAlone : ℕ → List ℕ → Type 0
IsAlone c [] = Unit {0}
IsAlone c (d ∷ rest) = pair_sign c d ≡ None

sign-alone : (c : ℕ) (rest : List ℕ) → IsAlone c rest → sign_lexeme c rest ≡ record { token = sign c; len = 1 }
sign-alone c [] alone = refl
sign-alone c (d ∷ rest) alone = ap (sign_or c) alone

pub lexeme-sign : (c : ℕ) (rest : List ℕ) → begins_word c ≡ false → is_ascii_digit c ≡ false → lexeme c rest ≡ sign_lexeme c rest
lexeme-sign c rest no_word no_digit =
    ap (λ t. cond t (record { token = word_token (take (prefix_len is_word_part (c ∷ rest)) (c ∷ rest)); len = prefix_len is_word_part (c ∷ rest) })
    (cond (is_ascii_digit c) (record { token = number_or_address (take (prefix_len is_number_part (c ∷ rest)) (c ∷ rest)); len = prefix_len is_number_part (c ∷ rest) }) (sign_lexeme c rest))) no_word
    ∙ ap (λ t. cond t (record { token = number_or_address (take (prefix_len is_number_part (c ∷ rest)) (c ∷ rest)); len = prefix_len is_number_part (c ∷ rest) }) (sign_lexeme c rest)) no_digit

pub lexes-sign : (c : ℕ) (rest : List ℕ) (tokens : List Token) → is_blank c ≡ false → begins_word c ≡ false → is_ascii_digit c ≡ false → IsAlone c rest →
    Lexes rest tokens → Lexes (c ∷ rest) (sign c ∷ tokens)
lexes-sign c rest tokens dark no_word no_digit alone h =
    lexes-one c rest rest (record { token = sign c; len = 1 }) tokens dark
    (lexeme-sign c rest no_word no_digit ∙ sign-alone c rest alone)
    refl h

-- a decimal digit
pub digit-part : (c : ℕ) → is_ascii_digit c ≡ true → is_number_part c ≡ true
digit-part c h = grind (arith, nat_tests)

pub digit-no_dot : (c : ℕ) → is_ascii_digit c ≡ true → is_dot c ≡ false
digit-no_dot c h = grind (arith, nat_tests)

-- a number of several digits does not begin with 0
abbrev pub HasNoZero : ℕ → List ℕ → Type 0
HasNoZero c [] = Unit {0}
HasNoZero c (d ∷ w) = 48 < c

no_zero : (c : ℕ) (w : List ℕ) (x : ℕ) → 48 < c → HasNoZero c (w ++ x ∷ [])
no_zero c [] x h = h
no_zero c (d ∷ w) x h = h

-- decimal digits that are worth n, without a leading zero
abbrev pub IsRun : ℕ → List ℕ → Type 0
IsRun n [] = ⊥
IsRun n (c ∷ w) = (list_all is_ascii_digit (c ∷ w) ≡ true) × (value_of 10 (c ∷ w) ≡ n) × (0 < n → 48 < c) × HasNoZero c w

digit-of : (n : ℕ) → n < 10 → is_ascii_digit (48 + n) ≡ true
digit-of n h = grind (arith, nat_tests)

digit_value-of : (n : ℕ) → n < 10 → digit_value (48 + n) ≡ n
digit_value-of n h = grind (arith, nat_tests)

run-one : (n : ℕ) → n < 10 → IsRun n ((48 + n) ∷ [])
run-one n h = (ap (λ t. t && true) (digit-of n h), omega (arith, digit_value-of n h), λ above. omega arith, tt)

run-more : (n : ℕ) (ds : List ℕ) → 10 ≤ n → IsRun (n / 10) ds → IsRun n (ds ++ (48 + n % 10) ∷ [])
run-more n [] h r = absurd r
run-more n (c ∷ w) h r =
    let last : n % 10 < 10 = omega arith in (
      list_all-append is_ascii_digit (c ∷ w) ((48 + n % 10) ∷ []) ∙ ap (λ t. t && (is_ascii_digit (48 + n % 10) && true)) r.0 ∙ ap (λ t. t && true) (digit-of (n % 10) last),
      fold-append (λ m d. m * 10 + digit_value d) 0 (c ∷ w) ((48 + n % 10) ∷ [])
          ∙ ap (λ m. m * 10 + digit_value (48 + n % 10)) r.1 ∙ ap (λ d. n / 10 * 10 + d) (digit_value-of (n % 10) last) ∙ omega arith,
      λ above. r.2 (omega arith),
      no_zero c w (48 + n % 10) (r.2 (omega arith)),
    )

pub decimal-run : (n : ℕ) → n < 2 ^ 64 → IsRun n (decimal n)
decimal-run n h = decimal_by_steps IsRun run-one run-more n h

pub and-parts : (a b : Bool) → (a && b) ≡ true → (a ≡ true) × (b ≡ true)
and-parts true b h = (refl, h)
and-parts false b h = absurd cc

pub all-prefix : (p q : ℕ → Bool) → ((c : ℕ) → p c ≡ true → q c ≡ true) → (ds : List ℕ) → list_all p ds ≡ true → prefix_len q ds ≡ length ds
all-prefix p q same [] h = refl
all-prefix p q same (c ∷ ds) h =
    let both = and-parts (p c) (list_all p ds) h in
    ap (λ t. cond t (1 + prefix_len q ds) 0) (same c both.0) ∙ ap (λ n. 1 + n) (all-prefix p q same ds both.1) ∙ omega arith

pub none-any : (p q : ℕ → Bool) → ((c : ℕ) → p c ≡ true → q c ≡ false) → (ds : List ℕ) → list_all p ds ≡ true → list_any q ds ≡ false
none-any p q differ [] h = refl
none-any p q differ (c ∷ ds) h =
    let both = and-parts (p c) (list_all p ds) h in
    ap (λ t. t || list_any q ds) (differ c both.0) ∙ none-any p q differ ds both.1

pub run-decimal : (n c : ℕ) (w : List ℕ) → IsRun n (c ∷ w) → is_decimal (c ∷ w) ≡ true
run-decimal n c [] r = (and-parts (is_ascii_digit c) true r.0).0
run-decimal n c (d ∷ w) r = ap (λ t. t && list_all is_ascii_digit (c ∷ d ∷ w)) (lt-ltb 48 c r.3) ∙ r.0

pub digit-dark : (c : ℕ) → is_ascii_digit c ≡ true → is_blank c ≡ false
digit-dark c h = grind (arith, nat_tests)

pub digit-no_word : (c : ℕ) → is_ascii_digit c ≡ true → begins_word c ≡ false
digit-no_word c h = grind (arith, nat_tests)

run-token : (n : ℕ) (ds : List ℕ) → n < 2 ^ 32 → IsRun n ds → number_or_address ds ≡ Number n
run-token n [] h r = absurd r
run-token n (c ∷ w) h r =
    ap (λ t. cond t (Address (unwrap_or (address_of (c ∷ w)) TOO_BIG)) (number_token (c ∷ w))) (none-any is_ascii_digit is_dot digit-no_dot (c ∷ w) r.0)
    ∙ ap (λ t. cond t (Number (capped (value_of 10 (c ∷ w)))) (cond (is_hexadecimal (c ∷ w)) (Number (capped (value_of 16 (drop 2 (c ∷ w))))) Stray)) (run-decimal n c w r)
    ∙ ap (λ m. Number (capped m)) r.1 ∙ ap Number (omega arith)

lexes-run : (n : ℕ) (ds rest : List ℕ) (tokens : List Token) → n < 2 ^ 32 → IsRun n ds → prefix_len is_number_part rest ≡ 0 → Lexes rest tokens →
    Lexes (ds ++ rest) (Number n ∷ tokens)
lexes-run n [] rest tokens small r apart h = absurd r
lexes-run n (c ∷ w) rest tokens small r apart h =
    let digit = (and-parts (is_ascii_digit c) (list_all is_ascii_digit w) r.0).0 in
    lexes-digits c w rest (Number n) tokens (digit-dark c digit) (digit-no_word c digit) digit
    (all-prefix is_ascii_digit is_number_part digit-part (c ∷ w) r.0) (run-token n (c ∷ w) small r) apart h

-- a number as it is printed
pub lexes-decimal : (n : ℕ) (rest : List ℕ) (tokens : List Token) → n < 2 ^ 32 → prefix_len is_number_part rest ≡ 0 → Lexes rest tokens →
    Lexes (decimal n ++ rest) (Number n ∷ tokens)
lexes-decimal n rest tokens small apart h = lexes-run n (decimal n) rest tokens small (decimal-run n (omega arith)) apart h
