-- A decimal or hexadecimal number is read by its digits alone.
use Rattle.std.proofs.Common.{◌≡◌, ◌≤◌, ◌<◌, ◌==◌, ◌+◌, ◌∙◌, ◌∷◌, ◌&&◌, Bool, List, [], ap, arith, cond, drop, false, length, refl, suc, sym, take, true, unwrap_or, ℕ}
use Rattle.std.proofs.lemmas.Bool.Decides.{nat_tests}
use Rattle.std.proofs.lemmas.List.{length-take-le, take-append-drop}
use Rattle.std.specs.Char.{is_ascii_digit, is_ascii_hexdigit}
use Rattle.std.specs.List.{list_all, prefix_len}
use Rattle.filter_parse.specs.declared.token.TheConstants.{TOO_BIG}
use Rattle.filter_parse.specs.declared.token.Token.TheVariants.{Address, Number, Stray}
use Rattle.filter_parse.specs.Token.{address_of, capped, is_decimal, is_dot, is_hexadecimal, is_number_part, number_or_address, number_token, value_of}
use Rattle.filter_parse.specs.body.Number.{begins_hexadecimal, ends_number, is_plain, number_lexeme}
use Rattle.filter_parse.proofs.LexLemmas.{all-prefix, and-parts, digit-no_dot, digit-part, longest, none-any}
use Rattle.filter_parse.proofs.ScanLemmas.{run-all}
use Rattle.filter_parse.proofs.TokenLemmas.{rest_of, rest_of-drop}

plain-decimal : (c : ℕ) (digits : List ℕ) → list_all is_ascii_digit (c ∷ digits) ≡ true → is_plain (c ∷ digits) ≡ true → is_decimal (c ∷ digits) ≡ true
plain-decimal c [] all plain = (and-parts (is_ascii_digit c) true all).0
plain-decimal c (d ∷ digits) all plain = ap (λ t. t && list_all is_ascii_digit (c ∷ d ∷ digits)) plain ∙ all

plain-token : (digits : List ℕ) → list_all is_ascii_digit digits ≡ true → is_plain digits ≡ true → number_or_address digits ≡ Number (capped (value_of 10 digits))
plain-token [] all plain = absurd cc
plain-token (c ∷ digits) all plain =
    ap (λ t. cond t (Address (unwrap_or (address_of (c ∷ digits)) TOO_BIG)) (number_token (c ∷ digits))) (none-any is_ascii_digit is_dot digit-no_dot (c ∷ digits) all)
    ∙ ap (λ t. cond t (Number (capped (value_of 10 (c ∷ digits)))) (cond (is_hexadecimal (c ∷ digits)) (Number (capped (value_of 16 (drop 2 (c ∷ digits))))) Stray))
    (plain-decimal c digits all plain)

no-more-at : (c : ℕ) (rest : List ℕ) (part : Bool) → is_number_part c ≡ part → ends_number (c ∷ rest) ≡ true → prefix_len is_number_part (c ∷ rest) ≡ 0
no-more-at c rest true e ends = absurd cc
no-more-at c rest false e ends = ap (λ t. cond t (1 + prefix_len is_number_part rest) 0) e

no-more : (rest : List ℕ) → ends_number rest ≡ true → prefix_len is_number_part rest ≡ 0
no-more [] ends = refl
no-more (c ∷ rest) ends = no-more-at c rest (is_number_part c) refl ends

run-len : (part : ℕ → Bool) → ((c : ℕ) → part c ≡ true → is_number_part c ≡ true) → (text : List ℕ) (len : ℕ) → len ≡ prefix_len part text → len ≤ length text →
    ends_number (rest_of text len) ≡ true → prefix_len is_number_part text ≡ len
run-len part same text len is within ends =
    let all : list_all part (take len text) ≡ true = rw is (run-all part text) in
    ap (prefix_len is_number_part) (sym (take-append-drop len text))
    ∙ longest is_number_part (take len text) (drop len text) (all-prefix part is_number_part same (take len text) all)
    (ap (prefix_len is_number_part) (sym (rest_of-drop text len)) ∙ no-more (rest_of text len) ends)
    ∙ length-take-le len text within

pub plain-lexeme : (text : List ℕ) (len : ℕ) → len ≡ prefix_len is_ascii_digit text → len ≤ length text → is_plain (take len text) ≡ true →
    ends_number (rest_of text len) ≡ true → record { token = Number (capped (value_of 10 (take len text))); len = len } ≡ number_lexeme text
plain-lexeme text len is within plain ends =
    let all : list_all is_ascii_digit (take len text) ≡ true = rw is (run-all is_ascii_digit text) in
    let same = run-len is_ascii_digit digit-part text len is within ends in
    ap (λ t. record { token = t; len = len }) (sym (plain-token (take len text) all plain))
    ∙ ap (λ n. record { token = number_or_address (take n text); len = n }) (sym same)

-- ---- hexadecimal numbers

hex-part : (c : ℕ) → is_ascii_hexdigit c ≡ true → is_number_part c ≡ true
hex-part c h = grind (arith, nat_tests)

hex-no_dot : (c : ℕ) → is_ascii_hexdigit c ≡ true → is_dot c ≡ false
hex-no_dot c h = grind (arith, nat_tests)

hex-token : (digits : List ℕ) → list_all is_ascii_hexdigit digits ≡ true → 0 < length digits → number_or_address (48 ∷ 120 ∷ digits) ≡ Number (capped (value_of 16 digits))
hex-token [] all some = absurd (omega arith)
hex-token (e ∷ digits) all some =
    ap (λ t. cond t (Address (unwrap_or (address_of (48 ∷ 120 ∷ e ∷ digits)) TOO_BIG)) (number_token (48 ∷ 120 ∷ e ∷ digits)))
    (none-any is_ascii_hexdigit is_dot hex-no_dot (e ∷ digits) all)
    ∙ ap (λ t. cond t (Number (capped (value_of 16 (e ∷ digits)))) Stray) all

is-0x : (c d : ℕ) → (c == 48 && d == 120) ≡ true → (c ≡ 48) × (d ≡ 120)
is-0x c d h =
    let both = and-parts (c == 48) (d == 120) h in
    let first = both.0 in
    let second = both.1 in
    (grind (arith, nat_tests), grind (arith, nat_tests))

behind-0x : (text : List ℕ) → begins_hexadecimal text ≡ true → text ≡ 48 ∷ 120 ∷ rest_of text 2
behind-0x [] h = absurd cc
behind-0x (c ∷ []) h = absurd cc
behind-0x (c ∷ d ∷ rest) h =
    let is = is-0x c d h in
    ap (λ x. x ∷ d ∷ rest) is.0 ∙ ap (λ x. 48 ∷ x ∷ rest) is.1 ∙ ap (λ (r : List ℕ). 48 ∷ 120 ∷ r) (sym (rest_of-drop (c ∷ d ∷ rest) 2))

hex-at : (rest : List ℕ) (len : ℕ) → len ≡ prefix_len is_ascii_hexdigit rest → len ≤ length rest → 0 < len → ends_number (rest_of rest len) ≡ true →
    record { token = Number (capped (value_of 16 (take len rest))); len = suc (suc len) } ≡ number_lexeme (48 ∷ 120 ∷ rest)
hex-at rest len is within some ends =
    let all : list_all is_ascii_hexdigit (take len rest) ≡ true = rw is (run-all is_ascii_hexdigit rest) in
    let more : 0 < length (take len rest) = rw (length-take-le len rest within) some in
    let same : prefix_len is_number_part (48 ∷ 120 ∷ rest) ≡ suc (suc len) =
    ap (λ n. 1 + (1 + n)) (run-len is_ascii_hexdigit hex-part rest len is within ends) ∙ omega arith in
    ap (λ t. record { token = t; len = suc (suc len) }) (sym (hex-token (take len rest) all more))
    ∙ ap (λ n. record { token = number_or_address (take n (48 ∷ 120 ∷ rest)); len = n }) (sym same)

pub hex-lexeme : (text : List ℕ) (len : ℕ) → begins_hexadecimal text ≡ true → len ≡ prefix_len is_ascii_hexdigit (rest_of text 2) → len ≤ length (rest_of text 2) → 0 < len →
    ends_number (rest_of (rest_of text 2) len) ≡ true →
    record { token = Number (capped (value_of 16 (take len (rest_of text 2)))); len = suc (suc len) } ≡ number_lexeme text
hex-lexeme text len begins is within some ends =
    hex-at (rest_of text 2) len is within some ends ∙ sym (ap number_lexeme (behind-0x text begins))
