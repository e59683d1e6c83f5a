-- An address that is printed is read as it was.
use Rattle.std.proofs.Common.{◌≡◌, ◌<◌, ◌+◌, ◌*◌, ◌/◌, ◌%◌, ◌^◌, ◌∙◌, ◌∷◌, ◌++◌, ◌&&◌, ◌||◌, Bool, List, None, Some, [], ap, append_assoc, arith, codes, cond, drop, false, length, nat_eq, nat_le, not, option_and_then, option_map, refl, subst, sym, take, true, unwrap_or, ℕ}
use Rattle.std.proofs.Math.Seq.{drop-append_seam, take-append_seam}
use Rattle.std.proofs.lemmas.Bool.{eq-eqb, le-leb}
use Rattle.std.proofs.lemmas.Bool.Decides.{nat_tests}
use Rattle.std.proofs.lemmas.List.{length-append}
use Rattle.std.proofs.lemmas.List.Folds.{prefix_len-append}
use Rattle.std.specs.Char.{is_ascii_digit}
use Rattle.std.specs.Fmt.{decimal}
use Rattle.std.specs.List.{list_all, list_any, prefix_len}
use Rattle.filter_tree.specs.Text.{printed_address}
use Rattle.filter_parse.specs.declared.token.TheConstants.{TOO_BIG}
use Rattle.filter_parse.specs.declared.token.Token.{Token}
use Rattle.filter_parse.specs.declared.token.Token.TheVariants.{Address}
use Rattle.filter_parse.specs.Token.{address_of, first_dot, first_octet, is_dot, is_number_part, number_token, octet_of, value_of}
use Rattle.filter_parse.proofs.LexLemmas.{IsRun, Lexes, all-prefix, and-parts, decimal-run, digit-dark, digit-no_dot, digit-no_word, digit-part, lexes-digits, longest, run-decimal}

no-dot-part : (c : ℕ) → is_ascii_digit c ≡ true → not (is_dot c) ≡ true
no-dot-part c h = ap not (digit-no_dot c h)

octet-run : (n : ℕ) (ds : List ℕ) → n < 256 → IsRun n ds → octet_of ds ≡ Some n
octet-run n [] small r = absurd r
octet-run n (c ∷ w) small r =
    ap (λ t. cond (t && nat_le (value_of 10 (c ∷ w)) 255) (Some (value_of 10 (c ∷ w))) None) (run-decimal n c w r)
    ∙ ap (λ m. cond (nat_le m 255) (Some m) None) r.1
    ∙ ap (λ t. cond t (Some n) None) (le-leb n 255 (omega arith))

run-all : (n : ℕ) (ds : List ℕ) → IsRun n ds → list_all is_ascii_digit ds ≡ true
run-all n [] r = absurd r
run-all n (c ∷ w) r = r.0

apart-eqb : (a b : ℕ) → a < b → nat_eq a b ≡ false
apart-eqb a b h = grind (arith, nat_tests)

behind-dot : (ds rest : List ℕ) → drop (length ds + 1) (ds ++ 46 ∷ rest) ≡ rest
behind-dot ds rest =
    ap (λ t. drop (length ds + 1) t) (sym (append_assoc ds (46 ∷ []) rest))
    ∙ ap (λ n. drop n ((ds ++ 46 ∷ []) ++ rest)) (sym (length-append ds (46 ∷ [])))
    ∙ drop-append_seam (ds ++ 46 ∷ []) rest

-- the part before a dot
part-read : (n : ℕ) (ds rest : List ℕ) → n < 256 → IsRun n ds → first_octet (ds ++ 46 ∷ rest) ≡ Some (n, rest)
part-read n ds rest small r =
    let text : List ℕ = ds ++ 46 ∷ rest in
    let dot : first_dot text ≡ length ds =
    longest _ ds (46 ∷ rest) (all-prefix is_ascii_digit _ no-dot-part ds (run-all n ds r)) refl in
    let inside : nat_eq (length ds) (length text) ≡ false = apart-eqb (length ds) (length text) (simp length-append (omega arith)) in
    let behind : drop (length ds + 1) text ≡ rest = behind-dot ds rest in
    ap (λ k. cond (nat_eq k (length text)) None (option_map (λ octet. (octet, drop (k + 1) text)) (octet_of (take k text)))) dot
    ∙ ap (λ t. cond t None (option_map (λ octet. (octet, drop (length ds + 1) text)) (octet_of (take (length ds) text)))) inside
    ∙ ap (λ part. option_map (λ octet. (octet, drop (length ds + 1) text)) (octet_of part)) (take-append_seam ds (46 ∷ rest))
    ∙ ap (λ o. option_map (λ octet. (octet, drop (length ds + 1) text)) o) (octet-run n ds small r)
    ∙ ap (λ b. Some (n, b)) behind

-- the address that four parts are
address-value : (a : ℕ) → a < 2 ^ 32 → a / 2 ^ 24 * 2 ^ 24 + a / 2 ^ 16 % 256 * 2 ^ 16 + a / 2 ^ 8 % 256 * 2 ^ 8 + a % 256 ≡ a
address-value a h = omega arith

parts-read : (n m k l : ℕ) (ds es fs gs : List ℕ) → n < 256 → m < 256 → k < 256 → l < 256 → IsRun n ds → IsRun m es → IsRun k fs → IsRun l gs →
    address_of (ds ++ 46 ∷ (es ++ 46 ∷ (fs ++ 46 ∷ gs))) ≡ Some (n * 2 ^ 24 + m * 2 ^ 16 + k * 2 ^ 8 + l)
parts-read n m k l ds es fs gs sn sm sk sl rn rm rk rl =
    ap (λ o. option_and_then (λ (a : ℕ × List ℕ). option_and_then (λ (b : ℕ × List ℕ). option_and_then (λ (c : ℕ × List ℕ).
    option_map (λ d. a.0 * 2 ^ 24 + b.0 * 2 ^ 16 + c.0 * 2 ^ 8 + d) (octet_of c.1)) (first_octet b.1)) (first_octet a.1)) o)
    (part-read n ds (es ++ 46 ∷ (fs ++ 46 ∷ gs)) sn rn)
    ∙ ap (λ o. option_and_then (λ (b : ℕ × List ℕ). option_and_then (λ (c : ℕ × List ℕ).
    option_map (λ d. n * 2 ^ 24 + b.0 * 2 ^ 16 + c.0 * 2 ^ 8 + d) (octet_of c.1)) (first_octet b.1)) o)
    (part-read m es (fs ++ 46 ∷ gs) sm rm)
    ∙ ap (λ o. option_and_then (λ (c : ℕ × List ℕ). option_map (λ d. n * 2 ^ 24 + m * 2 ^ 16 + c.0 * 2 ^ 8 + d) (octet_of c.1)) o)
    (part-read k fs gs sk rk)
    ∙ ap (λ o. option_map (λ d. n * 2 ^ 24 + m * 2 ^ 16 + k * 2 ^ 8 + d) o) (octet-run l gs sl rl)

full-append : (p : ℕ → Bool) (xs ys : List ℕ) → prefix_len p xs ≡ length xs → prefix_len p ys ≡ length ys → prefix_len p (xs ++ ys) ≡ length (xs ++ ys)
full-append p xs ys f g =
    prefix_len-append p xs ys
    ∙ ap (λ n. cond (nat_eq n (length xs)) (length xs + prefix_len p ys) n) f
    ∙ ap (λ t. cond t (length xs + prefix_len p ys) (length xs)) (eq-eqb (length xs) (length xs) refl)
    ∙ ap (λ n. length xs + n) g ∙ sym (length-append xs ys)

full-cons : (p : ℕ → Bool) (c : ℕ) (ys : List ℕ) → p c ≡ true → prefix_len p ys ≡ length ys → prefix_len p (c ∷ ys) ≡ length (c ∷ ys)
full-cons p c ys f g = ap (λ t. cond t (1 + prefix_len p ys) 0) f ∙ ap (λ n. 1 + n) g ∙ omega arith

any-behind : (p : ℕ → Bool) (xs ys : List ℕ) → list_any p ys ≡ true → list_any p (xs ++ ys) ≡ true
any-behind p [] ys h = h
any-behind p (x ∷ xs) ys h = elim (p x) as (λ t. (t || list_any p (xs ++ ys)) ≡ true) [ true ↦ refl | false ↦ any-behind p xs ys h ]

run-full : (n : ℕ) (ds : List ℕ) → IsRun n ds → prefix_len is_number_part ds ≡ length ds
run-full n ds r = all-prefix is_ascii_digit is_number_part digit-part ds (run-all n ds r)

dotted : (ds es : List ℕ) → prefix_len is_number_part ds ≡ length ds → prefix_len is_number_part es ≡ length es →
    prefix_len is_number_part (ds ++ 46 ∷ es) ≡ length (ds ++ 46 ∷ es)
dotted ds es f g = full-append is_number_part ds (46 ∷ es) f (full-cons is_number_part 46 es refl g)

lexes-parts : (a n m k l : ℕ) (ds es fs gs rest : List ℕ) (tokens : List Token) → n < 256 → m < 256 → k < 256 → l < 256 →
    IsRun n ds → IsRun m es → IsRun k fs → IsRun l gs → n * 2 ^ 24 + m * 2 ^ 16 + k * 2 ^ 8 + l ≡ a →
    prefix_len is_number_part rest ≡ 0 → Lexes rest tokens → Lexes ((ds ++ 46 ∷ (es ++ 46 ∷ (fs ++ 46 ∷ gs))) ++ rest) (Address a ∷ tokens)
lexes-parts a n m k l [] es fs gs rest tokens sn sm sk sl rn rm rk rl value apart h = absurd rn
lexes-parts a n m k l (c ∷ w) es fs gs rest tokens sn sm sk sl rn rm rk rl value apart h =
    let digit = (and-parts (is_ascii_digit c) (list_all is_ascii_digit w) rn.0).0 in
    let text : List ℕ = (c ∷ w) ++ 46 ∷ (es ++ 46 ∷ (fs ++ 46 ∷ gs)) in
    lexes-digits c (w ++ 46 ∷ (es ++ 46 ∷ (fs ++ 46 ∷ gs))) rest (Address a) tokens (digit-dark c digit) (digit-no_word c digit) digit
    (dotted (c ∷ w) _ (run-full n (c ∷ w) rn) (dotted es _ (run-full m es rm) (dotted fs gs (run-full k fs rk) (run-full l gs rl))))
    (ap (λ t. cond t (Address (unwrap_or (address_of text) TOO_BIG)) (number_token text)) (any-behind is_dot (c ∷ w) (46 ∷ (es ++ 46 ∷ (fs ++ 46 ∷ gs))) refl)
    ∙ ap (λ o. Address (unwrap_or o TOO_BIG)) (parts-read n m k l (c ∷ w) es fs gs sn sm sk sl rn rm rk rl)
    ∙ ap Address value)
    apart h

regroup-address : (a b c d rest : List ℕ) → ((((((a ++ codes ".") ++ b) ++ codes ".") ++ c) ++ codes ".") ++ d) ++ rest ≡ (a ++ 46 ∷ (b ++ 46 ∷ (c ++ 46 ∷ d))) ++ rest
regroup-address a b c d rest = simp append_assoc

-- an address as it is printed
pub lexes-address : (a : ℕ) (rest : List ℕ) (tokens : List Token) → a < 2 ^ 32 → prefix_len is_number_part rest ≡ 0 → Lexes rest tokens →
    Lexes (printed_address a ++ rest) (Address a ∷ tokens)
lexes-address a rest tokens small apart h =
    subst (λ t. Lexes t (Address a ∷ tokens))
    (sym (regroup-address (decimal (a / 2 ^ 24)) (decimal (a / 2 ^ 16 % 256)) (decimal (a / 2 ^ 8 % 256)) (decimal (a % 256)) rest))
    (lexes-parts a (a / 2 ^ 24) (a / 2 ^ 16 % 256) (a / 2 ^ 8 % 256) (a % 256) _ _ _ _ rest tokens
    (omega arith) (omega arith) (omega arith) (omega arith)
    (decimal-run (a / 2 ^ 24) (omega arith)) (decimal-run (a / 2 ^ 16 % 256) (omega arith)) (decimal-run (a / 2 ^ 8 % 256) (omega arith)) (decimal-run (a % 256) (omega arith))
    (address-value a small) apart h)
