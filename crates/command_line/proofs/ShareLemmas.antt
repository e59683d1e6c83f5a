-- Reading the words of `spread`.
use Rattle.std.proofs.Common.{◌≡◌, ◌∙◌, ◌∷◌, ◌++◌, ◌-◌, ◌<◌, ◌≤◌, ◌^◌, ◌↔◌, [], Bool, Bor, List, None, Option, Some, ap, append_assoc, arith, cond, drop, false, get_or, length, map, nat_le, nat_lt, option_map, refl, sum, sym, take, true, ℕ}
use Rattle.std.specs.Prelude.{option_and_then}
use Rattle.std.specs.Str.Parse.{IsNumeral, digits_value, without_leading_plus}
use Rattle.std.proofs.Math.Seq.{take-length}
use Rattle.std.proofs.lemmas.Bool.{and_parts, le-leb, leb-true, lt-ltb, ltb-true}
use Rattle.clap.proofs.ValueTestLemmas.{Accepts-accepts, accepts-Accepts}
use Rattle.clap.specs.ValueTests.{accepts}
use Rattle.clap.specs.Words.{Text}
use Rattle.clap.specs.declared.builder.value_parser.ValueParser.TheVariants.{Unsigned}
use Rattle.selector_buckets.specs.Shares.{CanShare, weights_of}
use Rattle.selector_buckets.specs.declared.share.Share.{Share}
use Rattle.command_line.specs.Shares.{can_share, number_to, share_in, shares_in}

-- ---- numbers

pub number_is : (most : ℕ) (text : Text) (number : ℕ) → IsNumeral 10 (without_leading_plus text) → digits_value 10 (without_leading_plus text) < 2 ^ 64
    → number ≡ digits_value 10 (without_leading_plus text) → number ≤ most → Some number ≡ number_to most text
number_is most text number digits fits is high =
    rw (Accepts-accepts false (Unsigned 0 most) text (digits, fits, omega arith, (let g : digits_value 10 (without_leading_plus text) ≤ most = omega arith in g))) (ap (λ (n : ℕ). Some n) is)

pub number_none : (most : ℕ) (text : Text) → (IsNumeral 10 (without_leading_plus text) × (digits_value 10 (without_leading_plus text) < 2 ^ 64) → ⊥)
    → None ≡ number_to most text
number_none most text none = go (accepts false (Unsigned 0 most) text) refl
  where
    go : (b : Bool) → accepts false (Unsigned 0 most) text ≡ b → None ≡ cond b (Some (digits_value 10 (without_leading_plus text))) None
    go true e = let is = accepts-Accepts false (Unsigned 0 most) text e in absurd (none (is.0, is.1))
    go false e = refl

-- ---- the members of words

abbrev pub texts : List (Bor Text) → List Text
texts words = map (λ word. word.now) words

abbrev pub after : List Share → Option (List Share) → Option (List Share)
after shares others = option_map (λ others. shares ++ others) others

after_none : (others : Option (List Share)) → others ≡ after [] others
after_none None = refl
after_none (Some others) = refl

pub none_read : (words : List (Bor Text)) (shares : List Share) → shares ≡ [] → shares_in (texts words) ≡ after shares (shares_in (texts words))
none_read words shares is = after_none (shares_in (texts words)) ∙ ap (λ s. after s (shares_in (texts words))) (sym is)

-- the first word, and the others
pub words_cut : (words : List (Bor Text)) (other : Bor Text) → 0 < length words
    → shares_in (texts words) ≡ option_and_then (λ share. option_map (λ others. share ∷ others) (shares_in (texts (take (length words - 1) (drop 1 words))))) (share_in (get_or words 0 other).now)
words_cut [] other some = absurd (omega arith)
words_cut (x ∷ xs) other some =
    let len : length (x ∷ xs) - 1 ≡ length xs = omega arith in
    let left : take (length (x ∷ xs) - 1) xs ≡ xs = ap (λ k. take k xs) len ∙ take-length xs in
    ap (λ (rest : List (Bor Text)). option_and_then (λ share. option_map (λ others. share ∷ others) (shares_in (texts rest))) (share_in x.now)) (sym left)

after_more : (shares : List Share) (share : Share) (others : Option (List Share)) → after shares (option_map (λ others. share ∷ others) others) ≡ after (shares ++ share ∷ []) others
after_more shares share None = refl
after_more shares share (Some others) = ap (λ (s : List Share). Some s) (sym (append_assoc shares (share ∷ []) others))

pub one_read : (words : List (Bor Text)) (other : Bor Text) (all : Option (List Share)) (shares shares' : List Share) (share : Share) → 0 < length words
    → Some share ≡ share_in (get_or words 0 other).now → shares' ≡ shares ++ share ∷ [] → all ≡ after shares (shares_in (texts words))
    → all ≡ after shares' (shares_in (texts (take (length words - 1) (drop 1 words))))
one_read words other all shares shares' share some is more so_far =
    let rest = shares_in (texts (take (length words - 1) (drop 1 words))) in
    so_far
    ∙ ap (after shares) (words_cut words other some ∙ ap (option_and_then (λ share. option_map (λ others. share ∷ others) rest)) (sym is))
    ∙ after_more shares share rest
    ∙ ap (λ s. after s rest) (sym more)

pub none_readable : (words : List (Bor Text)) (other : Bor Text) (all : Option (List Share)) (shares : List Share) → 0 < length words
    → None ≡ share_in (get_or words 0 other).now → all ≡ after shares (shares_in (texts words)) → None ≡ all
none_readable words other all shares some is so_far =
    let rest = shares_in (texts (take (length words - 1) (drop 1 words))) in
    sym (so_far ∙ ap (after shares) (words_cut words other some ∙ ap (option_and_then (λ share. option_map (λ others. share ∷ others) rest)) (sym is)))

pub all_read : (words : List (Bor Text)) (all : Option (List Share)) (shares : List Share) → length words ≡ 0 → all ≡ after shares (shares_in (texts words)) → Some shares ≡ all
all_read [] all shares none so_far = sym (so_far ∙ ap (λ (s : List Share). Some s) (append_nil_is shares))
  where
    append_nil_is : (s : List Share) → s ++ [] ≡ s
    append_nil_is [] = refl
    append_nil_is (x ∷ xs) = ap (λ (t : List Share). x ∷ t) (append_nil_is xs)
all_read (x ∷ xs) all shares none so_far = absurd (omega arith)

-- ---- can they share a table

pub is_shared : (shares : List Share) (result : Bool) → (result ≡ true) ↔ CanShare shares → result ≡ can_share shares
is_shared shares true iff = let it = iff.0 refl in rw (le-leb (length shares) 64 it.0, lt-ltb 0 (sum (weights_of shares)) it.1) refl
is_shared shares false iff = go (can_share shares) refl
  where
    go : (b : Bool) → can_share shares ≡ b → false ≡ b
    go false e = refl
    go true e = let parts = and_parts (nat_le (length shares) 64) (nat_lt 0 (sum (weights_of shares))) e in
        iff.1 (leb-true (length shares) 64 parts.0, ltb-true 0 (sum (weights_of shares)) parts.1)
