-- The scanner's tokens are the text's, and the text has no others.
use Rattle.std.proofs.Common.{◌≡◌, ◌≤◌, ◌+◌, ◌-◌, ◌∙◌, ◌∷◌, ◌++◌, ◌&&◌, Bool, List, None, Option, Some, [], ap, arith, cond, drop, false, length, refl, suc, sym, subst, take, true, zero, ℕ}
use Rattle.std.proofs.Math.Seq.{drop-append_seam}
use Rattle.std.proofs.lemmas.Bool.Decides.{nat_tests}
use Rattle.std.specs.Char.{is_ascii_digit}
use Rattle.std.specs.List.{list_all, prefix_len}
use Rattle.filter_parse.specs.declared.token.Lexeme.{Lexeme}
use Rattle.filter_parse.specs.declared.token.Token.{Token}
use Rattle.filter_parse.specs.Token.{AreTokens, BeginsSign, IsLongestRun, IsSpelling, Placed, StandsAlone, a_number, a_word, begins_word, blank_first, is_blank, is_number_part, is_word_part, no_more, number_or_address, one_sign, pair_sign, sign, token_first, two_signs, word_token}
use Rattle.filter_parse.specs.body.Scan.{lexeme, sign_or, tokens_from, tokens_of}
use Rattle.filter_tree.specs.Tree.{Tree}
use Rattle.filter_parse.specs.declared.fault.ParseFault.{ParseFault}
use Rattle.filter_parse.specs.Fault.{HasFault, HasTree, IsFaultOf, IsTreeOf}
use Rattle.std.proofs.lemmas.List.{length-append, take-append-drop}
use Rattle.filter_parse.proofs.LexLemmas.{all-prefix, digit-dark, digit-no_word, digit-part, lexeme-digits, lexeme-sign, lexeme-word}
use Rattle.filter_parse.proofs.TokenLemmas.{tokens_from-inside}

-- ---- each spelling is read as its token

-- a spelling has a first byte that is no blank, and the scanner reads it so
record IsRead (spelling rest : List ℕ) (it : Token) : Type 0 where
  pub c : ℕ
  pub more : List ℕ
  pub begins : spelling ≡ c ∷ more
  pub dark : is_blank c ≡ false
  pub read : lexeme c (more ++ rest) ≡ record { token = it; len = suc (length more) }

cons-head : (c d : ℕ) (xs ys : List ℕ) → c ∷ xs ≡ d ∷ ys → c ≡ d
cons-head c d xs ys e = cc

cons-tail : (c d : ℕ) (xs ys : List ℕ) → c ∷ xs ≡ d ∷ ys → xs ≡ ys
cons-tail c d xs ys e = cc

one-more : (n : ℕ) → 1 + n ≡ suc n
one-more n = omega arith

word-dark : (c : ℕ) → begins_word c ≡ true → is_blank c ≡ false
word-dark c h = grind (arith, nat_tests)

same-parts : (part : ℕ → Bool) (run : List ℕ) → list_all part run ≡ true → prefix_len part run ≡ length run
same-parts part run all = all-prefix part part (λ c h. h) run all

lexeme-pair : (c d : ℕ) (rest : List ℕ) (it : Token) → BeginsSign c → pair_sign c d ≡ Some it → lexeme c (d ∷ rest) ≡ record { token = it; len = 2 }
lexeme-pair c d rest it begins pair =
    lexeme-sign c (d ∷ rest) begins.word begins.digit ∙ ap (sign_or c) pair

lexeme-alone : (c : ℕ) (rest : List ℕ) → BeginsSign c → StandsAlone c rest → lexeme c rest ≡ record { token = sign c; len = 1 }
lexeme-alone c [] begins alone = lexeme-sign c [] begins.word begins.digit
lexeme-alone c (d ∷ rest) begins alone = lexeme-sign c (d ∷ rest) begins.word begins.digit ∙ ap (sign_or c) alone

is-read : (spelling rest : List ℕ) (it : Token) → IsSpelling spelling rest it → IsRead spelling rest it
is-read spelling rest it (a_word c more rest' begins run) =
    record { c = c; more = more; begins = refl; dark = word-dark c begins; read = lexeme-word c more rest begins (same-parts is_word_part (c ∷ more) run.all) run.ends }
is-read spelling rest it (a_number c more rest' begins run) =
    record {
      c = c;
      more = more;
      begins = refl;
      dark = digit-dark c begins;
      read = lexeme-digits c more rest (digit-no_word c begins) begins (same-parts is_number_part (c ∷ more) run.all) run.ends;
    }
is-read spelling rest it (two_signs c d rest' it' begins pair) =
    record { c = c; more = d ∷ []; begins = refl; dark = begins.blank; read = lexeme-pair c d rest it begins pair }
is-read spelling rest it (one_sign c rest' begins alone) =
    record { c = c; more = []; begins = refl; dark = begins.blank; read = lexeme-alone c rest begins alone }

read-again : (c : ℕ) (more rest : List ℕ) (it : Token) → IsRead (c ∷ more) rest it → lexeme c (more ++ rest) ≡ record { token = it; len = suc (length more) }
read-again c more rest it r =
    let first : c ≡ r.c = cons-head c r.c more r.more r.begins in
    let behind : more ≡ r.more = cons-tail c r.c more r.more r.begins in
    ap (λ (d : ℕ). lexeme d (more ++ rest)) first ∙ ap (λ (m : List ℕ). lexeme r.c (m ++ rest)) behind ∙ r.read
    ∙ ap (λ (m : List ℕ). record { token = it; len = suc (length m) }) (sym behind)

-- ---- the text has no other tokens than the scanner's

from-blank : (place c : ℕ) (text : List ℕ) → is_blank c ≡ true → tokens_from 0 place (c ∷ text) ≡ tokens_from 0 (place + 1) text
from-blank place c text is =
    ap (λ t. cond t (tokens_from 0 (place + 1) text) (record { token = (lexeme c text).token; place = place } ∷ tokens_from ((lexeme c text).len - 1) (place + 1) text)) is

from-token : (place c : ℕ) (more rest : List ℕ) (it : Token) → is_blank c ≡ false → lexeme c (more ++ rest) ≡ record { token = it; len = suc (length more) }
    → tokens_from 0 place (c ∷ more ++ rest) ≡ record { token = it; place = place } ∷ tokens_from 0 (place + suc (length more)) rest
from-token place c more rest it dark read =
    ap (λ t. cond t (tokens_from 0 (place + 1) (more ++ rest)) (record { token = (lexeme c (more ++ rest)).token; place = place } ∷ tokens_from ((lexeme c (more ++ rest)).len - 1) (place + 1) (more ++ rest))) dark
    ∙ ap (λ (l : Lexeme). record { token = l.token; place = place } ∷ tokens_from (l.len - 1) (place + 1) (more ++ rest)) read
    ∙ ap (λ ts. record { token = it; place = place } ∷ ts)
    (tokens_from-inside (suc (length more) - 1) (place + 1) (more ++ rest)
    ∙ ap (λ n. tokens_from 0 ((place + 1) + n) (drop n (more ++ rest))) (omega arith)
    ∙ ap (λ r. tokens_from 0 ((place + 1) + length more) r) (drop-append_seam more rest)
    ∙ ap (λ p. tokens_from 0 p rest) (omega arith))

pub tokens-exact : (place : ℕ) (text : List ℕ) (tokens : List Placed) → AreTokens place text tokens → tokens ≡ tokens_from 0 place text
tokens-exact place text tokens (no_more place') = refl
tokens-exact place text tokens (blank_first place' c text' tokens' is h) = tokens-exact (place + 1) text' tokens h ∙ sym (from-blank place c text' is)
tokens-exact place text tokens (token_first place' text' spelling rest it tokens' same spells h) =
    let r = is-read spelling rest it spells in
    ap (λ ts. record { token = it; place = place } ∷ ts)
    (tokens-exact (place + length spelling) rest tokens' h ∙ ap (λ (s : List ℕ). tokens_from 0 (place + length s) rest) r.begins)
    ∙ sym (from-token place r.c r.more rest it r.dark r.read)
    ∙ sym (ap (tokens_from 0 place) (same ∙ ap (λ s. s ++ rest) r.begins))

-- ---- the scanner's tokens are the text's

-- a text that begins with a byte that is no blank begins with a spelling
record BeginsSpelt (c : ℕ) (text : List ℕ) : Type 0 where
  pub more : List ℕ
  pub rest : List ℕ
  pub it : Token
  pub text_is : text ≡ more ++ rest
  pub spells : IsSpelling (c ∷ more) rest it

run-all-at : (part : ℕ → Bool) (c : ℕ) (text : List ℕ) (is : Bool) → part c ≡ is → list_all part (take (prefix_len part text) text) ≡ true →
    list_all part (take (prefix_len part (c ∷ text)) (c ∷ text)) ≡ true
run-all-at part c text true e all =
    ap (λ t. list_all part (take (cond t (1 + prefix_len part text) 0) (c ∷ text))) e
    ∙ ap (λ n. list_all part (take n (c ∷ text))) (one-more (prefix_len part text))
    ∙ ap (λ t. t && list_all part (take (prefix_len part text) text)) e ∙ all
run-all-at part c text false e all = ap (λ t. list_all part (take (cond t (1 + prefix_len part text) 0) (c ∷ text))) e

pub run-all : (part : ℕ → Bool) (text : List ℕ) → list_all part (take (prefix_len part text) text) ≡ true
run-all part [] = refl
run-all part (c ∷ text) = run-all-at part c text (part c) refl (run-all part text)

run-ends-at : (part : ℕ → Bool) (c : ℕ) (text : List ℕ) (is : Bool) → part c ≡ is → prefix_len part (drop (prefix_len part text) text) ≡ 0 →
    prefix_len part (drop (prefix_len part (c ∷ text)) (c ∷ text)) ≡ 0
run-ends-at part c text true e ends =
    ap (λ t. prefix_len part (drop (cond t (1 + prefix_len part text) 0) (c ∷ text))) e
    ∙ ap (λ n. prefix_len part (drop n (c ∷ text))) (one-more (prefix_len part text)) ∙ ends
run-ends-at part c text false e ends =
    ap (λ t. prefix_len part (drop (cond t (1 + prefix_len part text) 0) (c ∷ text))) e ∙ ap (λ t. cond t (1 + prefix_len part text) 0) e

run-ends : (part : ℕ → Bool) (text : List ℕ) → prefix_len part (drop (prefix_len part text) text) ≡ 0
run-ends part [] = refl
run-ends part (c ∷ text) = run-ends-at part c text (part c) refl (run-ends part text)

longest-run : (part : ℕ → Bool) (c : ℕ) (text : List ℕ) → part c ≡ true →
    IsLongestRun part (c ∷ take (prefix_len part text) text) (drop (prefix_len part text) text)
longest-run part c text is =
    record { all = ap (λ t. t && list_all part (take (prefix_len part text) text)) is ∙ run-all part text; ends = run-ends part text }

pub word-part : (c : ℕ) → begins_word c ≡ true → is_word_part c ≡ true
word-part c h = grind (arith, nat_tests)

spelt-pair : (c d : ℕ) (rest : List ℕ) → BeginsSign c → (pair : Option Token) → pair_sign c d ≡ pair → BeginsSpelt c (d ∷ rest)
spelt-pair c d rest begins (Some it) e = record { more = d ∷ []; rest = rest; it = it; text_is = refl; spells = two_signs c d rest it begins e }
spelt-pair c d rest begins None e = record { more = []; rest = d ∷ rest; it = sign c; text_is = refl; spells = one_sign c (d ∷ rest) begins e }

spelt-sign : (c : ℕ) (text : List ℕ) → BeginsSign c → BeginsSpelt c text
spelt-sign c [] begins = record { more = []; rest = []; it = sign c; text_is = refl; spells = one_sign c [] begins tt }
spelt-sign c (d ∷ rest) begins = spelt-pair c d rest begins (pair_sign c d) refl

spelt-by : (c : ℕ) (text : List ℕ) (begins digit : Bool) → begins_word c ≡ begins → is_ascii_digit c ≡ digit → is_blank c ≡ false → BeginsSpelt c text
spelt-by c text true digit e f dark =
    record {
      more = take (prefix_len is_word_part text) text;
      rest = drop (prefix_len is_word_part text) text;
      it = word_token (c ∷ take (prefix_len is_word_part text) text);
      text_is = sym (take-append-drop (prefix_len is_word_part text) text);
      spells = a_word c (take (prefix_len is_word_part text) text) (drop (prefix_len is_word_part text) text) e (longest-run is_word_part c text (word-part c e));
    }
spelt-by c text false true e f dark =
    record {
      more = take (prefix_len is_number_part text) text;
      rest = drop (prefix_len is_number_part text) text;
      it = number_or_address (c ∷ take (prefix_len is_number_part text) text);
      text_is = sym (take-append-drop (prefix_len is_number_part text) text);
      spells = a_number c (take (prefix_len is_number_part text) text) (drop (prefix_len is_number_part text) text) f (longest-run is_number_part c text (digit-part c f));
    }
spelt-by c text false false e f dark = spelt-sign c text (record { word = e; digit = f; blank = dark })

-- the tokens of every text that is not longer than n
abbrev AreTokensWithin : ℕ → Type 0
AreTokensWithin n = (place : ℕ) (text : List ℕ) → length text ≤ n → AreTokens place text (tokens_from 0 place text)

are-tokens-at : (n place c : ℕ) (text : List ℕ) (is : Bool) → is_blank c ≡ is → AreTokensWithin n → length text ≤ n →
    AreTokens place (c ∷ text) (tokens_from 0 place (c ∷ text))
are-tokens-at n place c text true e shorter within =
    subst (AreTokens place (c ∷ text)) (sym (from-blank place c text e))
    (blank_first place c text (tokens_from 0 (place + 1) text) e (shorter (place + 1) text within))
are-tokens-at n place c text false e shorter within =
    let s = spelt-by c text (begins_word c) (is_ascii_digit c) refl refl e in
    let r = is-read (c ∷ s.more) s.rest s.it s.spells in
    let read : lexeme c (s.more ++ s.rest) ≡ record { token = s.it; len = suc (length s.more) } = read-again c s.more s.rest s.it r in
    let whole = length-append s.more s.rest in
    let same : length text ≡ length (s.more ++ s.rest) = ap length s.text_is in
    subst (AreTokens place (c ∷ text)) (sym (ap (λ (t : List ℕ). tokens_from 0 place (c ∷ t)) s.text_is ∙ from-token place c s.more s.rest s.it e read))
    (token_first place (c ∷ text) (c ∷ s.more) s.rest s.it (tokens_from 0 (place + suc (length s.more)) s.rest) (ap (λ (t : List ℕ). c ∷ t) s.text_is) s.spells
    (shorter (place + suc (length s.more)) s.rest (omega arith)))

are-tokens-within : (n : ℕ) → AreTokensWithin n
are-tokens-within n place [] within = no_more place
are-tokens-within zero place (c ∷ text) within = absurd (omega arith)
are-tokens-within (suc n) place (c ∷ text) within = are-tokens-at n place c text (is_blank c) refl (are-tokens-within n) (omega arith)

pub are-tokens : (text : List ℕ) → AreTokens 0 text (tokens_of text)
are-tokens text = are-tokens-within (length text) 0 text (omega arith)

-- ---- trees and faults by the scanner's tokens

pub tree-there : (text : List ℕ) (tree : Tree) → IsTreeOf (tokens_of text) tree → HasTree text tree
tree-there text tree is = (tokens_of text, are-tokens text, is)

pub tree-by : (text : List ℕ) (tree : Tree) → HasTree text tree → IsTreeOf (tokens_of text) tree
tree-by text tree has = subst (λ (ts : List Placed). IsTreeOf ts tree) (tokens-exact 0 text has.0 has.1) has.2

pub fault-there : (text : List ℕ) (fault : ParseFault) → IsFaultOf text (tokens_of text) fault → HasFault text fault
fault-there text fault is = (tokens_of text, are-tokens text, is)

pub fault-by : (text : List ℕ) (fault : ParseFault) → HasFault text fault → IsFaultOf text (tokens_of text) fault
fault-by text fault has = subst (λ (ts : List Placed). IsFaultOf text ts fault) (tokens-exact 0 text has.0 has.1) has.2
