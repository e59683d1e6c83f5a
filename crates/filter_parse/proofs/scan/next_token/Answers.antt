use Rattle.std.proofs.Common.{◌≡◌, ◌<◌, ◌≤◌, ◌+◌, ◌∙◌, ◌∷◌, Bool, List, None, Option, Some, [], ap, arith, cond, drop, false, length, refl, sym, take, true, ℕ}
use Rattle.std.proofs.lemmas.List.{length-drop}
use Rattle.std.proofs.lemmas.List.Sums.{prefix_len-le-length}
use Rattle.std.specs.Char.{is_ascii_digit}
use Rattle.std.specs.List.{prefix_len}
use Rattle.filter_parse.specs.declared.token.Lexeme.{Lexeme}
use Rattle.filter_parse.specs.declared.token.Token.{Token}
use Rattle.filter_parse.specs.Token.{begins_word, is_number_part, is_word_part, number_or_address, pair_sign, word_token}
use Rattle.filter_parse.specs.body.Scan.{lexeme, sign_lexeme, sign_or}
use Rattle.filter_parse.proofs.LexLemmas.{digit-part}
use Rattle.filter_parse.proofs.ScanLemmas.{word-part}
use Rattle.filter_parse.proofs.TokenLemmas.{rest-cons, tokens_from-blank, tokens_from-token}
use Rattle.filter_parse.proofs.scan.next_token.Goals as goal

-- a lexeme has at least one byte of a text, and no more than the text has
record IsWithin (l : Lexeme) (text : List ℕ) : Type 0 where
  some : 1 ≤ l.len
  within : l.len ≤ length text

run-within : (part : ℕ → Bool) (c : ℕ) (rest : List ℕ) (token : Token) → part c ≡ true →
    IsWithin (record { token = token; len = prefix_len part (c ∷ rest) }) (c ∷ rest)
run-within part c rest token first =
    let more : prefix_len part (c ∷ rest) ≡ 1 + prefix_len part rest = ap (λ t. cond t (1 + prefix_len part rest) 0) first in
    let most = prefix_len-le-length part (c ∷ rest) in
    record { some = omega arith; within = most }

sign_or-within : (c d : ℕ) (rest : List ℕ) (found : Option Token) → IsWithin (sign_or c found) (c ∷ d ∷ rest)
sign_or-within c d rest None = record { some = omega arith; within = omega arith }
sign_or-within c d rest (Some token) = record { some = omega arith; within = omega arith }

sign-within : (c : ℕ) (rest : List ℕ) → IsWithin (sign_lexeme c rest) (c ∷ rest)
sign-within c [] = record { some = omega arith; within = omega arith }
sign-within c (d ∷ rest) = sign_or-within c d rest (pair_sign c d)

within-by : (c : ℕ) (rest : List ℕ) (word digit : Bool) → begins_word c ≡ word → is_ascii_digit c ≡ digit →
    IsWithin (cond word (record { token = word_token (take (prefix_len is_word_part (c ∷ rest)) (c ∷ rest)); len = prefix_len is_word_part (c ∷ rest) })
    (cond digit (record { token = number_or_address (take (prefix_len is_number_part (c ∷ rest)) (c ∷ rest)); len = prefix_len is_number_part (c ∷ rest) })
    (sign_lexeme c rest))) (c ∷ rest)
within-by c rest true digit begins is = run-within is_word_part c rest _ (word-part c begins)
within-by c rest false true begins is = run-within is_number_part c rest _ (digit-part c is)
within-by c rest false false begins is = sign-within c rest

-- the lexeme at a place ends behind it, and no later than the text
lexeme-within : (text : List ℕ) (place c : ℕ) (rest : List ℕ) (l : Lexeme) → place < length text → drop place text ≡ c ∷ rest → l ≡ lexeme c rest →
    (1 ≤ l.len) × (place + l.len ≤ length text)
lexeme-within text place c rest l inside here is =
    let w : IsWithin l (drop place text) = rw (is, here) (within-by c rest (begins_word c) (is_ascii_digit c) refl refl) in
    (w.some, omega (arith, w.within, length-drop place text))

pub overflow_add-end : goal.overflow_add-end
overflow_add-end c =
    let text = c.args.text.now in
    let within = lexeme-within text c.loop-place.place _ _ c.lexeme-token.result (omega arith) (rest-cons text c.loop-place.place (omega arith)) c.lexeme-token.ensures in
    omega (arith, within.1)

pub returns-then-not-is_blank-clause-found : goal.returns-then-not-is_blank-clause-found
returns-then-not-is_blank-clause-found c =
    let text = c.args.text.now in
    let here = rest-cons text c.loop-place.place (omega arith) in
    let within = lexeme-within text c.loop-place.place _ _ c.lexeme-token.result (omega arith) here c.lexeme-token.ensures in
    c.loop-place.invariant.same
    ∙ tokens_from-token text c.loop-place.place _ _ c.lexeme-token.result here (sym c.is_blank.ensures ∙ c.if-not-is_blank.true) c.lexeme-token.ensures within.0

pub returns-then-not-is_blank-clause-within : goal.returns-then-not-is_blank-clause-within
returns-then-not-is_blank-clause-within c =
    let text = c.args.text.now in
    let within = lexeme-within text c.loop-place.place _ _ c.lexeme-token.result (omega arith) (rest-cons text c.loop-place.place (omega arith)) c.lexeme-token.ensures in
    within.1

pub returns-then-not-is_blank-clause-forward : goal.returns-then-not-is_blank-clause-forward
returns-then-not-is_blank-clause-forward c =
    let text = c.args.text.now in
    let within = lexeme-within text c.loop-place.place _ _ c.lexeme-token.result (omega arith) (rest-cons text c.loop-place.place (omega arith)) c.lexeme-token.ensures in
    omega (arith, within.0)

pub loop-place-preserved : goal.loop-place-preserved
loop-place-preserved c = record {
  forward = omega arith;
  within = omega arith;
  same = c.loop-place.invariant.same
      ∙ tokens_from-blank c.args.text.now c.loop-place.place _ _ (rest-cons c.args.text.now c.loop-place.place (omega arith))
      (sym c.is_blank.ensures ∙ c.if-not-is_blank.false);
}
