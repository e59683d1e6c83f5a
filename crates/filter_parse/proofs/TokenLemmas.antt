-- The tokens of a text behind a place.
use Rattle.std.proofs.Common.{◌≡◌, ◌<◌, ◌≤◌, ◌+◌, ◌-◌, ◌∙◌, ◌∷◌, List, [], ap, arith, cond, drop, false, get_or, length, refl, suc, sym, take, true, zero, ℕ}
use Rattle.std.proofs.lemmas.List.{drop-drop, length-drop, take_all}
use Rattle.filter_parse.specs.declared.token.Lexeme.{Lexeme}
use Rattle.filter_parse.specs.Token.{is_blank}
use Rattle.filter_parse.specs.body.Scan.{lexeme, tokens_from}

-- the bytes of the token before are passed over
pub tokens_from-inside : (inside place : ℕ) (text : List ℕ) → tokens_from inside place text ≡ tokens_from 0 (place + inside) (drop inside text)
tokens_from-inside zero place text = ap (λ p. tokens_from 0 p text) (omega arith)
tokens_from-inside (suc inside) place [] = refl
tokens_from-inside (suc inside) place (c ∷ text) = tokens_from-inside inside (place + 1) text ∙ ap (λ p. tokens_from 0 p (drop inside text)) (omega arith)

behind : (text : List ℕ) (place c : ℕ) (rest : List ℕ) (more : ℕ) → drop place text ≡ c ∷ rest →
    tokens_from 0 ((place + 1) + more) (drop more rest) ≡ tokens_from 0 (place + suc more) (drop (place + suc more) text)
behind text place c rest more here =
    ap (λ p. tokens_from 0 p (drop more rest)) (omega arith)
    ∙ ap (tokens_from 0 (place + suc more)) (ap (drop (suc more)) (sym here) ∙ drop-drop (suc more) place text)

-- the token at a place, and those behind it
pub tokens_from-token : (text : List ℕ) (place c : ℕ) (rest : List ℕ) (l : Lexeme) → drop place text ≡ c ∷ rest → is_blank c ≡ false →
    l ≡ lexeme c rest → 1 ≤ l.len →
    tokens_from 0 place (drop place text) ≡ record { token = l.token; place = place } ∷ tokens_from 0 (place + l.len) (drop (place + l.len) text)
tokens_from-token text place c rest l here dark is some =
    ap (tokens_from 0 place) here
    ∙ ap (λ t. cond t (tokens_from 0 (place + 1) rest) (record { token = (lexeme c rest).token; place = place } ∷ tokens_from ((lexeme c rest).len - 1) (place + 1) rest)) dark
    ∙ ap (λ (m : Lexeme). record { token = m.token; place = place } ∷ tokens_from (m.len - 1) (place + 1) rest) (sym is)
    ∙ ap (λ ts. record { token = l.token; place = place } ∷ ts)
    (tokens_from-inside (l.len - 1) (place + 1) rest
    ∙ behind text place c rest (l.len - 1) here
    ∙ ap (λ p. tokens_from 0 p (drop p text)) (omega arith))

-- the tokens behind a blank, and behind the text's end
pub tokens_from-blank : (text : List ℕ) (place c : ℕ) (rest : List ℕ) → drop place text ≡ c ∷ rest → is_blank c ≡ true →
    tokens_from 0 place (drop place text) ≡ tokens_from 0 (place + 1) (drop (place + 1) text)
tokens_from-blank text place c rest here blank =
    ap (tokens_from 0 place) here
    ∙ ap (λ t. cond t (tokens_from 0 (place + 1) rest) (record { token = (lexeme c rest).token; place = place } ∷ tokens_from ((lexeme c rest).len - 1) (place + 1) rest)) blank
    ∙ ap (tokens_from 0 (place + 1)) (ap (drop 1) (sym here) ∙ drop-drop 1 place text)

-- the rest of a text as a slice of it
abbrev pub rest_of : List ℕ → ℕ → List ℕ
rest_of text place = take (length text - place) (drop place text)

pub rest_of-drop : (text : List ℕ) (place : ℕ) → rest_of text place ≡ drop place text
rest_of-drop text place = take_all (length text - place) (drop place text) (simp length-drop (omega arith))

cons-drop : (s : List ℕ) → 0 < length s → s ≡ get_or s 0 0 ∷ rest_of s 1
cons-drop [] h = absurd (omega arith)
cons-drop (c ∷ s) h = ap (λ r. c ∷ r) (sym (rest_of-drop (c ∷ s) 1))

pub rest-cons : (text : List ℕ) (place : ℕ) → place < length text →
    drop place text ≡ get_or (rest_of text place) 0 0 ∷ rest_of (rest_of text place) 1
rest-cons text place h =
    sym (rest_of-drop text place) ∙ cons-drop (rest_of text place) (rw rest_of-drop (simp length-drop (omega arith)))
