-- The tokens of a text, from its front.
use Rattle.std.proofs.Common.{◌≡◌, ◌==◌, ◌∙◌, ◌+◌, ◌||◌, Bool, List, None, Option, Some, [], ap, arith, codes, cond, drop, false, inl, inr, length, refl, slice_get, suc, sym, take, true, zero, ◌∷◌, ℕ}
use Rattle.std.specs.Char.{is_ascii_alphanumeric, is_ascii_digit}
use Rattle.std.specs.Int.{is_in_range}
use Rattle.std.specs.List.{list_any, prefix_len}
use Rattle.std.proofs.Math.Numerals.{one-add}
use Rattle.std.proofs.lemmas.Bool.{cond-false, cond-true, eq-eqb, eqb-true, ne_eqb, or_cases, or_parts}
use Rattle.bpf_asm.specs.body.Reading.{after_mark, is_end, more_of, number_of, number_token, token_at, tokens_after, tokens_of}
use Rattle.bpf_asm.specs.Token.{Token, begins_word, is_gap, is_in_word, is_mark, mark, stray, word}

-- what is skipped is dropped
pub tokens_after-drop : (n : ℕ) (text : List ℕ) → tokens_after n text ≡ tokens_of (drop n text)
unfolding tokens_after
tokens_after-drop zero text = refl
tokens_after-drop (suc n) [] = refl
tokens_after-drop (suc n) (b ∷ text) = tokens_after-drop n text

pub tokens_of-nil : tokens_of [] ≡ []
unfolding tokens_after
tokens_of-nil = refl

-- a list by its first element
pub front : (text : List ℕ) (b : ℕ) → Some b ≡ slice_get text 0 → text ≡ b ∷ drop 1 text
front [] b first = cc
front (c ∷ text) b first = cc

pub no_front : (text : List ℕ) → None ≡ slice_get text 0 → text ≡ []
no_front [] first = refl
no_front (c ∷ text) first = cc

-- ---- gaps

after_gap : (gap : Bool) (b : ℕ) (text : List ℕ) → is_gap b ≡ gap → tokens_of (drop (prefix_len is_gap text) text) ≡ tokens_of text → tokens_of (drop (cond gap (1 + prefix_len is_gap text) 0) (b ∷ text)) ≡ tokens_of (b ∷ text)
unfolding tokens_after
after_gap true b text is rest = rw (one-add, is) rest
after_gap false b text is rest = refl

pub tokens_of-behind_gap : (text : List ℕ) → tokens_of (drop (prefix_len is_gap text) text) ≡ tokens_of text
tokens_of-behind_gap [] = refl
tokens_of-behind_gap (b ∷ text) = after_gap (is_gap b) b text refl (tokens_of-behind_gap text)

first_not : (gap : Bool) (b c : ℕ) (text rest : List ℕ) → is_gap b ≡ gap → (drop (prefix_len is_gap text) text ≡ c ∷ rest → is_gap c ≡ false) → drop (cond gap (1 + prefix_len is_gap text) 0) (b ∷ text) ≡ c ∷ rest → is_gap c ≡ false
first_not true b c text rest is later front_is = later (rw one-add at front_is)
first_not false b c text rest is later front_is = let same : b ≡ c = cc in rw same at is

pub no_gap_left : (text rest : List ℕ) (c : ℕ) → drop (prefix_len is_gap text) text ≡ c ∷ rest → is_gap c ≡ false
no_gap_left [] rest c front_is = cc
no_gap_left (b ∷ text) rest c front_is = first_not (is_gap b) b c text rest refl (no_gap_left text rest c) front_is

-- ---- the first token

pub tokens_of-first : (b : ℕ) (text : List ℕ) → is_gap b ≡ false → tokens_of (b ∷ text) ≡ token_at b text ∷ tokens_of (drop (more_of b text) text)
unfolding tokens_after
tokens_of-first b text no_gap =
    cond-false (is_gap b) (tokens_after 0 text) (token_at b text ∷ tokens_after (more_of b text) text) no_gap
    ∙ ap (λ rest. token_at b text ∷ rest) (tokens_after-drop (more_of b text) text)

in_word : (digit upper lower underscore : Bool) → (upper || lower || underscore) ≡ true → (digit || upper || lower || underscore) ≡ true
in_word true upper lower underscore h = refl
in_word false upper lower underscore h = h

pub is_in_word-first : (b : ℕ) → begins_word b ≡ true → is_in_word b ≡ true
is_in_word-first b begins = in_word (is_in_range 48 57 b) (is_in_range 65 90 b) (is_in_range 97 122 b) (b == 95) begins

in_number : (digit upper lower : Bool) → digit ≡ true → (digit || upper || lower) ≡ true
in_number true upper lower h = refl
in_number false upper lower h = cc

pub is_ascii_alphanumeric-first : (b : ℕ) → is_ascii_digit b ≡ true → is_ascii_alphanumeric b ≡ true
is_ascii_alphanumeric-first b digit = in_number (is_in_range 48 57 b) (is_in_range 65 90 b) (is_in_range 97 122 b) digit

module _ (is_kind : ℕ → Bool) (b : ℕ) (text : List ℕ) (first : is_kind b ≡ true) where
  pub prefix_len-first : prefix_len is_kind (b ∷ text) ≡ suc (prefix_len is_kind text)
  prefix_len-first = cond-true (is_kind b) (1 + prefix_len is_kind text) 0 first ∙ one-add (prefix_len is_kind text)

  pub take-first : take (prefix_len is_kind (b ∷ text)) (b ∷ text) ≡ b ∷ take (prefix_len is_kind text) text
  take-first = ap (λ n. take n (b ∷ text)) prefix_len-first

  pub drop-first : drop (prefix_len is_kind (b ∷ text)) (b ∷ text) ≡ drop (prefix_len is_kind text) text
  drop-first = ap (λ n. drop n (b ∷ text)) prefix_len-first

-- a mark begins no word and no number
none_of : (test : ℕ → Bool) (b : ℕ) (marks : List ℕ) → list_any test marks ≡ false → list_any (λ m. b == m) marks ≡ true → test b ≡ false
none_of test b [] none any = cc
none_of test b (m ∷ marks) none any =
    let parts = or_parts (test m) (list_any test marks) none in
    elim (or_cases (b == m) (list_any (λ mark. b == mark) marks) any) [
      | inl here ↦ rw (eqb-true b m here) parts.0
      | inr later ↦ none_of test b marks parts.1 later
    ]

-- another first token than a mark that is looked for
other_token : (m b : ℕ) (begins digit is : Bool) (run : List ℕ) (n : Option ℕ) (rest : List Token) → (b == m) ≡ false → after_mark m (cond begins (word run) (cond digit (number_token n) (cond is (mark b) stray)) ∷ rest) ≡ None
unfolding after_mark
other_token m b true digit is run n rest other = refl
other_token m b false true is run None rest other = refl
other_token m b false true is run (Some k) rest other = refl
other_token m b false false true run n rest other = rw other refl
other_token m b false false false run n rest other = refl

-- the text is the gap and then these bytes, of which the first is no gap
module _ (text line : List ℕ) (b : ℕ) (behind : line ≡ drop (prefix_len is_gap text) text) (first : Some b ≡ slice_get line 0) where
  line_is : line ≡ b ∷ drop 1 line
  line_is = front line b first

  no_gap : is_gap b ≡ false
  no_gap = no_gap_left text (drop 1 line) b (sym behind ∙ line_is)

  tokens_of-line : tokens_of text ≡ token_at b (drop 1 line) ∷ tokens_of (drop (more_of b (drop 1 line)) (drop 1 line))
  tokens_of-line =
      sym (tokens_of-behind_gap text) ∙ ap tokens_of (sym behind ∙ line_is) ∙ tokens_of-first b (drop 1 line) no_gap

  module _ (run rest : List ℕ) where
    pub word_first : begins_word b ≡ true → run ≡ take (prefix_len is_in_word line) line → rest ≡ drop (prefix_len is_in_word line) line → tokens_of text ≡ word run ∷ tokens_of rest
    word_first begins run_is rest_is =
        let inside = is_in_word-first b begins in
        let taken = run_is ∙ ap (λ whole. take (prefix_len is_in_word whole) whole) line_is ∙ take-first is_in_word b (drop 1 line) inside in
        let dropped = rest_is ∙ ap (λ whole. drop (prefix_len is_in_word whole) whole) line_is ∙ drop-first is_in_word b (drop 1 line) inside in
        rw (taken, dropped) (tokens_of-line ∙ rw begins refl)

    pub number_first : begins_word b ≡ false → is_ascii_digit b ≡ true → run ≡ take (prefix_len is_ascii_alphanumeric line) line → rest ≡ drop (prefix_len is_ascii_alphanumeric line) line → tokens_of text ≡ number_token (number_of run) ∷ tokens_of rest
    number_first no_word digit run_is rest_is =
        let inside = is_ascii_alphanumeric-first b digit in
        let taken = run_is ∙ ap (λ whole. take (prefix_len is_ascii_alphanumeric whole) whole) line_is ∙ take-first is_ascii_alphanumeric b (drop 1 line) inside in
        let dropped = rest_is ∙ ap (λ whole. drop (prefix_len is_ascii_alphanumeric whole) whole) line_is ∙ drop-first is_ascii_alphanumeric b (drop 1 line) inside in
        rw (taken, dropped) (tokens_of-line ∙ rw (no_word, digit) refl)

  pub mark_first : begins_word b ≡ false → is_ascii_digit b ≡ false → is_mark b ≡ true → tokens_of text ≡ mark b ∷ tokens_of (drop 1 line)
  mark_first no_word no_digit is = tokens_of-line ∙ rw (no_word, no_digit, is) refl

  pub stray_first : begins_word b ≡ false → is_ascii_digit b ≡ false → is_mark b ≡ false → tokens_of text ≡ stray ∷ tokens_of (drop 1 line)
  stray_first no_word no_digit is = tokens_of-line ∙ rw (no_word, no_digit, is) refl

  pub mark_found : (m : ℕ) → is_mark m ≡ true → b ≡ m → after_mark m (tokens_of text) ≡ Some (tokens_of (drop 1 line))
  unfolding after_mark
  mark_found m is same =
      let here : is_mark b ≡ true = rw same is in
      rw (mark_first (none_of begins_word b (codes "[]()#+*&,:") refl here) (none_of is_ascii_digit b (codes "[]()#+*&,:") refl here) here, eq-eqb b m same) refl

  pub mark_missed : (m : ℕ) → (b ≡ m → ⊥) → after_mark m (tokens_of text) ≡ None
  mark_missed m other =
      rw tokens_of-line (other_token m b (begins_word b) (is_ascii_digit b) (is_mark b) _ _ _ (ne_eqb b m other))

  pub some_token : is_end (tokens_of text) ≡ false
  some_token = rw tokens_of-line refl

pub blank-is_end : (text line : List ℕ) → line ≡ drop (prefix_len is_gap text) text → is_end (tokens_of text) ≡ (length line == 0)
blank-is_end text [] behind = ap is_end (sym (tokens_of-behind_gap text) ∙ ap tokens_of (sym behind) ∙ tokens_of-nil)
blank-is_end text (b ∷ line) behind =
    some_token text (b ∷ line) b behind refl ∙ sym (ne_eqb (suc (length line)) 0 (λ none. absurd (omega arith)))

pub no_tokens : (text line : List ℕ) → line ≡ drop (prefix_len is_gap text) text → None ≡ slice_get line 0 → tokens_of text ≡ []
no_tokens text line behind none =
    sym (tokens_of-behind_gap text) ∙ ap tokens_of (sym behind ∙ no_front line none) ∙ tokens_of-nil
