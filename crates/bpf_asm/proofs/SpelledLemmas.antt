-- The tokens that are read are the tokens that are spelled.
use Rattle.std.proofs.Common.{◌≡◌, ◌==◌, ◌∙◌, ◌+◌, ◌++◌, ◌≤◌, ◌⊎◌, ◌||◌, Bool, List, None, Option, Some, [], ap, arith, codes, cond, drop, false, inl, inr, length, nat_le, refl, subst, suc, sym, take, true, zero, ◌∷◌, ℕ}
use Rattle.std.specs.Char.{is_ascii_alphanumeric, is_ascii_digit}
use Rattle.std.specs.Int.{is_in_range}
use Rattle.std.specs.List.{AllByRecursion, list_all, list_any, prefix_len}
use Rattle.std.proofs.Math.Numerals.{one-add}
use Rattle.std.proofs.lemmas.Bool.{and_from, and_parts, cond-false, cond-true, eqb-true, false_from_ne_true, leb-true, or_cases}
use Rattle.std.proofs.lemmas.List.{drop_at, length-drop, take-append-drop, take_at}
use Rattle.bpf_asm.proofs.NumberLemmas.{number-spelled, number_is}
use Rattle.bpf_asm.proofs.TokenLemmas.{is_ascii_alphanumeric-first, is_in_word-first, tokens_after-drop, tokens_of-first, tokens_of-nil}
use Rattle.bpf_asm.specs.body.Reading.{more_of, number_of, number_token, token_at, tokens_after, tokens_of}
use Rattle.bpf_asm.specs.Token.{BeginsWith, IsLongestRun, IsTokens, SpellsToken, Token, begins_word, is_gap, is_in_word, is_mark, mark, number, stray, word}

-- ---- kinds of bytes

-- what holds of each mark holds of a byte that is one
of_first : (P : ℕ → Type 0) (b it : ℕ) (later : Bool) → P it → (later ≡ true → P b) → ((b == it) ≡ true) ⊎ (later ≡ true) → P b
of_first P b it later here others (inl same) = subst P (sym (eqb-true b it same)) here
of_first P b it later here others (inr is) = others is

of_one : (P : ℕ → Type 0) (b : ℕ) (marks : List ℕ) → AllByRecursion P marks → list_any (λ it. b == it) marks ≡ true → P b
of_one P b [] all is = cc
of_one P b (it ∷ marks) all is =
    of_first P b it (list_any (λ other. b == other) marks) all.0 (of_one P b marks all.1) (or_cases (b == it) (list_any (λ other. b == other) marks) is)

-- what a mark is not
abbrev pub IsNoOther : ℕ → Type 0
IsNoOther b = (is_gap b ≡ false) × (begins_word b ≡ false) × (is_ascii_digit b ≡ false)

pub mark_is_no_other : (b : ℕ) → is_mark b ≡ true → IsNoOther b
mark_is_no_other b is =
    of_one IsNoOther b (codes "[]()#+*&,:") ((refl, refl, refl), ((refl, refl, refl), ((refl, refl, refl), ((refl, refl, refl), ((refl, refl, refl), ((refl, refl, refl), ((refl, refl, refl), ((refl, refl, refl), ((refl, refl, refl), ((refl, refl, refl), tt)))))))))) is

no_gap_in : (P : ℕ → Bool) (b : ℕ) → P 32 ≡ false → P 9 ≡ false → P b ≡ true → is_gap b ≡ false
no_gap_in P b space tab is = false_from_ne_true (is_gap b) (λ gap. by_byte (or_cases (b == 32) (b == 9) gap)) where
  by_byte : ((b == 32) ≡ true) ⊎ ((b == 9) ≡ true) → ⊥
  by_byte (inl same) = let it = ap P (eqb-true b 32 same) in absurd cc
  by_byte (inr same) = let it = ap P (eqb-true b 9 same) in absurd cc

range : (low high b : ℕ) → is_in_range low high b ≡ true → (low ≤ b) × (b ≤ high)
range low high b is = let both = and_parts (nat_le low b) (nat_le b high) is in (leb-true low b both.0, leb-true b high both.1)

digit_begins_no_word : (b : ℕ) → is_ascii_digit b ≡ true → begins_word b ≡ false
digit_begins_no_word b digit = false_from_ne_true (begins_word b) (λ begins. by_kind (or_cases (is_in_range 65 90 b || is_in_range 97 122 b) (b == 95) begins)) where
  by_letter : (is_in_range 65 90 b ≡ true) ⊎ (is_in_range 97 122 b ≡ true) → ⊥
  by_letter (inl upper) = let at = range 48 57 b digit in let other = range 65 90 b upper in absurd (omega arith)
  by_letter (inr lower) = let at = range 48 57 b digit in let other = range 97 122 b lower in absurd (omega arith)

  by_kind : ((is_in_range 65 90 b || is_in_range 97 122 b) ≡ true) ⊎ ((b == 95) ≡ true) → ⊥
  by_kind (inl letter) = by_letter (or_cases (is_in_range 65 90 b) (is_in_range 97 122 b) letter)
  by_kind (inr underscore) = let at = range 48 57 b digit in let same = eqb-true b 95 underscore in absurd (omega arith)

-- ---- longest runs

ends_at : (is_kind : ℕ → Bool) (rest : List ℕ) → (BeginsWith is_kind rest → ⊥) → prefix_len is_kind rest ≡ 0
ends_at is_kind [] longest = refl
ends_at is_kind (b ∷ rest) longest = cond-false (is_kind b) (1 + prefix_len is_kind rest) 0 (false_from_ne_true (is_kind b) longest)

prefix_len-run : (is_kind : ℕ → Bool) (run rest : List ℕ) → list_all is_kind run ≡ true → (BeginsWith is_kind rest → ⊥) → prefix_len is_kind (run ++ rest) ≡ length run
prefix_len-run is_kind [] rest all longest = ends_at is_kind rest longest
prefix_len-run is_kind (b ∷ run) rest all longest =
    let both = and_parts (is_kind b) (list_all is_kind run) all in
    cond-true (is_kind b) (1 + prefix_len is_kind (run ++ rest)) 0 both.0
    ∙ one-add (prefix_len is_kind (run ++ rest))
    ∙ ap suc (prefix_len-run is_kind run rest both.1 longest)

all_more : (is_kind : ℕ → Bool) (b : ℕ) (text : List ℕ) (first : Bool) → is_kind b ≡ first → list_all is_kind (take (prefix_len is_kind text) text) ≡ true → list_all is_kind (take (cond first (1 + prefix_len is_kind text) 0) (b ∷ text)) ≡ true
all_more is_kind b text true is later = rw one-add (and_from (is_kind b) (list_all is_kind (take (prefix_len is_kind text) text)) is later)
all_more is_kind b text false is later = refl

all_in_prefix : (is_kind : ℕ → Bool) (text : List ℕ) → list_all is_kind (take (prefix_len is_kind text) text) ≡ true
all_in_prefix is_kind [] = refl
all_in_prefix is_kind (b ∷ text) = all_more is_kind b text (is_kind b) refl (all_in_prefix is_kind text)

stops_more : (is_kind : ℕ → Bool) (b : ℕ) (text : List ℕ) (first : Bool) → is_kind b ≡ first → (BeginsWith is_kind (drop (prefix_len is_kind text) text) → ⊥) → BeginsWith is_kind (drop (cond first (1 + prefix_len is_kind text) 0) (b ∷ text)) → ⊥
stops_more is_kind b text true is later begins = later (rw one-add at begins)
stops_more is_kind b text false is later first = let it : is_kind b ≡ true = first in absurd cc

stops_behind_prefix : (is_kind : ℕ → Bool) (text : List ℕ) → BeginsWith is_kind (drop (prefix_len is_kind text) text) → ⊥
stops_behind_prefix is_kind [] = λ begins. begins
stops_behind_prefix is_kind (b ∷ text) = stops_more is_kind b text (is_kind b) refl (stops_behind_prefix is_kind text)

pub longest_prefix : (is_kind : ℕ → Bool) (b : ℕ) (text : List ℕ) → is_kind b ≡ true → IsLongestRun is_kind (b ∷ take (prefix_len is_kind text) text) (drop (prefix_len is_kind text) text)
longest_prefix is_kind b text first = record {
  all = and_from (is_kind b) (list_all is_kind (take (prefix_len is_kind text) text)) first (all_in_prefix is_kind text);
  longest = stops_behind_prefix is_kind text;
}

-- ---- what is spelled is read

gap_dropped : (gap text : List ℕ) → list_all is_gap gap ≡ true → tokens_of (gap ++ text) ≡ tokens_of text
unfolding tokens_after
gap_dropped [] text all = refl
gap_dropped (b ∷ gap) text all =
    let both = and_parts (is_gap b) (list_all is_gap gap) all in
    cond-true (is_gap b) (tokens_after 0 (gap ++ text)) (token_at b (gap ++ text) ∷ tokens_after (more_of b (gap ++ text)) (gap ++ text)) both.0
    ∙ gap_dropped gap text both.1

gap_only : (line : List ℕ) → list_all is_gap line ≡ true → tokens_of line ≡ []
unfolding tokens_after
gap_only [] all = refl
gap_only (b ∷ line) all =
    let both = and_parts (is_gap b) (list_all is_gap line) all in
    cond-true (is_gap b) (tokens_after 0 line) (token_at b line ∷ tokens_after (more_of b line) line) both.0 ∙ gap_only line both.1

-- a run of a kind is taken, and what follows it is left
module _ (is_kind : ℕ → Bool) (b : ℕ) (run rest : List ℕ) (longest : IsLongestRun is_kind (b ∷ run) rest) where
  run_len : prefix_len is_kind (run ++ rest) ≡ length run
  run_len = prefix_len-run is_kind run rest (and_parts (is_kind b) (list_all is_kind run) longest.all).1 longest.longest

  run_taken : take (prefix_len is_kind (run ++ rest)) (run ++ rest) ≡ run
  run_taken = rw run_len (take_at run rest (length run) refl)

  run_dropped : drop (prefix_len is_kind (run ++ rest)) (run ++ rest) ≡ rest
  run_dropped = rw run_len (drop_at run rest (length run) refl)

word_read : (run rest name : List ℕ) → SpellsToken run rest (word name) → tokens_of (run ++ rest) ≡ word name ∷ tokens_of rest
word_read [] rest name spelled = absurd spelled.1
word_read (b ∷ run) rest name (same, begins, longest) =
    let first = tokens_of-first b (run ++ rest) (no_gap_in begins_word b refl refl begins) in
    let token = cond-true (begins_word b) (word (b ∷ take (prefix_len is_in_word (run ++ rest)) (run ++ rest))) (cond (is_ascii_digit b) (number_token (number_of (b ∷ take (prefix_len is_ascii_alphanumeric (run ++ rest)) (run ++ rest)))) (cond (is_mark b) (mark b) stray)) begins in
    let more = cond-true (begins_word b) (prefix_len is_in_word (run ++ rest)) (cond (is_ascii_digit b) (prefix_len is_ascii_alphanumeric (run ++ rest)) 0) begins in
    first
    ∙ ap (λ it. it ∷ tokens_of (drop (more_of b (run ++ rest)) (run ++ rest))) (token ∙ ap (λ it. word (b ∷ it)) (run_taken is_in_word b run rest longest) ∙ ap word same)
    ∙ ap (λ n. word name ∷ tokens_of (drop n (run ++ rest))) more
    ∙ ap (λ left. word name ∷ tokens_of left) (run_dropped is_in_word b run rest longest)

number_read : (run rest : List ℕ) (n : ℕ) → SpellsToken run rest (number n) → tokens_of (run ++ rest) ≡ number n ∷ tokens_of rest
number_read [] rest n spelled = absurd spelled.0
number_read (b ∷ run) rest n (begins, longest, spelled) =
    let no_word = digit_begins_no_word b begins in
    let first = tokens_of-first b (run ++ rest) (no_gap_in is_ascii_digit b refl refl begins) in
    let token : token_at b (run ++ rest) ≡ number_token (number_of (b ∷ take (prefix_len is_ascii_alphanumeric (run ++ rest)) (run ++ rest))) = rw (no_word, begins) refl in
    let more : more_of b (run ++ rest) ≡ prefix_len is_ascii_alphanumeric (run ++ rest) = rw (no_word, begins) refl in
    let value = ap (λ it. number_token (number_of (b ∷ it))) (run_taken is_ascii_alphanumeric b run rest longest) ∙ ap number_token (number-spelled (b ∷ run) n spelled) in
    first
    ∙ ap (λ it. it ∷ tokens_of (drop (more_of b (run ++ rest)) (run ++ rest))) (token ∙ value)
    ∙ ap (λ skipped. number n ∷ tokens_of (drop skipped (run ++ rest))) more
    ∙ ap (λ left. number n ∷ tokens_of left) (run_dropped is_ascii_alphanumeric b run rest longest)

mark_read : (b : ℕ) (rest : List ℕ) → is_mark b ≡ true → tokens_of (b ∷ rest) ≡ mark b ∷ tokens_of rest
mark_read b rest is =
    let other = mark_is_no_other b is in
    let no_word = other.1 in
    let no_digit = other.2 in
    let token : token_at b rest ≡ mark b = rw (no_word, no_digit, is) refl in
    let more : more_of b rest ≡ 0 = rw (no_word, no_digit) refl in
    tokens_of-first b rest other.0
    ∙ ap (λ it. it ∷ tokens_of (drop (more_of b rest) rest)) token
    ∙ ap (λ skipped. mark b ∷ tokens_of (drop skipped rest)) more

token_read : (run rest : List ℕ) (token : Token) → SpellsToken run rest token → tokens_of (run ++ rest) ≡ token ∷ tokens_of rest
token_read run rest (word name) spelled = word_read run rest name spelled
token_read run rest (number n) spelled = number_read run rest n spelled
token_read run rest (mark b) spelled = ap (λ it. tokens_of (it ++ rest)) spelled.0 ∙ mark_read b rest spelled.1
token_read run rest stray spelled = absurd spelled

pub tokens_read : (tokens : List Token) (line : List ℕ) → IsTokens line tokens → tokens_of line ≡ tokens
tokens_read [] line gaps = gap_only line gaps
tokens_read (token ∷ tokens) line (gap, run, rest, is, gaps, spelled, later) =
    ap tokens_of is
    ∙ gap_dropped gap (run ++ rest) gaps
    ∙ token_read run rest token spelled
    ∙ ap (λ left. token ∷ left) (tokens_read tokens rest later)

-- ---- what is read is spelled, where nothing is a stray

abbrev pub HasNoStray : List Token → Type 0
HasNoStray [] = Unit {0}
HasNoStray (word name ∷ tokens) = HasNoStray tokens
HasNoStray (number n ∷ tokens) = HasNoStray tokens
HasNoStray (mark b ∷ tokens) = HasNoStray tokens
HasNoStray (stray ∷ tokens) = ⊥

no_stray_later : (token : Token) (tokens : List Token) → HasNoStray (token ∷ tokens) → HasNoStray tokens
no_stray_later (word name) tokens none = none
no_stray_later (number n) tokens none = none
no_stray_later (mark b) tokens none = none
no_stray_later stray tokens none = absurd none

gap_more : (b : ℕ) (line : List ℕ) (tokens : List Token) → is_gap b ≡ true → IsTokens line tokens → IsTokens (b ∷ line) tokens
gap_more b line [] gap spelled = and_from (is_gap b) (list_all is_gap line) gap spelled
gap_more b line (token ∷ tokens) gap (before, run, rest, is, gaps, spelled, later) =
    (b ∷ before, run, rest, ap (λ left. b ∷ left) is, and_from (is_gap b) (list_all is_gap before) gap gaps, spelled, later)

-- the token that a byte begins is spelled by it and the bytes behind it that belong to it
module _ (b : ℕ) (text : List ℕ) where
  number_spelled : (found : Option ℕ) → number_of (b ∷ take (prefix_len is_ascii_alphanumeric text) text) ≡ found → is_ascii_digit b ≡ true → HasNoStray (number_token found ∷ []) → SpellsToken (b ∷ take (prefix_len is_ascii_alphanumeric text) text) (drop (prefix_len is_ascii_alphanumeric text) text) (number_token found)
  number_spelled None is digit none = absurd none
  number_spelled (Some n) is digit none =
      (digit, longest_prefix is_ascii_alphanumeric b text (is_ascii_alphanumeric-first b digit), number_is (b ∷ take (prefix_len is_ascii_alphanumeric text) text) n is)

  mark_spelled : (is_one : Bool) → is_mark b ≡ is_one → HasNoStray (cond is_one (mark b) stray ∷ []) → SpellsToken (b ∷ []) text (cond is_one (mark b) stray)
  mark_spelled true is none = (refl, is)
  mark_spelled false is none = absurd none

  abbrev more_by : Bool → Bool → ℕ
  more_by begins digit = cond begins (prefix_len is_in_word text) (cond digit (prefix_len is_ascii_alphanumeric text) 0)

  abbrev token_by : Bool → Bool → Token
  token_by begins digit = cond begins (word (b ∷ take (prefix_len is_in_word text) text)) (cond digit (number_token (number_of (b ∷ take (prefix_len is_ascii_alphanumeric text) text))) (cond (is_mark b) (mark b) stray))

  spelled_by : (begins digit : Bool) → begins_word b ≡ begins → is_ascii_digit b ≡ digit → HasNoStray (token_by begins digit ∷ []) → SpellsToken (b ∷ take (more_by begins digit) text) (drop (more_by begins digit) text) (token_by begins digit)
  spelled_by true digit begins is none = (refl, begins, longest_prefix is_in_word b text (is_in_word-first b begins))
  spelled_by false true begins is none = number_spelled (number_of (b ∷ take (prefix_len is_ascii_alphanumeric text) text)) refl is none
  spelled_by false false begins is none = mark_spelled (is_mark b) refl none

  pub token_spelled : HasNoStray (token_at b text ∷ []) → SpellsToken (b ∷ take (more_of b text) text) (drop (more_of b text) text) (token_at b text)
  token_spelled none = spelled_by (begins_word b) (is_ascii_digit b) refl refl none

no_stray_first : (token : Token) (tokens : List Token) → HasNoStray (token ∷ tokens) → HasNoStray (token ∷ [])
no_stray_first (word name) tokens none = tt
no_stray_first (number n) tokens none = tt
no_stray_first (mark b) tokens none = tt
no_stray_first stray tokens none = absurd none

spelled_at : (n : ℕ) (b : ℕ) (text : List ℕ) (gap : Bool) → is_gap b ≡ gap → length text ≤ n → ((left : List ℕ) → length left ≤ n → HasNoStray (tokens_of left) → IsTokens left (tokens_of left)) → HasNoStray (cond gap (tokens_of text) (token_at b text ∷ tokens_of (drop (more_of b text) text))) → IsTokens (b ∷ text) (cond gap (tokens_of text) (token_at b text ∷ tokens_of (drop (more_of b text) text)))
spelled_at n b text true is short later none = gap_more b text (tokens_of text) is (later text short none)
spelled_at n b text false is short later none =
    let rest = drop (more_of b text) text in
    let shorter : length rest ≤ n = omega (arith, length-drop (more_of b text) text) in (
      [],
      b ∷ take (more_of b text) text,
      rest,
      ap (λ left. b ∷ left) (sym (take-append-drop (more_of b text) text)),
      refl,
      token_spelled b text (no_stray_first (token_at b text) (tokens_of rest) none),
      later rest shorter (no_stray_later (token_at b text) (tokens_of rest) none),
    )

-- the first token, or a gap
tokens_of-by_gap : (b : ℕ) (text : List ℕ) → tokens_of (b ∷ text) ≡ cond (is_gap b) (tokens_of text) (token_at b text ∷ tokens_of (drop (more_of b text) text))
unfolding tokens_after
tokens_of-by_gap b text = ap (λ left. cond (is_gap b) (tokens_of text) (token_at b text ∷ left)) (tokens_after-drop (more_of b text) text)

spelled_within : (n : ℕ) (text : List ℕ) → length text ≤ n → HasNoStray (tokens_of text) → IsTokens text (tokens_of text)
spelled_within n [] short none = rw tokens_of-nil refl
spelled_within zero (b ∷ text) short none = absurd (omega arith)
spelled_within (suc n) (b ∷ text) short none =
    rw (tokens_of-by_gap b text) (spelled_at n b text (is_gap b) refl (omega arith) (spelled_within n) (rw (tokens_of-by_gap b text) at none))

pub tokens_spelled : (text : List ℕ) → HasNoStray (tokens_of text) → IsTokens text (tokens_of text)
tokens_spelled text none = spelled_within (length text) text (omega arith) none
