-- The words of a text that is cut at its first space, and the verdict that they tell.
use Rattle.std.proofs.Common.{◌≡◌, ◌≢◌, ◌∙◌, ◌==◌, ◌++◌, ◌∷◌, Bool, List, None, Option, Some, [], ap, append-nil, append_assoc, arith, false, length, length-append, ◌+◌, refl, suc, sym, take, true, ℕ}
use Rattle.std.proofs.lemmas.Bool.{false_from_ne_true, eqb-true, cond-false}
use Rattle.std.specs.Str.{bytes_eq}
use Rattle.std.proofs.Math.Seq.{take-append_seam}
use Rattle.std.specs.Prelude.{codes, if◌then◌else◌}
use Rattle.ipv4_fields.specs.Cut.{IsSplitAt, Lacks}
use Rattle.control_summary.specs.Verdict.{first_three, grow_first, is_among, names_alone, names_of_member, verdict_at, verdict_in, words_of}
use Rattle.control_summary.specs.Kind.{refusal_in}
use Rattle.control_summary.specs.body.Words.{BeginsWithWord}

-- a byte that is no space begins the first word
in_word : (byte : ℕ) (rest : List ℕ) → byte ≢ 32 → words_of (byte ∷ rest) ≡ grow_first byte (words_of rest)
unfolding words_of
in_word byte rest apart = cond-false (byte == 32) ([] ∷ words_of rest) (grow_first byte (words_of rest)) (false_from_ne_true (byte == 32) (λ is. apart (eqb-true byte 32 is)))

-- where there is no space there is one word
pub one_word : (text : List ℕ) → Lacks 32 text → words_of text ≡ text ∷ []
unfolding words_of
one_word [] lacks = refl
one_word (byte ∷ rest) lacks =
    in_word byte rest (lacks 0 (omega arith)) ∙ ap (λ (words : List (List ℕ)). grow_first byte words) (one_word rest (λ k inside. lacks (suc k) (omega arith)))

-- else the first word ends at the first space
words_behind : (first rest : List ℕ) → Lacks 32 first → words_of (first ++ 32 ∷ rest) ≡ first ∷ words_of rest
unfolding words_of
words_behind [] rest lacks = refl
words_behind (byte ∷ first) rest lacks =
    in_word byte (first ++ 32 ∷ rest) (lacks 0 (omega arith)) ∙ ap (λ (words : List (List ℕ)). grow_first byte words) (words_behind first rest (λ k inside. lacks (suc k) (omega arith)))

pub cut_words : (text first rest : List ℕ) → IsSplitAt 32 text first rest → words_of text ≡ first ∷ words_of rest
cut_words text first rest cut = ap words_of cut.whole ∙ words_behind first rest cut.lacks

-- ---- the first word

pub whole_word : (text : List ℕ) → Lacks 32 text → BeginsWithWord text text
whole_word text lacks = record { words = []; rest = []; first = one_word text lacks; front = sym (append-nil text) }

pub cut_word : (text first rest : List ℕ) → IsSplitAt 32 text first rest → BeginsWithWord text first
cut_word text first rest cut = record { words = words_of rest; rest = 32 ∷ rest; first = cut_words text first rest cut; front = cut.whole }

-- ---- three words

pub no_second_word : (text : List ℕ) → Lacks 32 text → first_three (words_of text) ≡ None
no_second_word text lacks = ap first_three (one_word text lacks)

pub no_third_word : (text first rest : List ℕ) → IsSplitAt 32 text first rest → Lacks 32 rest → first_three (words_of text) ≡ None
no_third_word text first rest cut lacks = ap first_three (cut_words text first rest cut ∙ ap (λ (words : List (List ℕ)). first ∷ words) (one_word rest lacks))

three_are : (text name behind key more id : List ℕ) → IsSplitAt 32 text name behind → IsSplitAt 32 behind key more → BeginsWithWord more id
    → first_three (words_of text) ≡ Some (name ++ codes " " ++ key ++ codes " " ++ id)
three_are text name behind key more id one two three =
    ap first_three (cut_words text name behind one ∙ ap (λ (words : List (List ℕ)). name ∷ words) (cut_words behind key more two ∙ ap (λ (words : List (List ℕ)). key ∷ words) three.first))

abbrev spaced : List ℕ → List ℕ → List ℕ → List ℕ
spaced name key id = name ++ codes " " ++ key ++ codes " " ++ id

length-spaced : (name key id : List ℕ) → length (spaced name key id) ≡ length name + 1 + length key + 1 + length id
length-spaced name key id = simp length-append (omega arith)

regrouped : (name key id rest : List ℕ) → name ++ 32 ∷ (key ++ 32 ∷ (id ++ rest)) ≡ spaced name key id ++ rest
regrouped name key id rest = simp append_assoc

pub three_taken : (text name behind key more id : List ℕ) → IsSplitAt 32 text name behind → IsSplitAt 32 behind key more → BeginsWithWord more id
    → ◌≡◌ {A = Option (List ℕ)} (Some (take (length name + 1 + length key + 1 + length id) text)) (first_three (words_of text))
three_taken text name behind key more id one two three =
    let whole : text ≡ spaced name key id ++ three.rest =
    one.whole ∙ (ap (λ (b : List ℕ). name ++ 32 ∷ b) (two.whole ∙ ap (λ (m : List ℕ). key ++ 32 ∷ m) three.front) ∙ regrouped name key id three.rest) in
    let count : length name + 1 + length key + 1 + length id ≡ length (spaced name key id) = sym (length-spaced name key id) in
    ap (λ (t : List ℕ). Some t) (ap (λ (n : ℕ). take n text) count ∙ (ap (λ (t : List ℕ). take (length (spaced name key id)) t) whole ∙ take-append_seam (spaced name key id) three.rest))
    ∙ sym (three_are text name behind key more id one two three)

-- ---- the verdict by its name

pub named_alone : (name : List ℕ) (behind : List (List ℕ)) → is_among names_alone name ≡ true → verdict_at (name ∷ behind) ≡ Some name
unfolding verdict_at
named_alone name behind is = simp is refl

pub named_with_member : (name : List ℕ) (behind : List (List ℕ)) → is_among names_alone name ≡ false → is_among names_of_member name ≡ true
    → verdict_at (name ∷ behind) ≡ first_three (name ∷ behind)
unfolding verdict_at
named_with_member name behind other is = simp (other, is) refl

pub not_named : (name : List ℕ) (behind : List (List ℕ)) → is_among names_alone name ≡ false → is_among names_of_member name ≡ false → verdict_at (name ∷ behind) ≡ None
unfolding verdict_at
not_named name behind other is = simp (other, is) refl

-- ---- the verdict of a reply

pub one_word_only : (text : List ℕ) → Lacks 32 text → verdict_in (words_of text) ≡ None
unfolding verdict_in
one_word_only text lacks = ap verdict_in (one_word text lacks)

no_verdict : (is_judged : Bool) → ◌≡◌ {A = Option (List ℕ)} (if is_judged then None else None) None
no_verdict true = refl
no_verdict false = refl

pub two_words_only : (text first rest : List ℕ) → IsSplitAt 32 text first rest → Lacks 32 rest → verdict_in (words_of text) ≡ None
unfolding verdict_in verdict_at
two_words_only text first rest cut lacks =
    ap verdict_in (cut_words text first rest cut ∙ ap (λ (words : List (List ℕ)). first ∷ words) (one_word rest lacks))
    ∙ no_verdict (bytes_eq first (codes "version"))

module _ (text first behind number verdict : List ℕ) (one : IsSplitAt 32 text first behind) (two : IsSplitAt 32 behind number verdict) where
  words_are : words_of text ≡ first ∷ (number ∷ words_of verdict)
  words_are = cut_words text first behind one ∙ ap (λ (words : List (List ℕ)). first ∷ words) (cut_words behind number verdict two)

  pub judged : bytes_eq first (codes "version") ≡ true → verdict_in (words_of text) ≡ verdict_at (words_of verdict)
  unfolding verdict_in
  judged is = ap verdict_in words_are ∙ simp is refl

  pub not_judged : bytes_eq first (codes "version") ≡ false → verdict_in (words_of text) ≡ None
  unfolding verdict_in
  not_judged is = ap verdict_in words_are ∙ simp is refl

-- ---- the refusal of a reply

pub one_word_refuses_nothing : (text : List ℕ) → Lacks 32 text → refusal_in (words_of text) ≡ None
unfolding refusal_in
one_word_refuses_nothing text lacks = ap refusal_in (one_word text lacks) ∙ no_verdict (bytes_eq text (codes "refused"))

module _ (text first behind code : List ℕ) (cut : IsSplitAt 32 text first behind) (word : BeginsWithWord behind code) where
  begins_with_two : words_of text ≡ first ∷ (code ∷ word.words)
  begins_with_two = cut_words text first behind cut ∙ ap (λ (words : List (List ℕ)). first ∷ words) word.first

  refused_two : List ℕ
  refused_two = first ++ codes " " ++ code

  length-refused_two : length refused_two ≡ length first + 1 + length code
  unfolding refused_two
  length-refused_two = simp length-append (omega arith)

  two_in_front : text ≡ refused_two ++ word.rest
  unfolding refused_two
  two_in_front = cut.whole ∙ (ap (λ (b : List ℕ). first ++ 32 ∷ b) word.front ∙ simp append_assoc)

  two_taken : take (length first + 1 + length code) text ≡ refused_two
  two_taken =
      ap (λ (n : ℕ). take n text) (sym length-refused_two)
      ∙ (ap (λ (t : List ℕ). take (length refused_two) t) two_in_front ∙ take-append_seam refused_two word.rest)

  pub refused : bytes_eq first (codes "refused") ≡ true → ◌≡◌ {A = Option (List ℕ)} (Some (take (length first + 1 + length code) text)) (refusal_in (words_of text))
  unfolding refusal_in refused_two
  refused is = ap (λ (t : List ℕ). Some t) two_taken ∙ sym (ap refusal_in begins_with_two ∙ simp is refl)

pub not_refused : (text first behind : List ℕ) → IsSplitAt 32 text first behind → bytes_eq first (codes "refused") ≡ false → refusal_in (words_of text) ≡ None
unfolding refusal_in
not_refused text first behind cut is = ap refusal_in (cut_words text first behind cut) ∙ simp is refl
