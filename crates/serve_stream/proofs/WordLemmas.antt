-- Words at the front of a line.
use Rattle.std.proofs.Common.{◌≡◌, ◌∙◌, ◌++◌, ◌∷◌, List, codes, inl, inr, refl, subst, sym, ℕ}
use Rattle.ipv4_fields.specs.Cut.{IsSplitAt, Lacks}
use Rattle.ipv4_fields.proofs.TextLemmas.{has_separator, lacks-test, one_cut}
use Rattle.serve_stream.specs.Request.{IsFirstWord, IsStartWord, NamesBlock, after_version, alone, at_front, followed}

lacks-at : Lacks 32 (codes "at")
lacks-at = lacks-test 32 (codes "at") refl

-- a text has one first word
one_first : (text one other : List ℕ) → IsFirstWord text one → IsFirstWord text other → one ≡ other
one_first text one other (alone lacks is) (alone lacks' is') = sym is ∙ is'
one_first text one other (alone lacks is) (followed rest lacks' is') = absurd (has_separator 32 other rest (subst (Lacks 32) (sym is ∙ is') lacks))
one_first text one other (followed rest lacks is) (alone lacks' is') = absurd (has_separator 32 one rest (subst (Lacks 32) (sym is' ∙ is) lacks'))
one_first text one other (followed rest lacks is) (followed rest' lacks' is') = (one_cut 32 one other rest rest' lacks lacks' (sym is ∙ is')).0

pub not_at : (text word left : List ℕ) → IsSplitAt 32 text word left → (word ≡ codes "at" → ⊥) → (rest : List ℕ) → text ≡ codes "at" ++ 32 ∷ rest → ⊥
not_at text word left cut other rest is = other (one_cut 32 word (codes "at") left rest cut.lacks lacks-at (sym cut.whole ∙ is)).0

pub rest_is : (text word left rest : List ℕ) → IsSplitAt 32 text word left → text ≡ codes "at" ++ 32 ∷ rest → left ≡ rest
rest_is text word left rest cut is = (one_cut 32 word (codes "at") left rest cut.lacks lacks-at (sym cut.whole ∙ is)).1

pub no_version : (text word left : List ℕ) → IsSplitAt 32 text word left → Lacks 32 left → (version rest : List ℕ) → text ≡ codes "at" ++ 32 ∷ (version ++ 32 ∷ rest) → ⊥
no_version text word left cut lacks version rest is =
    has_separator 32 version rest (subst (Lacks 32) (rest_is text word left (version ++ 32 ∷ rest) cut is) lacks)

at_is_no_start : (word : List ℕ) → word ≡ codes "at" → IsStartWord word → ⊥
at_is_no_start word is (inl all) = let no : codes "at" ≡ codes "all" = sym is ∙ all in absurd cc
at_is_no_start word is (inr anew) = let no : codes "at" ≡ codes "anew" = sym is ∙ anew in absurd cc

-- a line with `at W ` before its rest names a block if the rest begins with a block's first word
module _ (text version rest word : List ℕ) (lacks : Lacks 32 version) (is : text ≡ codes "at" ++ 32 ∷ (version ++ 32 ∷ rest)) (first : IsFirstWord rest word) where
  pub named_after : NamesBlock text → IsStartWord word
  named_after (at_front other first' start) =
      absurd (at_is_no_start other (one_first text other (codes "at") first' (followed (version ++ 32 ∷ rest) lacks-at is)) start)
  named_after (after_version version' rest' other lacks' is' first' start) =
      let cut = one_cut 32 (codes "at") (codes "at") (version' ++ 32 ∷ rest') (version ++ 32 ∷ rest) lacks-at lacks-at (sym is' ∙ is) in
      let left = one_cut 32 version' version rest' rest lacks' lacks cut.1 in
      subst IsStartWord (one_first rest other word (subst (λ (t : List ℕ). IsFirstWord t other) left.1 first') first) start

-- and any other line if it begins with one
pub named_front : (text word : List ℕ) → ((version rest : List ℕ) → Lacks 32 version → text ≡ codes "at" ++ 32 ∷ (version ++ 32 ∷ rest) → ⊥) → IsFirstWord text word → NamesBlock text → IsStartWord word
named_front text word none first (at_front other first' start) = subst IsStartWord (one_first text other word first' first) start
named_front text word none first (after_version version rest other lacks is first' start) = absurd (none version rest lacks is)
