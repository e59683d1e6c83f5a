-- Items and the words that they are, in any form.
use Rattle.std.proofs.Common.{◌≡◌, ◌≢◌, ◌∙◌, ◌+◌, ◌++◌, List, [], append_assoc, inl, inr, refl, subst, sym, ◌∷◌, ℕ}
use Rattle.std.proofs.lemmas.List.{append-nil}
use Rattle.bpf_formats.specs.Item.{AreWords, IsFirstOutOfForm, IsInForm, IsOutOfForm}

module _ (Spells : List ℕ → ℕ → Type 0) where
  pub are_words-unique : ((item : List ℕ) (a b : ℕ) → Spells item a → Spells item b → a ≡ b) → (items : List (List ℕ)) (a b : List ℕ) → AreWords Spells items a → AreWords Spells items b → a ≡ b
  are_words-unique one [] [] [] first second = refl
  are_words-unique one [] [] (y ∷ b) first second = absurd second
  are_words-unique one [] (x ∷ a) b first second = absurd first
  are_words-unique one ([] ∷ items) a b first second = are_words-unique one items a b first second
  are_words-unique one ((c ∷ item) ∷ items) [] b first second = absurd first
  are_words-unique one ((c ∷ item) ∷ items) (x ∷ a) [] first second = absurd second
  are_words-unique one ((c ∷ item) ∷ items) (x ∷ a) (y ∷ b) first second =
      let head = one (c ∷ item) x y first.0 second.0 in
      let tail = are_words-unique one items a b first.1 second.1 in
      cc

  pub are_words-cons : (item : List ℕ) (word : ℕ) (items : List (List ℕ)) (words : List ℕ) → item ≢ [] → Spells item word → AreWords Spells items words → AreWords Spells (item ∷ items) (word ∷ words)
  are_words-cons [] word items words filled spelled are = absurd (filled refl)
  are_words-cons (c ∷ item) word items words filled spelled are = (spelled, are)

  not_both_forms : (item : List ℕ) → IsInForm Spells item → IsOutOfForm Spells item → ⊥
  not_both_forms item (inl empty) out = out.0 empty
  not_both_forms item (inr spelled) out = out.1 spelled.0 spelled.1

  pub first_out_of_form-unique : (items : List (List ℕ)) (n a b : ℕ) → IsFirstOutOfForm Spells n items a → IsFirstOutOfForm Spells n items b → a ≡ b
  first_out_of_form-unique [] n a b first second = absurd first
  first_out_of_form-unique (item ∷ items) n a b (inl first) (inl second) = first.0 ∙ sym second.0
  first_out_of_form-unique (item ∷ items) n a b (inl first) (inr second) = absurd (not_both_forms item second.0 first.1)
  first_out_of_form-unique (item ∷ items) n a b (inr first) (inl second) = absurd (not_both_forms item first.0 second.1)
  first_out_of_form-unique (item ∷ items) n a b (inr first) (inr second) = first_out_of_form-unique items (n + 1) a b first.1 second.1

  -- words have no item out of form
  pub none_out_of_form : (items : List (List ℕ)) (words : List ℕ) (n line : ℕ) → AreWords Spells items words → IsFirstOutOfForm Spells n items line → ⊥
  none_out_of_form [] words n line are out = out
  none_out_of_form ([] ∷ items) words n line are (inl out) = out.1.0 refl
  none_out_of_form ([] ∷ items) words n line are (inr out) = none_out_of_form items words (n + 1) line are out.1
  none_out_of_form ((c ∷ item) ∷ items) [] n line are out = are
  none_out_of_form ((c ∷ item) ∷ items) (word ∷ words) n line are (inl out) = out.1.1 word are.0
  none_out_of_form ((c ∷ item) ∷ items) (word ∷ words) n line are (inr out) = none_out_of_form items words (n + 1) line are.1 out.1

-- the words so far are those of the items before item n: what the items from n on are follows them
pub record Continues (Spells : List ℕ → ℕ → Type 0) (whole : List (List ℕ)) (first : ℕ) (items : List (List ℕ)) (n : ℕ) (words : List ℕ) : Type 0 where
  pub words_follow : (later : List ℕ) → AreWords Spells items later → AreWords Spells whole (words ++ later)
  pub fault_follows : (line : ℕ) → IsFirstOutOfForm Spells n items line → IsFirstOutOfForm Spells first whole line

module _ (Spells : List ℕ → ℕ → Type 0) (whole : List (List ℕ)) (first : ℕ) where
  pub begins : Continues Spells whole first whole first []
  begins = record { words_follow = λ later are. are; fault_follows = λ line out. out }

  pub skips_empty : (item : List ℕ) (items : List (List ℕ)) (n : ℕ) (words : List ℕ) → item ≡ [] → Continues Spells whole first (item ∷ items) n words → Continues Spells whole first items (n + 1) words
  skips_empty item items n words empty before = record {
    words_follow = λ later are. before.words_follow later (subst (λ it. AreWords Spells (it ∷ items) later) (sym empty) are);
    fault_follows = λ line out. before.fault_follows line (inr (inl empty, out));
  }

  pub takes_word : (item : List ℕ) (items : List (List ℕ)) (n : ℕ) (words : List ℕ) (word : ℕ) → item ≢ [] → Spells item word → Continues Spells whole first (item ∷ items) n words → Continues Spells whole first items (n + 1) (words ++ word ∷ [])
  takes_word item items n words word filled spelled before = record {
    words_follow = λ later are. subst (AreWords Spells whole) (sym (append_assoc words (word ∷ []) later)) (before.words_follow (word ∷ later) (are_words-cons Spells item word items later filled spelled are));
    fault_follows = λ line out. before.fault_follows line (inr (inr (word, spelled), out));
  }

  pub ends : (n : ℕ) (words : List ℕ) → Continues Spells whole first [] n words → AreWords Spells whole words
  ends n words before = subst (AreWords Spells whole) (append-nil words) (before.words_follow [] tt)

  pub stops : (item : List ℕ) (items : List (List ℕ)) (n line : ℕ) (words : List ℕ) → line ≡ n → IsOutOfForm Spells item → Continues Spells whole first (item ∷ items) n words → IsFirstOutOfForm Spells first whole line
  stops item items n line words here out before = before.fault_follows line (inl (here, out))
