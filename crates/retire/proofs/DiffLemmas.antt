-- Walks over two configurations side by side.
use Rattle.std.proofs.Common.{◌≡◌, ◌∙◌, ◌∷◌, ◌+◌, ◌++◌, ◌<◌, ◌≤◌, List, MatchOption, None, Option, Some, [], ap, append_assoc, arith, drop, false, get_or, length, length-append, refl, subst, sym, ℕ}
use Rattle.std.specs.Borrow.{Bor}
use Rattle.std.specs.List.{cons_option, filter_map, flat_map}
use Rattle.std.specs.Option.{is_some, option_to_list}
use Rattle.std.proofs.lemmas.List.{append-nil, drop_all, drop_more}
use Rattle.std.proofs.lemmas.List.Concat.{flat_map-append}
use Rattle.bpf_verify.specs.Program.{ProgramValue}
use Rattle.member_group.specs.declared.member.Member.{Member}
use Rattle.member_group.specs.Charge.{programs_of_group}
use Rattle.config_image.specs.Image.{Group}
use Rattle.config_image.specs.Pooled.{pages_for, parts_of}
use Rattle.retire.specs.declared.diff.Walk.{Walk}
use Rattle.retire.specs.body.Diff.{DifferInOne, GoesOn, IsPassed, filters_in, pages_in, words_in}
use Rattle.retire.proofs.SharingLemmas.{length-parts}

pub pages-append : (xs ys : List (List ℕ)) → pages_in (xs ++ ys) ≡ pages_in xs + pages_in ys
pages-append xs ys = ap length (flat_map-append parts_of xs ys) ∙ length-append (flat_map parts_of xs) (flat_map parts_of ys)

pub pages-one : (words : List ℕ) → pages_in (words ∷ []) ≡ pages_for (length words)
pages-one words = length-parts words [] ∙ (let g : pages_for (length words) + 0 ≡ pages_for (length words) = omega arith in g)

-- ---- one program more

match_both : {A N M : Type 0} {P Q : A → Type 0} (o : Option A) → (N → M) → ((x : A) → P x → Q x) → MatchOption o N P → MatchOption o M Q
match_both None f g h = f h
match_both (Some x) f g h = g x h

pub none_there : {A : Type 0} (o : Option A) → is_some o ≡ false → o ≡ None
none_there None e = refl
none_there (Some x) e = cc

differ_more : (programs others : List (List ℕ)) (words : List ℕ) (at : ℕ) (last last' : List ℕ) → last ≡ last' → DifferInOne programs others words at → DifferInOne (programs ++ last ∷ []) (others ++ last' ∷ []) words at
differ_more programs others words at last last' same h = record {
  done = h.done;
  old = h.old;
  rest = h.rest ++ last ∷ [];
  programs_are = ap (λ l. l ++ last ∷ []) h.programs_are ∙ append_assoc h.done (words ∷ h.rest) (last ∷ []);
  others_are = ap (λ l. l ++ last' ∷ []) h.others_are ∙ (append_assoc h.done (h.old ∷ h.rest) (last' ∷ []) ∙ ap (λ w. h.done ++ h.old ∷ (h.rest ++ w ∷ [])) (sym same));
  sized = h.sized;
  before = h.before;
}

module _ (before after : Walk) (words other : List ℕ) (more : after.pages ≡ before.pages + pages_for (length words)) where
  counted_more : (done others : List (List ℕ)) → IsPassed before done others → after.pages ≡ pages_in (done ++ words ∷ [])
  counted_more done others h = omega (arith, more, h.counted, pages-append done (words ∷ []), pages-one words)

  -- with the same words on both sides
  pub goes_on_same : words ≡ other → after.differs ≡ before.differs → GoesOn before after (words ∷ []) (other ∷ [])
  goes_on_same same kept = record {
    counted = omega (arith, more, pages-one words);
    passed = λ done others h. record {
      counted = counted_more done others h;
      differ = subst (λ o. MatchOption o (done ++ words ∷ [] ≡ others ++ other ∷ []) (λ one. DifferInOne (done ++ words ∷ []) (others ++ other ∷ []) one.0.now one.1)) (sym kept)
          (match_both before.differs (λ (e : done ≡ others). λ i. e i ++ same i ∷ []) (λ one d. differ_more done others one.0.now one.1 words other same d) h.differ);
    };
  }

  -- with other words, where there were none before
  pub goes_on_other : (one : Bor (List ℕ) × ℕ) → before.differs ≡ None → after.differs ≡ Some one → one.0.now ≡ words → one.1 ≡ before.pages → length words ≡ length other → GoesOn before after (words ∷ []) (other ∷ [])
  goes_on_other one none some words_are at_is sized = record {
    counted = omega (arith, more, pages-one words);
    passed = λ done others h.
        let same : done ≡ others = subst (λ o. MatchOption o (done ≡ others) (λ one. DifferInOne done others one.0.now one.1)) none h.differ in record {
          counted = counted_more done others h;
          differ = subst (λ o. MatchOption o (done ++ words ∷ [] ≡ others ++ other ∷ []) (λ one. DifferInOne (done ++ words ∷ []) (others ++ other ∷ []) one.0.now one.1)) (sym some) (record {
            done = done;
            old = other;
            rest = [];
            programs_are = ap (λ w. done ++ w ∷ []) (sym words_are);
            others_are = ap (λ l. l ++ other ∷ []) (sym same);
            sized = ap length words_are ∙ sized;
            before = at_is ∙ h.counted;
          });
        };
  }

pub goes_nowhere : (walk : Walk) → GoesOn walk walk [] []
goes_nowhere walk = record {
  counted = let g : walk.pages ≡ walk.pages + 0 = omega arith in g;
  passed = λ done others h. subst (λ l. IsPassed walk l (others ++ [])) (sym (append-nil done)) (subst (IsPassed walk done) (sym (append-nil others)) h);
}

-- ---- one part of a walk behind the other

pub goes_further : (before now after : Walk) (xs ys us vs : List (List ℕ)) → GoesOn before now xs ys → GoesOn now after us vs → GoesOn before after (xs ++ us) (ys ++ vs)
goes_further before now after xs ys us vs h k = record {
  counted = omega (arith, h.counted, k.counted, pages-append xs us);
  passed = λ done others p. subst (λ l. IsPassed after l (others ++ (ys ++ vs))) (append_assoc done xs us)
      (subst (IsPassed after ((done ++ xs) ++ us)) (append_assoc others ys vs) (k.passed (done ++ xs) (others ++ ys) (h.passed done others p)));
}

-- ---- members and groups

words-cons : (o : Option ProgramValue) (rest : List ProgramValue) → words_in (cons_option o rest) ≡ words_in (option_to_list o) ++ words_in rest
words-cons None rest = refl
words-cons (Some program) rest = refl

pub filters-cons : (member : Member ProgramValue) (rest : List (Member ProgramValue)) → filters_in (member ∷ rest) ≡ words_in (option_to_list member.filter) ++ filters_in rest
filters-cons member rest = words-cons member.filter (filter_map (λ (m : Member ProgramValue). m.filter) rest)

abbrev pub filters_of : Member ProgramValue → List (List ℕ)
filters_of member = words_in (option_to_list member.filter)

abbrev pub programs_in : Group → List (List ℕ)
programs_in group = words_in (programs_of_group group)

-- a walk over a list: it goes on over the first element, and then over the others
module _ {A : Type 0} (each : A → List (List ℕ)) (all : List A → List (List ℕ)) (cons : (x : A) (rest : List A) → all (x ∷ rest) ≡ each x ++ all rest)
    (xs ys : List A) (i : ℕ) (x y : A) (inside : i < length xs) (within : i < length ys) (x_is : x ≡ get_or xs i x) (y_is : y ≡ get_or ys i y) where
  left : all (drop i xs) ≡ each x ++ all (drop (i + 1) xs)
  left = ap all (drop_more xs i x inside) ∙ (cons (get_or xs i x) (drop (i + 1) xs) ∙ ap (λ a. each a ++ all (drop (i + 1) xs)) (sym x_is))

  right : all (drop i ys) ≡ each y ++ all (drop (i + 1) ys)
  right = ap all (drop_more ys i y within) ∙ (cons (get_or ys i y) (drop (i + 1) ys) ∙ ap (λ a. each a ++ all (drop (i + 1) ys)) (sym y_is))

  pub pages_left : pages_in (all (drop i xs)) ≡ pages_in (each x) + pages_in (all (drop (i + 1) xs))
  pages_left = ap pages_in left ∙ pages-append (each x) (all (drop (i + 1) xs))

  pub goes_behind : (now next after : Walk) → GoesOn now next (each x) (each y) → GoesOn next after (all (drop (i + 1) xs)) (all (drop (i + 1) ys)) → GoesOn now after (all (drop i xs)) (all (drop i ys))
  goes_behind now next after h k = subst (λ l. GoesOn now after l (all (drop i ys))) (sym left)
      (subst (GoesOn now after (each x ++ all (drop (i + 1) xs))) (sym right) (goes_further now next after (each x) (each y) (all (drop (i + 1) xs)) (all (drop (i + 1) ys)) h k))

-- at the end of both lists it stops
pub goes_at_end : {A : Type 0} (all : List A → List (List ℕ)) → all [] ≡ [] → (xs ys : List A) (i : ℕ) → length xs ≤ i → length xs ≡ length ys → (walk : Walk) → GoesOn walk walk (all (drop i xs)) (all (drop i ys))
goes_at_end all empty xs ys i past same walk = subst (λ l. GoesOn walk walk (all l) (all (drop i ys))) (sym (drop_all i xs past))
    (subst (λ l. GoesOn walk walk (all []) (all l)) (sym (drop_all i ys (omega arith))) (subst (λ l. GoesOn walk walk l l) (sym empty) (goes_nowhere walk)))
