-- Lists whose elements have numbers: members of a group, and groups by the numbers of their keys.
use Rattle.std.proofs.Common.{◌++◌, ◌<◌, ◌∙◌, ◌∷◌, ◌≡◌, ◌≢◌, List, None, Some, [], ap, arith, false, find, inl, inr, map, refl, suc, sym, subst, ℕ}
use Rattle.std.specs.Prelude.{◌==◌, if◌then◌else◌, cond, nat_lt, not}
use Rattle.std.specs.List.{All, AllPairs, filter}
use Rattle.std.proofs.lemmas.Bool.{cases_Bool, eq-eqb, eqb-true, le-ltb, lt-ltb}

pub apart_test : (a b : ℕ) → a ≢ b → (a == b) ≡ false
apart_test a b apart = elim (cases_Bool (a == b)) [
  | inl same ↦ absurd (apart (eqb-true a b same))
  | inr differs ↦ differs
]

module _ {X : Type 0} (number : X → ℕ) where
  -- no element has a number
  abbrev pub Lacks : ℕ → List X → Type 0
  Lacks n [] = Unit {0}
  Lacks n (x ∷ xs) = (number x ≢ n) × Lacks n xs

  -- no two elements have the same number
  abbrev pub AreDistinct : List X → Type 0
  AreDistinct [] = Unit {0}
  AreDistinct (x ∷ xs) = Lacks (number x) xs × AreDistinct xs

  pub lacks_parts : (n : ℕ) (xs ys : List X) → Lacks n (xs ++ ys) → Lacks n xs × Lacks n ys
  lacks_parts n [] ys lacks = (tt, lacks)
  lacks_parts n (x ∷ xs) ys lacks = let rest = lacks_parts n xs ys lacks.1 in ((lacks.0, rest.0), rest.1)

  pub lacks_both : (n : ℕ) (xs ys : List X) → Lacks n xs → Lacks n ys → Lacks n (xs ++ ys)
  lacks_both n [] ys left right = right
  lacks_both n (x ∷ xs) ys left right = (left.0, lacks_both n xs ys left.1 right)

  pub distinct_around : (z : X) (xs ys : List X) → AreDistinct (xs ++ z ∷ ys) → Lacks (number z) xs × Lacks (number z) ys
  distinct_around z [] ys distinct = (tt, distinct.0)
  distinct_around z (x ∷ xs) ys distinct =
      let rest = distinct_around z xs ys distinct.1 in
      let apart = (lacks_parts (number x) xs (z ∷ ys) distinct.0).1.0 in
      (((λ same. apart (sym same)), rest.0), rest.1)

  -- another element of the same number
  lacks_other : (n : ℕ) (one other : X) (xs ys : List X) → number one ≡ number other → Lacks n (xs ++ one ∷ ys) → Lacks n (xs ++ other ∷ ys)
  lacks_other n one other [] ys same lacks = ((λ e. lacks.0 (same ∙ e)), lacks.1)
  lacks_other n one other (x ∷ xs) ys same lacks = (lacks.0, lacks_other n one other xs ys same lacks.1)

  pub distinct_other : (one other : X) (xs ys : List X) → number one ≡ number other → AreDistinct (xs ++ one ∷ ys) → AreDistinct (xs ++ other ∷ ys)
  distinct_other one other [] ys same distinct = (subst (λ n. Lacks n ys) same distinct.0, distinct.1)
  distinct_other one other (x ∷ xs) ys same distinct = (lacks_other (number x) one other xs ys same distinct.0, distinct_other one other xs ys same distinct.1)

  -- ---- look-ups and changes by number

  pub find_at : (z : X) (xs ys : List X) → Lacks (number z) xs → find (λ x. number x == number z) (xs ++ z ∷ ys) ≡ Some z
  find_at z [] ys lacks = ap (λ b. cond b (Some z) (find (λ x. number x == number z) ys)) (eq-eqb (number z) (number z) refl)
  find_at z (x ∷ xs) ys lacks =
      ap (λ b. cond b (Some x) (find (λ x. number x == number z) (xs ++ z ∷ ys))) (apart_test (number x) (number z) lacks.0) ∙ find_at z xs ys lacks.1

  pub find_nothing : (n : ℕ) (xs : List X) → Lacks n xs → find (λ x. number x == n) xs ≡ None
  find_nothing n [] lacks = refl
  find_nothing n (x ∷ xs) lacks = ap (λ b. cond b (Some x) (find (λ x. number x == n) xs)) (apart_test (number x) n lacks.0) ∙ find_nothing n xs lacks.1

  module _ (change : X → X) where
    abbrev changed : ℕ → List X → List X
    changed n xs = map (λ x. if number x == n then change x else x) xs

    pub change_nothing : (n : ℕ) (xs : List X) → Lacks n xs → changed n xs ≡ xs
    change_nothing n [] lacks = refl
    change_nothing n (x ∷ xs) lacks =
        ap (λ b. cond b (change x) x ∷ changed n xs) (apart_test (number x) n lacks.0) ∙ ap (λ rest. x ∷ rest) (change_nothing n xs lacks.1)

    pub change_at : (z : X) (xs ys : List X) → Lacks (number z) xs → Lacks (number z) ys → changed (number z) (xs ++ z ∷ ys) ≡ xs ++ change z ∷ ys
    change_at z [] ys before behind =
        ap (λ b. cond b (change z) z ∷ changed (number z) ys) (eq-eqb (number z) (number z) refl) ∙ ap (λ rest. change z ∷ rest) (change_nothing (number z) ys behind)
    change_at z (x ∷ xs) ys before behind =
        ap (λ b. cond b (change x) x ∷ changed (number z) (xs ++ z ∷ ys)) (apart_test (number x) (number z) before.0) ∙ ap (λ rest. x ∷ rest) (change_at z xs ys before.1 behind)

  abbrev without : ℕ → List X → List X
  without n xs = filter (λ x. not (number x == n)) xs

  without_nothing : (n : ℕ) (xs : List X) → Lacks n xs → without n xs ≡ xs
  without_nothing n [] lacks = refl
  without_nothing n (x ∷ xs) lacks =
      ap (λ b. cond (not b) (x ∷ without n xs) (without n xs)) (apart_test (number x) n lacks.0) ∙ ap (λ rest. x ∷ rest) (without_nothing n xs lacks.1)

  pub without_at : (z : X) (xs ys : List X) → Lacks (number z) xs → Lacks (number z) ys → without (number z) (xs ++ z ∷ ys) ≡ xs ++ ys
  without_at z [] ys before behind =
      ap (λ b. cond (not b) (z ∷ without (number z) ys) (without (number z) ys)) (eq-eqb (number z) (number z) refl) ∙ without_nothing (number z) ys behind
  without_at z (x ∷ xs) ys before behind =
      ap (λ b. cond (not b) (x ∷ without (number z) (xs ++ z ∷ ys)) (without (number z) (xs ++ z ∷ ys))) (apart_test (number x) (number z) before.0)
      ∙ ap (λ rest. x ∷ rest) (without_at z xs ys before.1 behind)

  -- ---- rising order

  -- all numbers are above a number, or below it
  abbrev pub AreAbove : ℕ → List X → Type 0
  AreAbove n [] = Unit {0}
  AreAbove n (x ∷ xs) = (n < number x) × AreAbove n xs

  abbrev pub AreBelow : ℕ → List X → Type 0
  AreBelow n [] = Unit {0}
  AreBelow n (x ∷ xs) = (number x < n) × AreBelow n xs

  abbrev pub IsRising : List X → Type 0
  IsRising [] = Unit {0}
  IsRising (x ∷ xs) = AreAbove (number x) xs × IsRising xs

  pub lacks_below : (n : ℕ) (xs : List X) → AreBelow n xs → Lacks n xs
  lacks_below n [] below = tt
  lacks_below n (x ∷ xs) below = (let less = below.0 in λ e. omega arith, lacks_below n xs below.1)

  pub lacks_above : (n : ℕ) (xs : List X) → AreAbove n xs → Lacks n xs
  lacks_above n [] above = tt
  lacks_above n (x ∷ xs) above = (let more = above.0 in λ e. omega arith, lacks_above n xs above.1)

  pub rising_distinct : (xs : List X) → IsRising xs → AreDistinct xs
  rising_distinct [] rising = tt
  rising_distinct (x ∷ xs) rising = (lacks_above (number x) xs rising.0, rising_distinct xs rising.1)

  pub above_lower : (low high : ℕ) (xs : List X) → low < high → AreAbove high xs → AreAbove low xs
  above_lower low high [] less above = tt
  above_lower low high (x ∷ xs) less above = (let more = above.0 in omega arith, above_lower low high xs less above.1)

  above_parts : (n : ℕ) (xs ys : List X) → AreAbove n (xs ++ ys) → AreAbove n xs × AreAbove n ys
  above_parts n [] ys above = (tt, above)
  above_parts n (x ∷ xs) ys above = let rest = above_parts n xs ys above.1 in ((above.0, rest.0), rest.1)

  above_both : (n : ℕ) (xs ys : List X) → AreAbove n xs → AreAbove n ys → AreAbove n (xs ++ ys)
  above_both n [] ys left right = right
  above_both n (x ∷ xs) ys left right = (left.0, above_both n xs ys left.1 right)

  pub rising_around : (z : X) (xs ys : List X) → IsRising (xs ++ z ∷ ys) → AreBelow (number z) xs × AreAbove (number z) ys
  rising_around z [] ys rising = (tt, rising.0)
  rising_around z (x ∷ xs) ys rising =
      let rest = rising_around z xs ys rising.1 in
      let less = (above_parts (number x) xs (z ∷ ys) rising.0).1.0 in
      ((less, rest.0), rest.1)

  pub rising_without : (z : X) (xs ys : List X) → IsRising (xs ++ z ∷ ys) → IsRising (xs ++ ys)
  rising_without z [] ys rising = rising.1
  rising_without z (x ∷ xs) ys rising =
      let both = above_parts (number x) xs (z ∷ ys) rising.0 in
      (above_both (number x) xs ys both.0 both.1.1, rising_without z xs ys rising.1)

  pub rising_with : (z : X) (xs ys : List X) → IsRising (xs ++ ys) → AreBelow (number z) xs → AreAbove (number z) ys → IsRising (xs ++ z ∷ ys)
  rising_with z [] ys rising below above = (above, rising)
  rising_with z (x ∷ xs) ys rising below above =
      let both = above_parts (number x) xs ys rising.0 in
      (above_both (number x) xs (z ∷ ys) both.0 (below.0, both.1), rising_with z xs ys rising.1 below.1 above)

  below_all : (n : ℕ) (xs ys : List X) → AreBelow n xs → AreAbove n ys → filter (λ x. nat_lt (number x) n) (xs ++ ys) ≡ xs
  below_all n [] [] below above = refl
  below_all n [] (y ∷ ys) below above =
      let more = above.0 in
      ap (λ b. cond b (y ∷ filter (λ x. nat_lt (number x) n) ys) (filter (λ x. nat_lt (number x) n) ys)) (le-ltb (number y) n (omega arith)) ∙ below_all n [] ys tt above.1
  below_all n (x ∷ xs) ys below above =
      ap (λ b. cond b (x ∷ filter (λ x. nat_lt (number x) n) (xs ++ ys)) (filter (λ x. nat_lt (number x) n) (xs ++ ys))) (lt-ltb (number x) n below.0)
      ∙ ap (λ rest. x ∷ rest) (below_all n xs ys below.1 above)

  above_all : (n : ℕ) (xs ys : List X) → AreBelow n xs → AreAbove n ys → filter (λ x. nat_lt n (number x)) (xs ++ ys) ≡ ys
  above_all n [] [] below above = refl
  above_all n [] (y ∷ ys) below above =
      ap (λ b. cond b (y ∷ filter (λ x. nat_lt n (number x)) ys) (filter (λ x. nat_lt n (number x)) ys)) (lt-ltb n (number y) above.0)
      ∙ ap (λ rest. y ∷ rest) (above_all n [] ys tt above.1)
  above_all n (x ∷ xs) ys below above =
      let less = below.0 in
      ap (λ b. cond b (x ∷ filter (λ x. nat_lt n (number x)) (xs ++ ys)) (filter (λ x. nat_lt n (number x)) (xs ++ ys))) (le-ltb n (number x) (omega arith)) ∙ above_all n xs ys below.1 above

  -- an element in its gap
  pub with_at : (z : X) (xs ys : List X) → AreBelow (number z) xs → AreAbove (number z) ys →
      filter (λ x. nat_lt (number x) (number z)) (xs ++ ys) ++ z ∷ filter (λ x. nat_lt (number z) (number x)) (xs ++ ys) ≡ xs ++ z ∷ ys
  with_at z xs ys below above =
      ap (λ front. front ++ z ∷ filter (λ x. nat_lt (number z) (number x)) (xs ++ ys)) (below_all (number z) xs ys below above)
      ∙ ap (λ back. xs ++ z ∷ back) (above_all (number z) xs ys below above)

  -- ---- the same facts of all elements and of all pairs

  all_above : (n : ℕ) (xs : List X) → All (λ x. n < number x) xs → AreAbove n xs
  all_above n [] all = tt
  all_above n (x ∷ xs) all = (all 0 x (omega arith), all_above n xs (λ k d below. all (suc k) d (omega arith)))

  pub pairs_rising : (xs : List X) → AllPairs (λ x y. number x < number y) xs → IsRising xs
  pairs_rising [] pairs = tt
  pairs_rising (x ∷ xs) pairs =
      (all_above (number x) xs (λ k d below. pairs 0 (suc k) d (omega arith) (omega arith)), pairs_rising xs (λ i j d less below. pairs (suc i) (suc j) d (omega arith) (omega arith)))

  all_lacks : (n : ℕ) (xs : List X) → All (λ x. n ≢ number x) xs → Lacks n xs
  all_lacks n [] all = tt
  all_lacks n (x ∷ xs) all = ((λ e. all 0 x (omega arith) (sym e)), all_lacks n xs (λ k d below. all (suc k) d (omega arith)))

  pub pairs_distinct : (xs : List X) → AllPairs (λ x y. number x ≢ number y) xs → AreDistinct xs
  pairs_distinct [] pairs = tt
  pairs_distinct (x ∷ xs) pairs =
      (all_lacks (number x) xs (λ k d below. pairs 0 (suc k) d (omega arith) (omega arith)), pairs_distinct xs (λ i j d less below. pairs (suc i) (suc j) d (omega arith) (omega arith)))
