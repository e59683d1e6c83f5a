-- Lists in which one element alone passes a test, and lists in which each pair is related.
use Rattle.std.proofs.Common.{◌++◌, ◌+◌, ◌-◌, ◌<◌, ◌≤◌, ◌∙◌, ◌∷◌, ◌≡◌, Bool, List, [], ap, append-nil, append_assoc, arith, drop, false, get_or, inl, inr, length, length-set, map, min, refl, set, suc, sym, take, true, zero, ℕ}
use Rattle.std.specs.Prelude.{if◌then◌else◌, None, Some, nat_lt, not, slice_range}
use Rattle.std.specs.List.{All, AllPairs, filter, find, remove, swap_remove}
use Rattle.std.proofs.Math.Seq.{drop-cons}
use Rattle.std.proofs.lemmas.Bool.{cases_eq, le-ltb, lt-ltb}
use Rattle.std.proofs.lemmas.List.{drop-take, drop_all, get_or-set_other, get_or-set_same, get_or-take, get_or_read, length-take, length-take-le, set_split, take-append-drop, take-set-le, take-take, take_all, take_more, take_rest}
use Rattle.std.proofs.lemmas.List.Elements.{All-append, filter-append}
use Rattle.std.proofs.lemmas.List.Kept.{AllPairs-cons}
use Rattle.member_group.specs.Place.{IsNowhere, IsOnlyAt, last_in_gap}

-- ---- the first element that passes

pub find-first : {X : Type 0} (test : X → Bool) (xs : List X) (at : ℕ) (x : X) → at < length xs → x ≡ get_or xs at x → test x ≡ true → ((k : ℕ) (d : X) → k < at → test (get_or xs k d) ≡ false) → find test xs ≡ Some x
find-first test [] at x inside is passes before = absurd (omega arith)
find-first test (y ∷ ys) zero x inside is passes before = rw (← is) (rw passes refl)
find-first test (y ∷ ys) (suc at) x inside is passes before =
    rw (before 0 y (omega arith)) (find-first test ys at x (omega arith) is passes (λ k d below. before (suc k) d (omega arith)))

pub find-only_at : {X : Type 0} (test : X → Bool) (xs : List X) (at : ℕ) (x : X) → x ≡ get_or xs at x → IsOnlyAt test xs at → find test xs ≡ Some x
find-only_at test xs at x is only =
    find-first test xs at x only.inside is (rw is (only.passes x)) (λ k d below. let inside = only.inside in only.others_fail k d (omega arith) (omega arith))

pub find-nowhere : {X : Type 0} (test : X → Bool) (xs : List X) → IsNowhere test xs → find test xs ≡ None
find-nowhere test [] none = refl
find-nowhere test (y ∷ ys) none = rw (none 0 y (omega arith)) (find-nowhere test ys (λ k d below. none (suc k) d (omega arith)))

-- ---- a filter that keeps a front, or a back

pub filter-all : {X : Type 0} (test : X → Bool) (xs : List X) → All (λ x. test x ≡ true) xs → filter test xs ≡ xs
filter-all test [] all = refl
filter-all test (y ∷ ys) all = rw (all 0 y (omega arith)) (ap (λ rest. y ∷ rest) (filter-all test ys (λ k d below. all (suc k) d (omega arith))))

pub filter-nowhere : {X : Type 0} (test : X → Bool) (xs : List X) → IsNowhere test xs → filter test xs ≡ []
filter-nowhere test [] none = refl
filter-nowhere test (y ∷ ys) none = rw (none 0 y (omega arith)) (filter-nowhere test ys (λ k d below. none (suc k) d (omega arith)))

pub filter-front : {X : Type 0} (test : X → Bool) (xs : List X) (at : ℕ) → All (λ x. test x ≡ true) (take at xs) → IsNowhere test (drop at xs) → filter test xs ≡ take at xs
filter-front test xs at front back =
    ap (filter test) (sym (take-append-drop at xs))
    ∙ filter-append test (take at xs) (drop at xs)
    ∙ ap (λ kept. kept ++ filter test (drop at xs)) (filter-all test (take at xs) front)
    ∙ ap (λ kept. take at xs ++ kept) (filter-nowhere test (drop at xs) back)
    ∙ append-nil (take at xs)

pub filter-back : {X : Type 0} (test : X → Bool) (xs : List X) (at : ℕ) → IsNowhere test (take at xs) → All (λ x. test x ≡ true) (drop at xs) → filter test xs ≡ drop at xs
filter-back test xs at front back =
    ap (filter test) (sym (take-append-drop at xs))
    ∙ filter-append test (take at xs) (drop at xs)
    ∙ ap (λ kept. kept ++ filter test (drop at xs)) (filter-nowhere test (take at xs) front)
    ∙ filter-all test (drop at xs) back

-- ---- one element alone passes

pub only_at-tail : {X : Type 0} (test : X → Bool) (y : X) (ys : List X) (at : ℕ) → IsOnlyAt test (y ∷ ys) (suc at) → IsOnlyAt test ys at
only_at-tail test y ys at only = record {
  inside = let inside = only.inside in omega arith;
  passes = λ d. only.passes d;
  others_fail = λ k d below other. only.others_fail (suc k) d (omega arith) (omega arith);
}

pub filter-only_at : {X : Type 0} (test : X → Bool) (xs : List X) (at : ℕ) → IsOnlyAt test xs at → filter (λ x. not (test x)) xs ≡ remove xs at
filter-only_at test [] at only = let inside = only.inside in absurd (omega arith)
filter-only_at test (y ∷ ys) zero only =
    rw (only.passes y) (filter-all (λ x. not (test x)) ys (λ k d below. rw (only.others_fail (suc k) d (omega arith) (omega arith)) refl))
filter-only_at test (y ∷ ys) (suc at) only =
    rw (only.others_fail 0 y (omega arith) (omega arith)) (ap (λ rest. y ∷ rest) (filter-only_at test ys at (only_at-tail test y ys at only)))

pub map-nowhere : {X : Type 0} (test : X → Bool) (change : X → X) (xs : List X) → IsNowhere test xs → map (λ y. if test y then change y else y) xs ≡ xs
map-nowhere test change [] none = refl
map-nowhere test change (y ∷ ys) none =
    rw (none 0 y (omega arith)) (ap (λ rest. y ∷ rest) (map-nowhere test change ys (λ k d below. none (suc k) d (omega arith))))

pub map-only_at : {X : Type 0} (test : X → Bool) (change : X → X) (xs : List X) (at : ℕ) (x : X) → x ≡ get_or xs at x → IsOnlyAt test xs at → map (λ y. if test y then change y else y) xs ≡ set xs at (change x)
map-only_at test change [] at x is only = let inside = only.inside in absurd (omega arith)
map-only_at test change (y ∷ ys) zero x is only =
    rw (only.passes y, is) (ap (λ rest. change y ∷ rest) (map-nowhere test change ys (λ k d below. only.others_fail (suc k) d (omega arith) (omega arith))))
map-only_at test change (y ∷ ys) (suc at) x is only =
    rw (only.others_fail 0 y (omega arith) (omega arith)) (ap (λ rest. y ∷ rest) (map-only_at test change ys at x is (only_at-tail test y ys at only)))

pub element_at : {X : Type 0} (xs : List X) (at : ℕ) → at < length xs → (x : X) × (x ≡ get_or xs at x)
element_at [] at inside = absurd (omega arith)
element_at (y ∷ ys) zero inside = (y, refl)
element_at (y ∷ ys) (suc at) inside = element_at ys at (omega arith)

-- ---- each pair is related

pub AllPairs-take : {X : Type 0} (R : X → X → Type 0) (n : ℕ) (xs : List X) → AllPairs R xs → AllPairs R (take n xs)
AllPairs-take R n xs all i j d less below =
    let size : length (take n xs) ≡ min n (length xs) = length-take n xs in
    let first : get_or (take n xs) i d ≡ get_or xs i d = get_or-take n xs i d (omega arith) in
    let second : get_or (take n xs) j d ≡ get_or xs j d = get_or-take n xs j d (omega arith) in
    rw (first, second) (all i j d less (omega arith))

pub AllPairs-set : {X : Type 0} (R : X → X → Type 0) (xs : List X) (at : ℕ) (y : X) → ((k : ℕ) (d : X) → k < at → k < length xs → R (get_or xs k d) y) → ((k : ℕ) (d : X) → at < k → k < length xs → R y (get_or xs k d)) → AllPairs R xs → AllPairs R (set xs at y)
AllPairs-set R xs at y before behind all i j d less below =
    let size : length (set xs at y) ≡ length xs = length-set xs at y in
    elim (cases_eq i at) [
      | inl first ↦
          let one : get_or (set xs at y) i d ≡ y = rw first (get_or-set_same xs at y d (omega arith)) in
          let two : get_or (set xs at y) j d ≡ get_or xs j d = get_or-set_other xs at j y d (omega arith) in
          rw (one, two) (behind j d (omega arith) (omega arith))
      | inr not_first ↦
          let one : get_or (set xs at y) i d ≡ get_or xs i d = get_or-set_other xs at i y d not_first in
          elim (cases_eq j at) [
            | inl second ↦
                let two : get_or (set xs at y) j d ≡ y = rw second (get_or-set_same xs at y d (omega arith)) in
                rw (one, two) (before i d (omega arith) (omega arith))
            | inr not_second ↦
                let two : get_or (set xs at y) j d ≡ get_or xs j d = get_or-set_other xs at j y d not_second in
                rw (one, two) (all i j d less (omega arith))
          ]
    ]

pub AllPairs-append : {X : Type 0} (R : X → X → Type 0) (xs ys : List X) → AllPairs R xs → AllPairs R ys → All (λ x. All (R x) ys) xs → AllPairs R (xs ++ ys)
AllPairs-append R [] ys left right across = right
AllPairs-append R (x ∷ xs) ys left right across =
    let later : AllPairs R xs = λ i j d less below. left (suc i) (suc j) d (omega arith) (omega arith) in
    let first : All (R x) xs = λ k d below. left 0 (suc k) d (omega arith) (omega arith) in
    AllPairs-cons R x (xs ++ ys) (All-append (R x) xs ys first (across 0 x (omega arith)))
    (AllPairs-append R xs ys later right (λ k d below. across (suc k) d (omega arith)))

-- ---- the last element in the place of another

pub last_in_gap-inner : {X : Type 0} (at : ℕ) (xs : List X) (x : X) → suc at < length xs → x ≡ get_or xs (length xs - 1) x → last_in_gap at xs ≡ set (take (length xs - 1) xs) at x
last_in_gap-inner at xs x inner is =
    let last = length xs - 1 in
    let is_inner : nat_lt at last ≡ true = lt-ltb at last (omega arith) in
    let end : drop last xs ≡ x ∷ [] = drop-cons xs last x (omega arith) ∙ ap (λ y. y ∷ drop (suc last) xs) (sym is) ∙ ap (λ rest. x ∷ rest) (drop_all (suc last) xs (omega arith)) in
    let front : take at (take last xs) ≡ take at xs = take-take at last xs (omega arith) in
    let middle : drop (suc at) (take last xs) ≡ slice_range xs (at + 1) last =
    ap (λ n. drop (suc at) (take n xs)) (omega arith) ∙ drop-take (suc at) (last - suc at) xs ∙ ap (λ n. take (last - n) (drop n xs)) (omega arith) in
    let size : length (take last xs) ≡ last = length-take-le last xs (omega arith) in
    rw (is_inner, end) (sym (set_split (take last xs) at x (omega arith) ∙ ap (λ kept. kept ++ x ∷ drop (suc at) (take last xs)) front ∙ ap (λ rest. take at xs ++ x ∷ rest) middle))

pub last_in_gap-end : {X : Type 0} (at : ℕ) (xs : List X) → suc at ≡ length xs → last_in_gap at xs ≡ take at xs
last_in_gap-end at xs end = rw (le-ltb at (length xs - 1) (omega arith)) refl

-- the pieces of it, appended one after the other
pub appended_in_gap : {X : Type 0} (at : ℕ) (xs old a b c : List X) → at < length xs - 1 → a ≡ old ++ take at xs → b ≡ a ++ take (length xs - (length xs - 1)) (drop (length xs - 1) xs) → c ≡ b ++ slice_range xs (at + 1) (length xs - 1)
    → c ≡ old ++ last_in_gap at xs
appended_in_gap {X} at xs old a b c inner first second third =
    let last = length xs - 1 in
    let middle : List X = slice_range xs (at + 1) last in
    let is_inner : nat_lt at last ≡ true = lt-ltb at last inner in
    let both : b ≡ (old ++ take at xs) ++ drop last xs = second ∙ ap (λ list. a ++ list) (take_rest xs last) ∙ ap (λ list. list ++ drop last xs) first in
    rw is_inner
    (third ∙ ap (λ list. list ++ middle) both ∙ append_assoc (old ++ take at xs) (drop last xs) middle ∙ append_assoc old (take at xs) (drop last xs ++ middle))

take-set-lt : {X : Type 0} (n : ℕ) (xs : List X) (i : ℕ) (y : X) → i < n → take n (set xs i y) ≡ set (take n xs) i y
take-set-lt zero xs i y less = absurd (omega arith)
take-set-lt (suc n) [] i y less = refl
take-set-lt (suc n) (x ∷ xs) zero y less = refl
take-set-lt (suc n) (x ∷ xs) (suc i) y less = ap (λ rest. x ∷ rest) (take-set-lt n xs i y (omega arith))

-- `swap_remove` of a vector does so
pub swap_remove-is : {X : Type 0} (xs : List X) (at : ℕ) (d : X) → at < length xs → swap_remove xs at d ≡ last_in_gap at xs
swap_remove-is {X} xs at d inside =
    let last = length xs - 1 in
    let moved : X = get_or xs last d in
    elim (cases_eq (suc at) (length xs)) [
      | inl end ↦
          take-set-le last xs at moved (omega arith)
          ∙ ap (λ n. take n xs) (omega arith)
          ∙ sym (last_in_gap-end at xs end)
      | inr other ↦
          let z = element_at xs last (omega arith) in
          take-set-lt last xs at moved (omega arith)
          ∙ ap (λ x. set (take last xs) at x) (sym (get_or_read xs last z.0 (omega arith) z.1 d))
          ∙ sym (last_in_gap-inner at xs z.0 (omega arith) z.1)
    ]

-- ---- three appends

pub appended_pieces : {X : Type 0} (old front back whole : List X) (x : X) (a b c : List X) → a ≡ old ++ front → b ≡ a ++ x ∷ [] → c ≡ b ++ back → front ++ x ∷ back ≡ whole → c ≡ old ++ whole
appended_pieces old front back whole x a b c first second third pieces =
    let start : b ≡ (old ++ front) ++ x ∷ [] = second ∙ ap (λ list. list ++ x ∷ []) first in
    third ∙ ap (λ list. list ++ back) start ∙ append_assoc (old ++ front) (x ∷ []) back ∙ append_assoc old front (x ∷ back) ∙ ap (λ list. old ++ list) pieces

-- ---- elements that are appended one after the other

pub appended_more : {X : Type 0} (start from before after : List X) (i : ℕ) (x copy : X) → i < length from → x ≡ get_or from i x → copy ≡ x → before ≡ start ++ take i from → after ≡ before ++ copy ∷ []
    → after ≡ start ++ take (i + 1) from
appended_more start from before after i x copy inside is same so_far pushed =
    pushed ∙ ap (λ xs. xs ++ copy ∷ []) so_far ∙ append_assoc start (take i from) (copy ∷ [])
    ∙ ap (λ xs. start ++ xs) (ap (λ y. take i from ++ y ∷ []) (same ∙ is) ∙ sym (take_more from i x inside))

pub appended_all : {X : Type 0} (start from items : List X) (i : ℕ) → length from ≤ i → items ≡ start ++ take i from → items ≡ start ++ from
appended_all start from items i all so_far = so_far ∙ ap (λ xs. start ++ xs) (take_all i from all)
