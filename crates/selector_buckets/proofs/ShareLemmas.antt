-- The buckets of the members add up to those of the table, and each is near its weight's share.
use Rattle.std.proofs.Common.{◌≡◌, ◌∙◌, ◌+◌, ◌-◌, ◌*◌, ◌<◌, ◌≤◌, ◌∷◌, ◌++◌, List, [], ap, arith, get_or, length, map, refl, set, subst, suc, sym, zero, ℕ, ⊎_elim}
use Rattle.std.specs.Prelude.{sum}
use Rattle.std.proofs.Math.Nat.{le_of_mul-le-mul_left, mod-lt, mul-le-mul_right}
use Rattle.std.proofs.lemmas.Bool.{cases_eq, cases_lt, le-ltb, lt-ltb}
use Rattle.std.proofs.lemmas.List.{get_or-map, get_or-set_other, get_or-set_same, get_or_default, length-map, length-set}
use Rattle.std.proofs.lemmas.List.Sums.{sum_by-append, sum_by-cons, sum_by-le, sum_by-set}
use Rattle.std.proofs.lemmas.Nat.{div-add-mod'}
use Rattle.selector_buckets.specs.Shares.{Given, given_more, given_whole, greatest, one_more, quotas_of, remainder, whole_share}

-- ---- the first of the greatest

pub greatest_inside : (numbers : List ℕ) (k : ℕ) → k ≤ length numbers → 0 < length numbers → greatest numbers k < length numbers
greatest_inside numbers zero few some = some
greatest_inside numbers (suc k) few some = ⊎_elim
    (λ above. rw (lt-ltb (get_or numbers (greatest numbers k) 0) (get_or numbers k 0) above) (omega arith))
    (λ below. rw (le-ltb (get_or numbers (greatest numbers k) 0) (get_or numbers k 0) below) (greatest_inside numbers k (omega arith) some))
    (cases_lt (get_or numbers (greatest numbers k) 0) (get_or numbers k 0))

pub greatest_most : (numbers : List ℕ) (k i : ℕ) → i < k → get_or numbers i 0 ≤ get_or numbers (greatest numbers k) 0
greatest_most numbers zero i inside = absurd (omega arith)
greatest_most numbers (suc k) i inside = ⊎_elim
    (λ above. rw (lt-ltb (get_or numbers (greatest numbers k) 0) (get_or numbers k 0) above)
    (⊎_elim (λ before. omega (arith, greatest_most numbers k i before)) (λ last. let e : k ≡ i = omega arith in subst (λ n. get_or numbers n 0 ≤ get_or numbers k 0) e (omega arith)) (cases_lt i k)))
    (λ below. rw (le-ltb (get_or numbers (greatest numbers k) 0) (get_or numbers k 0) below)
    (⊎_elim (λ before. greatest_most numbers k i before) (λ last. let e : k ≡ i = omega arith in subst (λ n. get_or numbers n 0 ≤ get_or numbers (greatest numbers k) 0) e below) (cases_lt i k)))
    (cases_lt (get_or numbers (greatest numbers k) 0) (get_or numbers k 0))

-- ---- sums

remainders_sum : (count total : ℕ) (weights : List ℕ) → sum (map (λ weight. remainder count total weight) weights) + total * sum (map (λ weight. whole_share count total weight) weights) ≡ count * sum weights
remainders_sum count total [] = omega arith
remainders_sum count total (weight ∷ weights) =
    let here = sum_by-cons (λ x. x) weight weights in
    let first = sum_by-cons (λ x. x) (remainder count total weight) (map (λ w. remainder count total w) weights) in
    let second = sum_by-cons (λ x. x) (whole_share count total weight) (map (λ w. whole_share count total w) weights) in
    let all = remainders_sum count total weights in
    let one = div-add-mod' (count * weight) total in
    let apart : count * sum (weight ∷ weights) ≡ count * (weight + sum weights) = ap (λ n. count * n) here in
    let apart' : total * sum (map (λ w. whole_share count total w) (weight ∷ weights)) ≡ total * (whole_share count total weight + sum (map (λ w. whole_share count total w) weights)) = ap (λ n. total * n) second in
    omega arith

none_in_sum : (numbers : List ℕ) (most : ℕ) → ((i : ℕ) → i < length numbers → get_or numbers i 0 ≤ most) → sum numbers ≤ length numbers * most
none_in_sum numbers most all = sum_by-le (λ x. x) most numbers (λ k d inside. rw (get_or_default numbers k d 0 inside) (all k inside))

-- ---- what is given step by step

module _ (weights : List ℕ) (count : ℕ) where
  abbrev total : ℕ
  total = sum weights

  abbrev whole : Given
  whole = given_whole weights count

  -- how many buckets rounding down leaves
  abbrev pub rest : ℕ
  rest = count - sum whole.quotas

  pub record IsGiven (k : ℕ) (given : Given) : Type 0 where
    pub each_quota : length given.quotas ≡ length weights
    pub each_remainder : length given.remainders ≡ length weights
    pub adds_up : sum given.quotas ≡ sum whole.quotas + k
    pub remains : rest * total ≤ sum given.remainders + k * total
    pub small : (i : ℕ) → i < length weights → get_or given.remainders i 0 < total
    pub not_few : (i : ℕ) → i < length weights → count * get_or weights i 0 < get_or given.quotas i 0 * total + total
    pub not_many : (i : ℕ) → i < length weights → get_or given.quotas i 0 * total < count * get_or weights i 0 + total
    pub exact : (i : ℕ) → i < length weights → 0 < get_or given.remainders i 0 → get_or given.quotas i 0 * total + get_or given.remainders i 0 ≡ count * get_or weights i 0

  module _ (some : 0 < total) where
    pub whole_fits : sum whole.quotas ≤ count
    whole_fits = le_of_mul-le-mul_left {k = total} (omega (arith, remainders_sum count total weights)) some

    remainders_left : rest * total ≡ sum whole.remainders
    remainders_left =
        let e : rest + sum whole.quotas ≡ count = omega (arith, whole_fits) in
        let products : (rest + sum whole.quotas) * total ≡ count * total = ap (λ n. n * total) e in
        omega (arith, remainders_sum count total weights, products)

    quota_at : (i : ℕ) → i < length weights → get_or whole.quotas i 0 ≡ whole_share count total (get_or weights i 0)
    quota_at i inside = get_or-map (λ weight. whole_share count total weight) weights i 0 0 inside

    remainder_at : (i : ℕ) → i < length weights → get_or whole.remainders i 0 ≡ remainder count total (get_or weights i 0)
    remainder_at i inside = get_or-map (λ weight. remainder count total weight) weights i 0 0 inside

    whole_exact : (i : ℕ) → i < length weights → get_or whole.quotas i 0 * total + get_or whole.remainders i 0 ≡ count * get_or weights i 0
    whole_exact i inside = rw (quota_at i inside, remainder_at i inside) (div-add-mod' (count * get_or weights i 0) total)

    whole_small : (i : ℕ) → i < length weights → get_or whole.remainders i 0 < total
    whole_small i inside = rw (remainder_at i inside) (mod-lt (count * get_or weights i 0) some)

    pub given_start : IsGiven 0 whole
    given_start = record {
      each_quota = length-map weights (λ weight. whole_share count total weight);
      each_remainder = length-map weights (λ weight. remainder count total weight);
      adds_up = omega arith;
      remains = omega (arith, remainders_left);
      small = whole_small;
      not_few = λ i inside. omega (arith, whole_exact i inside, whole_small i inside);
      not_many = λ i inside. omega (arith, whole_exact i inside, whole_small i inside);
      exact = λ i inside left. whole_exact i inside;
    }

    module _ (k : ℕ) (given : Given) (so_far : IsGiven k given) (more : k < rest) where
      abbrev member : ℕ
      member = greatest given.remainders (length given.remainders)

      some_weight : (numbers : List ℕ) → 0 < sum numbers → 0 < length numbers
      some_weight [] there = absurd (omega arith)
      some_weight (n ∷ numbers) there = omega arith

      there : 0 < length given.remainders
      there = let same = so_far.each_remainder in omega (arith, some_weight weights some)

      inside : member < length given.remainders
      inside = greatest_inside given.remainders (length given.remainders) (omega arith) there

      in_weights : member < length weights
      in_weights = let same = so_far.each_remainder in omega (arith, inside)

      in_quotas : member < length given.quotas
      in_quotas = let same = so_far.each_quota in omega (arith, in_weights)

      much_left : total ≤ sum given.remainders
      much_left =
          let products : (k + 1) * total ≤ rest * total = mul-le-mul_right total (let g : k + 1 ≤ rest = omega arith in g) in
          let remains = so_far.remains in
          omega arith

      none_left : get_or given.remainders member 0 ≡ 0 → ⊥
      none_left nothing =
          let all = none_in_sum given.remainders (get_or given.remainders member 0) (λ i within. greatest_most given.remainders (length given.remainders) i within) in
          let all' : sum given.remainders ≤ length given.remainders * 0 = subst (λ most. sum given.remainders ≤ length given.remainders * most) nothing all in
          omega (arith, much_left)

      left : 0 < get_or given.remainders member 0
      left = ⊎_elim (λ nothing. absurd (none_left nothing)) (λ something. omega arith) (cases_eq (get_or given.remainders member 0) 0)

      exact_here : get_or given.quotas member 0 * total + get_or given.remainders member 0 ≡ count * get_or weights member 0
      exact_here = so_far.exact member in_weights left

      small_here : get_or given.remainders member 0 < total
      small_here = so_far.small member in_weights

      quota_here : get_or (set given.quotas member (get_or given.quotas member 0 + 1)) member 0 ≡ get_or given.quotas member 0 + 1
      quota_here = get_or-set_same given.quotas member (get_or given.quotas member 0 + 1) 0 in_quotas

      remainder_here : get_or (set given.remainders member 0) member 0 ≡ 0
      remainder_here = get_or-set_same given.remainders member 0 0 inside

      at_member : (P : ℕ → Type 0) → P member → ((i : ℕ) → (i ≡ member → ⊥) → P i) → (i : ℕ) → P i
      at_member P here others i = ⊎_elim (λ e. subst P (sym e) here) (λ ne. others i ne) (cases_eq i member)

      quota_other : (i : ℕ) → (i ≡ member → ⊥) → get_or (set given.quotas member (get_or given.quotas member 0 + 1)) i 0 ≡ get_or given.quotas i 0
      quota_other i other = get_or-set_other given.quotas member i (get_or given.quotas member 0 + 1) 0 other

      remainder_other : (i : ℕ) → (i ≡ member → ⊥) → get_or (set given.remainders member 0) i 0 ≡ get_or given.remainders i 0
      remainder_other i other = get_or-set_other given.remainders member i 0 0 other

      pub given_step : IsGiven (suc k) (one_more given)
      unfolding one_more
      given_step = record {
        each_quota = length-set given.quotas member (get_or given.quotas member 0 + 1) ∙ so_far.each_quota;
        each_remainder = length-set given.remainders member 0 ∙ so_far.each_remainder;
        adds_up =
            let grown = sum_by-set (λ x. x) given.quotas member (get_or given.quotas member 0 + 1) 0 in_quotas in
            let so = so_far.adds_up in
            omega arith;
        remains =
            let shrunk = sum_by-set (λ x. x) given.remainders member 0 0 inside in
            let so = so_far.remains in
            omega (arith, small_here);
        small = at_member (λ i. i < length weights → get_or (set given.remainders member 0) i 0 < total)
            (λ within. rw remainder_here some) (λ i other within. rw (remainder_other i other) (so_far.small i within));
        not_few = at_member (λ i. i < length weights → count * get_or weights i 0 < get_or (set given.quotas member (get_or given.quotas member 0 + 1)) i 0 * total + total)
            (λ within. rw quota_here (omega (arith, exact_here, small_here))) (λ i other within. rw (quota_other i other) (so_far.not_few i within));
        not_many = at_member (λ i. i < length weights → get_or (set given.quotas member (get_or given.quotas member 0 + 1)) i 0 * total < count * get_or weights i 0 + total)
            (λ within. rw quota_here (omega (arith, exact_here, left))) (λ i other within. rw (quota_other i other) (so_far.not_many i within));
        exact = at_member (λ i. i < length weights → 0 < get_or (set given.remainders member 0) i 0 → get_or (set given.quotas member (get_or given.quotas member 0 + 1)) i 0 * total + get_or (set given.remainders member 0) i 0 ≡ count * get_or weights i 0)
            (λ within some_left. absurd (omega (arith, remainder_here))) (λ i other within. rw (quota_other i other, remainder_other i other) (so_far.exact i within));
      }

    pub given_all : (k : ℕ) → k ≤ rest → IsGiven k (given_more k whole)
    unfolding given_more
    given_all zero few = given_start
    given_all (suc k) few = given_step k (given_more k whole) (given_all k (omega arith)) (omega arith)

    -- the whole table is given
    pub all_given : sum (quotas_of weights count) ≡ count
    all_given = let so = (given_all rest (omega arith)).adds_up in omega (arith, whole_fits)

    pub quotas_near : IsGiven rest (given_more rest whole)
    quotas_near = given_all rest (omega arith)

-- ---- what the code does

pub no_more : (given : Given) → given_more 0 given ≡ given
unfolding given_more
no_more given = refl

abbrev given_at : Given → ℕ → Given
given_at given member = record { quotas = set given.quotas member (get_or given.quotas member 0 + 1); remainders = set given.remainders member 0 }

pub given_more-next : (k : ℕ) (start given : Given) (member : ℕ) → given_more k start ≡ given → member ≡ greatest given.remainders (length given.remainders)
    → given_more (k + 1) start ≡ record { quotas = set given.quotas member (get_or given.quotas member 0 + 1); remainders = set given.remainders member 0 }
unfolding given_more one_more
given_more-next k start given member is first =
    let next : k + 1 ≡ suc k = omega arith in
    ap (λ n. given_more n start) next ∙ ap one_more is ∙ ap (given_at given) (sym first)

module _ (weights : List ℕ) (count sum_is : ℕ) (quotas remainders : List ℕ) (sums : sum_is ≡ sum weights)
    (quotas_are : quotas ≡ map (λ weight. whole_share count sum_is weight) weights) (remainders_are : remainders ≡ map (λ weight. remainder count sum_is weight) weights) where
  quotas_whole : quotas ≡ (given_whole weights count).quotas
  quotas_whole = quotas_are ∙ ap (λ t. map (λ weight. whole_share count t weight) weights) sums

  remainders_whole : remainders ≡ (given_whole weights count).remainders
  remainders_whole = remainders_are ∙ ap (λ t. map (λ weight. remainder count t weight) weights) sums

  pub quotas_fit : 0 < sum weights → sum quotas ≤ count
  quotas_fit some = let e : sum quotas ≡ sum (given_whole weights count).quotas = ap sum quotas_whole in omega (arith, whole_fits weights count some)

  pub each_made : length quotas ≡ length remainders
  each_made = ap length quotas_whole ∙ (length-map weights (λ weight. whole_share count (sum weights) weight) ∙ (sym (length-map weights (λ weight. remainder count (sum weights) weight)) ∙ ap length (sym remainders_whole)))

  pub some_made : 0 < length weights → 0 < length remainders
  some_made some = let e : length remainders ≡ length weights = ap length remainders_whole ∙ length-map weights (λ weight. remainder count (sum weights) weight) in omega arith

  whole_made : (given_sum : ℕ) → given_sum ≡ sum quotas → given_more (count - given_sum) (record { quotas = quotas; remainders = remainders }) ≡ given_more (count - sum (given_whole weights count).quotas) (given_whole weights count)
  whole_made given_sum is =
      let e : given_sum ≡ sum (given_whole weights count).quotas = is ∙ ap sum quotas_whole in cc (quotas_whole, remainders_whole)

  pub quotas_made : (given_sum : ℕ) (quotas' remainders' : List ℕ) → given_sum ≡ sum quotas → given_more (count - given_sum) (record { quotas = quotas; remainders = remainders }) ≡ record { quotas = quotas'; remainders = remainders' } → quotas' ≡ quotas_of weights count
  quotas_made given_sum quotas' remainders' is made = ap (λ (g : Given). g.quotas) (sym made ∙ whole_made given_sum is)

pub some_length : (numbers : List ℕ) → 0 < sum numbers → 0 < length numbers
some_length [] there = absurd (omega arith)
some_length (n ∷ numbers) there = omega arith

pub sum-pushed : (numbers : List ℕ) (n : ℕ) → sum (numbers ++ n ∷ []) ≡ sum numbers + n
sum-pushed numbers n = sum_by-append (λ x. x) numbers (n ∷ []) ∙ (let one : sum (n ∷ []) ≡ n = omega arith in omega arith)
