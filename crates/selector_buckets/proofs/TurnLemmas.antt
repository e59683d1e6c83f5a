-- The turns of the members fill the table, and give each of them its buckets.
use Rattle.std.proofs.Common.{◌≡◌, ◌∙◌, ◌+◌, ◌-◌, ◌*◌, ◌/◌, ◌%◌, ◌<◌, ◌^◌, ◌≤◌, ◌∷◌, ◌++◌, ◌⊎◌, List, [], ap, arith, cond, drop, get_or, inl, inr, length, refl, set, subst, suc, sym, take, zero, ℕ, ⊎_elim}
use Rattle.std.specs.Prelude.{min, nat_eq, replicate, sum}
use Rattle.std.proofs.Math.Nat.{add-mul-mod_self_left, div-add-mod, mod-eq_of_lt, mod-lt}
use Rattle.std.proofs.Math.Seq.{drop-length, take-length}
use Rattle.std.proofs.lemmas.Bool.{cases_eq, cases_lt, eq-eqb, le-ltb, lt-ltb, ne_eqb}
use Rattle.std.proofs.lemmas.List.{append-nil, get_or-replicate, get_or_past, get_or-set_other, get_or-set_same, length-replicate, length-set}
use Rattle.std.proofs.lemmas.List.Folds.{sum_by-replicate}
use Rattle.std.proofs.lemmas.List.Sums.{get_or-le-sum_by, sum_by-cons, sum_by-set}
use Rattle.std.proofs.lemmas.Nat.{pow_pos}
use Rattle.selector_buckets.specs.Shares.{share_of}
use Rattle.selector_buckets.specs.Turns.{free_from, next_free, offset_of, rounds, skip_of, turn, turns}
use Rattle.selector_buckets.proofs.PermutationLemmas.{reaches}

-- ---- the next free bucket

mod_within : (a b n : ℕ) → (a % n + b) % n ≡ (a + b) % n
mod_within a b n =
    let whole = div-add-mod a n in
    let e : a + b ≡ (a % n + b) + n * (a / n) = omega arith in
    sym (ap (λ m. m % n) e ∙ add-mul-mod_self_left (a % n + b) n (a / n))

module _ (table : List ℕ) (skip : ℕ) (some : 0 < length table) where
  pub free_from-inside : (k bucket : ℕ) → bucket < length table → free_from table skip k bucket < length table
  unfolding free_from
  free_from-inside zero bucket inside = inside
  free_from-inside (suc k) bucket inside = ⊎_elim
      (λ free. rw (eq-eqb (get_or table bucket 0) 255 free) inside)
      (λ taken. rw (ne_eqb (get_or table bucket 0) 255 taken) (free_from-inside k ((bucket + skip) % length table) (mod-lt (bucket + skip) some)))
      (cases_eq (get_or table bucket 0) 255)

  further : (bucket j : ℕ) → ((bucket + skip) % length table + j * skip) % length table ≡ (bucket + suc j * skip) % length table
  further bucket j = mod_within (bucket + skip) (j * skip) (length table) ∙ ap (λ m. m % length table) (let g : bucket + skip + j * skip ≡ bucket + suc j * skip = omega arith in g)

  pub free_from-free : (k bucket j : ℕ) → bucket < length table → j < k → get_or table ((bucket + j * skip) % length table) 0 ≡ 255 → get_or table (free_from table skip k bucket) 0 ≡ 255
  unfolding free_from
  free_from-free zero bucket j inside near free = absurd (omega arith)
  free_from-free (suc k) bucket zero inside near free =
      let here : (bucket + 0 * skip) % length table ≡ bucket = ap (λ m. m % length table) (let g : bucket + 0 * skip ≡ bucket = omega arith in g) ∙ mod-eq_of_lt inside in
      let is : get_or table bucket 0 ≡ 255 = ap (λ b. get_or table b 0) (sym here) ∙ free in
      rw (eq-eqb (get_or table bucket 0) 255 is) is
  free_from-free (suc k) bucket (suc j) inside near free = ⊎_elim
      (λ is. rw (eq-eqb (get_or table bucket 0) 255 is) is)
      (λ taken. rw (ne_eqb (get_or table bucket 0) 255 taken)
      (free_from-free k ((bucket + skip) % length table) j (mod-lt (bucket + skip) some) (omega arith) (ap (λ b. get_or table b 0) (further bucket j) ∙ free)))
      (cases_eq (get_or table bucket 0) 255)

-- ---- what the code does

free_from-here : (table : List ℕ) (skip k bucket : ℕ) → 0 < k → get_or table bucket 0 ≡ 255 → free_from table skip k bucket ≡ bucket
unfolding free_from
free_from-here table skip zero bucket more free = absurd (omega arith)
free_from-here table skip (suc k) bucket more free = rw (eq-eqb (get_or table bucket 0) 255 free) refl

free_from-on : (table : List ℕ) (skip k bucket : ℕ) → (get_or table bucket 0 ≡ 255 → ⊥) → free_from table skip (suc k) bucket ≡ free_from table skip k ((bucket + skip) % length table)
unfolding free_from
free_from-on table skip k bucket taken = rw (ne_eqb (get_or table bucket 0) 255 taken) refl

free_from-none : (table : List ℕ) (skip bucket : ℕ) → free_from table skip 0 bucket ≡ bucket
unfolding free_from
free_from-none table skip bucket = refl

module _ (table : List ℕ) (id skip offset i bucket : ℕ) (skips : skip ≡ skip_of id) (begins : offset ≡ offset_of id)
    (so_far : free_from table skip (length table - i) bucket ≡ free_from table skip (length table) (offset % length table)) where
  whole_way : free_from table skip (length table) (offset % length table) ≡ next_free table id
  whole_way = ap (λ s. free_from table s (length table) (offset % length table)) skips ∙ ap (λ o. free_from table (skip_of id) (length table) (o % length table)) begins

  pub found_here : i < length table → get_or table bucket 0 ≡ 255 → bucket ≡ next_free table id
  found_here inside free = sym (free_from-here table skip (length table - i) bucket (omega arith) free) ∙ (so_far ∙ whole_way)

  pub found_none : length table ≤ i → bucket ≡ next_free table id
  found_none past = let e : length table - i ≡ 0 = omega arith in sym (ap (λ k. free_from table skip k bucket) e ∙ free_from-none table skip bucket) ∙ (so_far ∙ whole_way)

  pub found_later : i < length table → (get_or table bucket 0 ≡ 255 → ⊥) → free_from table skip (length table - (i + 1)) ((bucket + skip) % length table) ≡ free_from table skip (length table) (offset % length table)
  found_later inside taken =
      let e : length table - i ≡ suc (length table - (i + 1)) = omega arith in
      sym (ap (λ k. free_from table skip k bucket) e ∙ free_from-on table skip (length table - (i + 1)) bucket taken) ∙ so_far

pub no_turns : (ids quotas : List ℕ) (round : ℕ) (table : List ℕ) → table ≡ turns ids quotas round 0 table
unfolding turns
no_turns ids quotas round table = refl

module _ (ids quotas : List ℕ) (round k : ℕ) (start table : List ℕ) (so_far : table ≡ turns ids quotas round k start) where
  one_turn : turn round (get_or quotas k 0) (get_or ids k 0) k table ≡ turns ids quotas round (k + 1) start
  unfolding turns
  one_turn =
      let next : suc k ≡ k + 1 = omega arith in
      ap (turn round (get_or quotas k 0) (get_or ids k 0) k) so_far ∙ ap (λ n. turns ids quotas round n start) next

  pub turn_taken : (bucket : ℕ) → round < get_or quotas k 0 → bucket ≡ next_free table (get_or ids k 0) → set table bucket k ≡ turns ids quotas round (k + 1) start
  turn_taken bucket wants is =
      ap (λ b. set table b k) is
      ∙ (sym (ap (λ b. cond b (set table (next_free table (get_or ids k 0)) k) table) (lt-ltb round (get_or quotas k 0) wants)) ∙ one_turn)

  pub turn_waits : get_or quotas k 0 ≤ round → table ≡ turns ids quotas round (k + 1) start
  turn_waits enough = sym (ap (λ b. cond b (set table (next_free table (get_or ids k 0)) k) table) (le-ltb round (get_or quotas k 0) enough)) ∙ one_turn

pub no_rounds : (ids quotas table : List ℕ) → table ≡ rounds ids quotas 0 table
unfolding rounds
no_rounds ids quotas table = refl

pub round_more : (ids quotas : List ℕ) (round : ℕ) (start table next : List ℕ) → table ≡ rounds ids quotas round start → next ≡ turns ids quotas round (length ids) table → next ≡ rounds ids quotas (round + 1) start
unfolding rounds
round_more ids quotas round start table next so_far is =
    let more : suc round ≡ round + 1 = omega arith in
    is ∙ (ap (turns ids quotas round (length ids)) so_far ∙ ap (λ n. rounds ids quotas n start) more)

-- a list that was written as a slice
pub written_back : (new items : List ℕ) (len : ℕ) → length items ≡ len → length new ≡ len → take len (new ++ drop (length new) items) ≡ new
written_back new items len old same =
    let long : length new ≡ length items = same ∙ sym old in
    ap (λ n. take len (new ++ drop n items)) long
    ∙ (ap (λ xs. take len (new ++ xs)) (drop-length items) ∙ (ap (take len) (append-nil new) ∙ (ap (λ n. take n new) (sym same) ∙ take-length new)))

-- ---- how many buckets a member has

abbrev pub is_one : ℕ → ℕ → ℕ
is_one member other = cond (nat_eq other member) 1 0

pub one_same : (member : ℕ) → is_one member member ≡ 1
one_same member = rw (eq-eqb member member refl) refl

pub one_other : (member other : ℕ) → (other ≡ member → ⊥) → is_one member other ≡ 0
one_other member other ne = rw (ne_eqb other member ne) refl

-- a free bucket is there if the free ones are counted
pub some_free : (table : List ℕ) → 0 < share_of table 255 → (bucket : ℕ) × (bucket < length table) × (get_or table bucket 0 ≡ 255)
some_free [] there = absurd (omega arith)
some_free (x ∷ table) there = ⊎_elim
    (λ e. (0, omega arith, e))
    (λ ne. let here = one_other 255 x ne in let apart = sum_by-cons (is_one 255) x table in let t = some_free table (omega arith) in (suc t.0, omega (arith, t.1), t.2))
    (cases_eq x 255)

none_free : (table : List ℕ) (bucket : ℕ) → bucket < length table → get_or table bucket 0 ≡ 255 → 0 < share_of table 255
none_free [] bucket inside is = absurd (omega arith)
none_free (x ∷ table) zero inside is = let here : is_one 255 x ≡ 1 = rw (eq-eqb x 255 is) refl in let apart = sum_by-cons (is_one 255) x table in omega arith
none_free (x ∷ table) (suc bucket) inside is = let apart = sum_by-cons (is_one 255) x table in omega (arith, none_free table bucket (omega arith) is)

sum_most : (xs ys : List ℕ) → length xs ≡ length ys → ((i : ℕ) → i < length xs → get_or xs i 0 ≤ get_or ys i 0) → sum xs ≤ sum ys
sum_most [] ys same all = omega arith
sum_most (x ∷ xs) [] same all = absurd (omega arith)
sum_most (x ∷ xs) (y ∷ ys) same all = let here : x ≤ y = all 0 (omega arith) in omega (arith, sum_by-cons (λ n. n) x xs, sum_by-cons (λ n. n) y ys, sum_most xs ys (omega arith) (λ i within. all (suc i) (omega arith)))

sum_less : (xs ys : List ℕ) (k : ℕ) → length xs ≡ length ys → ((i : ℕ) → i < length xs → get_or xs i 0 ≤ get_or ys i 0) → k < length xs → get_or xs k 0 < get_or ys k 0 → sum xs < sum ys
sum_less [] ys k same all inside less = absurd (omega arith)
sum_less (x ∷ xs) [] k same all inside less = absurd (omega arith)
sum_less (x ∷ xs) (y ∷ ys) zero same all inside less = let here : x < y = less in omega (arith, sum_by-cons (λ n. n) x xs, sum_by-cons (λ n. n) y ys, sum_most xs ys (omega arith) (λ i within. all (suc i) (omega arith)))
sum_less (x ∷ xs) (y ∷ ys) (suc k) same all inside less =
    let here : x ≤ y = all 0 (omega arith) in
    omega (arith, sum_by-cons (λ n. n) x xs, sum_by-cons (λ n. n) y ys, sum_less xs ys k (omega arith) (λ i within. all (suc i) (omega arith)) (omega arith) less)

same_sum : (xs ys : List ℕ) → length xs ≡ length ys → ((i : ℕ) → i < length xs → get_or xs i 0 ≡ get_or ys i 0) → sum xs ≡ sum ys
same_sum [] [] same all = refl
same_sum [] (y ∷ ys) same all = absurd (omega arith)
same_sum (x ∷ xs) [] same all = absurd (omega arith)
same_sum (x ∷ xs) (y ∷ ys) same all = let here : x ≡ y = all 0 (omega arith) in omega (arith, sum_by-cons (λ n. n) x xs, sum_by-cons (λ n. n) y ys, same_sum xs ys (omega arith) (λ i within. all (suc i) (omega arith)))

-- ---- the turns

module _ (ids quotas : List ℕ) (depth : ℕ) (each : length quotas ≡ length ids) (few : length ids ≤ 64) (whole : sum quotas ≡ 2 ^ depth) where
  abbrev count : ℕ
  count = 2 ^ depth

  -- the members have taken so many buckets, and the others are free
  record IsTaken (taken table : List ℕ) : Type 0 where
    long : length table ≡ count
    each_taken : length taken ≡ length ids
    adds_up : share_of table 255 + sum taken ≡ count
    counted : (m : ℕ) → m < length ids → share_of table m ≡ get_or taken m 0
    within : (b : ℕ) → b < count → (get_or table b 0 ≡ 255) ⊎ (get_or table b 0 < length ids)

  -- the first k members have had their turn in the round
  record IsAt (round k : ℕ) (table : List ℕ) : Type 0 where
    taken : List ℕ
    is_taken : IsTaken taken table
    earlier : (m : ℕ) → m < length ids → m < k → get_or taken m 0 ≡ min (get_or quotas m 0) (suc round)
    later : (m : ℕ) → m < length ids → k ≤ m → get_or taken m 0 ≡ min (get_or quotas m 0) round

  module _ (round k : ℕ) (table : List ℕ) (at : IsAt round k table) (inside : k < length ids) where
    abbrev quota : ℕ
    quota = get_or quotas k 0

    abbrev id : ℕ
    id = get_or ids k 0

    module _ (wants : round < quota) where
      at_most : (m : ℕ) → m < length at.taken → get_or at.taken m 0 ≤ get_or quotas m 0
      at_most m within =
          let same = at.is_taken.each_taken in
          ⊎_elim (λ before. omega (arith, at.earlier m (omega arith) before)) (λ behind. omega (arith, at.later m (omega arith) behind)) (cases_lt m k)

      had : get_or at.taken k 0 ≡ round
      had = omega (arith, at.later k inside (omega arith))

      in_taken : k < length at.taken
      in_taken = let same = at.is_taken.each_taken in omega arith

      not_all : sum at.taken < count
      not_all =
          let same = at.is_taken.each_taken in
          omega (arith, sum_less at.taken quotas k (omega arith) at_most in_taken (omega (arith, had)), whole)

      some_left : 0 < share_of table 255
      some_left = let so = at.is_taken.adds_up in omega (arith, not_all)

      long : length table ≡ count
      long = at.is_taken.long

      some : 0 < length table
      some = omega (arith, pow_pos depth, long)

      abbrev bucket : ℕ
      bucket = next_free table id

      bucket_inside : bucket < length table
      bucket_inside = free_from-inside table (skip_of id) some (length table) (offset_of id % length table) (mod-lt (offset_of id) some)

      bucket_free : get_or table bucket 0 ≡ 255
      bucket_free =
          let free = some_free table some_left in
          let start : offset_of id % length table < length table = mod-lt (offset_of id) some in
          let half = skip_of id / 2 in
          let odd : 2 * half + 1 ≡ skip_of id = omega arith in
          let way = reaches depth half (offset_of id % length table) free.0 (omega (arith, free.1, long)) in
          let ends : (offset_of id % length table + way.0 * skip_of id) % length table ≡ free.0 =
          ap (λ n. (offset_of id % length table + way.0 * skip_of id) % n) long ∙ (ap (λ s. (offset_of id % length table + way.0 * s) % count) (sym odd) ∙ way.2) in
          free_from-free table (skip_of id) some (length table) (offset_of id % length table) way.0 start (omega (arith, way.1, long)) (ap (λ b. get_or table b 0) ends ∙ free.2)

      abbrev next : List ℕ
      next = set table bucket k

      abbrev next_taken : List ℕ
      next_taken = set at.taken k (get_or at.taken k 0 + 1)

      shares : (m : ℕ) → share_of next m + is_one m 255 ≡ share_of table m + is_one m k
      shares m = ap (λ x. share_of next m + is_one m x) (sym bucket_free) ∙ sum_by-set (is_one m) table bucket k 0 bucket_inside

      taken_here : get_or next_taken k 0 ≡ get_or at.taken k 0 + 1
      taken_here = get_or-set_same at.taken k (get_or at.taken k 0 + 1) 0 in_taken

      taken_other : (m : ℕ) → (m ≡ k → ⊥) → get_or next_taken m 0 ≡ get_or at.taken m 0
      taken_other m ne = get_or-set_other at.taken k m (get_or at.taken k 0 + 1) 0 ne

      next_counted : (m : ℕ) → m < length ids → share_of next m ≡ get_or next_taken m 0
      next_counted m within = let free = one_other m 255 (λ e. omega arith) in ⊎_elim
          (λ e. subst (λ n. share_of next n ≡ get_or next_taken n 0) (sym e)
          (omega (arith, shares k, one_other k 255 (λ is. omega arith), one_same k, at.is_taken.counted k inside, taken_here)))
          (λ ne. let none = one_other m k (λ e. ne (sym e)) in omega (arith, shares m, free, none, at.is_taken.counted m within, taken_other m ne))
          (cases_eq m k)

      next_within : (b : ℕ) → b < count → (get_or next b 0 ≡ 255) ⊎ (get_or next b 0 < length ids)
      next_within b low = ⊎_elim
          (λ e. inr (subst (λ n. n < length ids) (sym (ap (λ place. get_or next place 0) e ∙ get_or-set_same table bucket k 0 bucket_inside)) inside))
          (λ ne. subst (λ n. (n ≡ 255) ⊎ (n < length ids)) (sym (get_or-set_other table bucket b k 0 ne)) (at.is_taken.within b low))
          (cases_eq b bucket)

      takes : IsAt round (suc k) next
      takes = record {
        taken = next_taken;
        is_taken = record {
          long = length-set table bucket k ∙ long;
          each_taken = length-set at.taken k (get_or at.taken k 0 + 1) ∙ at.is_taken.each_taken;
          adds_up =
              let so = at.is_taken.adds_up in
              let grown = sum_by-set (λ x. x) at.taken k (get_or at.taken k 0 + 1) 0 in_taken in
              omega (arith, shares 255, one_same 255, one_other 255 k (λ e. omega arith));
          counted = next_counted;
          within = next_within;
        };
        earlier = λ m within before. ⊎_elim
            (λ e. rw e (omega (arith, taken_here, had)))
            (λ ne. taken_other m ne ∙ at.earlier m within (omega arith)) (cases_eq m k);
        later = λ m within behind. taken_other m (λ e. omega arith) ∙ at.later m within (omega arith);
      }

    waits : quota ≤ round → IsAt round (suc k) table
    waits enough = record {
      taken = at.taken;
      is_taken = at.is_taken;
      earlier = λ m within before. ⊎_elim
          (λ e. rw e (omega (arith, at.later k inside (omega arith)))) (λ ne. at.earlier m within (omega arith)) (cases_eq m k);
      later = λ m within behind. at.later m within (omega arith);
    }

    after_turn : IsAt round (suc k) (turn round quota id k table)
    after_turn = ⊎_elim
        (λ wants. rw (lt-ltb round quota wants) (takes wants)) (λ enough. rw (le-ltb round quota enough) (waits enough)) (cases_lt round quota)

  after_turns : (round k : ℕ) (table : List ℕ) → k ≤ length ids → IsAt round 0 table → IsAt round k (turns ids quotas round k table)
  unfolding turns
  after_turns round zero table fits at = at
  after_turns round (suc k) table fits at = after_turn round k (turns ids quotas round k table) (after_turns round k table (omega arith) at) (omega arith)

  next_round : (round : ℕ) (table : List ℕ) → IsAt round (length ids) table → IsAt (suc round) 0 table
  next_round round table at = record {
    taken = at.taken;
    is_taken = at.is_taken;
    earlier = λ m within before. absurd (omega arith);
    later = λ m within behind. at.earlier m within within;
  }

  after_rounds : (k : ℕ) (table : List ℕ) → IsAt 0 0 table → IsAt k 0 (rounds ids quotas k table)
  unfolding rounds
  after_rounds zero table at = at
  after_rounds (suc k) table at = next_round k _ (after_turns k (length ids) (rounds ids quotas k table) (omega arith) (after_rounds k table at))

  abbrev free_table : List ℕ
  free_table = replicate count 255

  at_first : IsAt 0 0 free_table
  at_first = record {
    taken = replicate (length ids) 0;
    is_taken = record {
      long = length-replicate count 255;
      each_taken = length-replicate (length ids) 0;
      adds_up =
          let all = sum_by-replicate (is_one 255) count 255 in
          let none = sum_by-replicate (λ x. x) (length ids) 0 in
          omega (arith, one_same 255);
      counted = λ m within. sum_by-replicate (is_one m) count 255 ∙ (let none = one_other m 255 (λ e. omega arith) in ap (λ n. count * n) none ∙ (let zeros : get_or (replicate (length ids) 0) m 0 ≡ 0 = get_or-replicate {A = ℕ} (length ids) m 0 0 within in omega arith));
      within = λ b low. inl (get_or-replicate {A = ℕ} count b 255 0 low);
    };
    earlier = λ m within before. absurd (omega arith);
    later = λ m within behind. let zeros : get_or (replicate (length ids) 0) m 0 ≡ 0 = get_or-replicate {A = ℕ} (length ids) m 0 0 within in omega arith;
  }

  abbrev filled : List ℕ
  filled = rounds ids quotas count free_table

  at_last : IsAt count 0 filled
  at_last = after_rounds count free_table at_first

  quota_fits : (m : ℕ) → get_or quotas m 0 ≤ count
  quota_fits m = ⊎_elim
      (λ inside. omega (arith, get_or-le-sum_by (λ x. x) quotas m 0 inside, whole)) (λ past. rw (get_or_past quotas m 0 past) (omega arith)) (cases_lt m (length quotas))

  pub filled_long : length filled ≡ count
  filled_long = at_last.is_taken.long

  pub filled_shares : (m : ℕ) → m < length ids → share_of filled m ≡ get_or quotas m 0
  filled_shares m within = at_last.is_taken.counted m within ∙ (let l = at_last.later m within (omega arith) in omega (arith, quota_fits m))

  -- no bucket is free
  pub filled_members : (b : ℕ) → b < count → get_or filled b 0 < length ids
  filled_members b low = ⊎_elim
      (λ free.
      let more = none_free filled b (omega (arith, filled_long)) free in
      let so = at_last.is_taken.adds_up in
      let all : sum at_last.taken ≡ count = omega (arith, same_sum at_last.taken quotas (omega (arith, at_last.is_taken.each_taken, each)) (λ i within. omega (arith, at_last.later i (omega (arith, at_last.is_taken.each_taken)) (omega arith), quota_fits i)), whole) in
      absurd (omega arith))
      (λ inside. inside) (at_last.is_taken.within b low)
