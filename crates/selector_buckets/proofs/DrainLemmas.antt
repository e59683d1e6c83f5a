-- The buckets of a member that leaves go to the members that have fewest, and nothing else moves.
use Rattle.std.proofs.Common.{◌≡◌, ◌∙◌, ◌+◌, ◌-◌, ◌<◌, ◌≤◌, ◌∷◌, ◌⊎◌, List, [], ap, arith, cond, get_or, inl, inr, length, map, refl, set, subst, suc, sym, take, zero, ℕ, ⊎_elim}
use Rattle.std.specs.Prelude.{nat_eq}
use Rattle.std.proofs.lemmas.Bool.{cases_eq, cases_lt, eq-eqb, le-ltb, lt-ltb, ne_eqb}
use Rattle.std.proofs.lemmas.List.{get_or-map, get_or-set_other, get_or-set_same, get_or_past, length-map, length-set}
use Rattle.std.proofs.lemmas.List.Sums.{count_by_more_no, count_by_more_yes, sum_by-cons, sum_by-set}
use Rattle.selector_buckets.specs.Buckets.{IsTable}
use Rattle.selector_buckets.specs.Drained.{AllAreTaken, GoToTheFewest, OthersStay, SharesGrow, drained, fewer, fewest, first_other, hand_over, handed_over, index_after, taken_by}
use Rattle.selector_buckets.specs.Shares.{HasMembersOnly, share_of}
use Rattle.selector_buckets.proofs.TurnLemmas.{is_one, one_other, one_same}

-- ---- what the code does

pub only_more : (count bucket : ℕ) (members : List ℕ) → ((before : ℕ) → before < bucket → get_or members before 0 < count) → get_or members bucket 0 < count
    → (before : ℕ) → before < bucket + 1 → get_or members before 0 < count
only_more count bucket members so_far here before low = ⊎_elim
    (λ earlier. so_far before earlier)
    (λ last. let e : bucket ≡ before = omega arith in subst (λ b. get_or members b 0 < count) e here) (cases_lt before bucket)

pub share_more : (members : List ℕ) (member i : ℕ) → i < length members → get_or members i 0 ≡ member → share_of (take (i + 1) members) member ≡ share_of (take i members) member + 1
share_more members member i inside is = count_by_more_yes (λ other. nat_eq other member) members i 0 inside (eq-eqb (get_or members i 0) member is)

pub share_same : (members : List ℕ) (member i : ℕ) → i < length members → (get_or members i 0 ≡ member → ⊥) → share_of (take (i + 1) members) member ≡ share_of (take i members) member
share_same members member i inside other = count_by_more_no (λ other. nat_eq other member) members i 0 inside (ne_eqb (get_or members i 0) member other)

module _ (members : List ℕ) (gone taker other : ℕ) where
  pub fewer_other : (other ≡ gone → ⊥) → share_of members other < share_of members taker → other ≡ fewer members gone taker other
  fewer_other ne less = rw (ne_eqb other gone ne, lt-ltb (share_of members other) (share_of members taker) less) refl

  pub fewer_gone : other ≡ gone → taker ≡ fewer members gone taker other
  fewer_gone e = rw (eq-eqb other gone e) refl

  pub fewer_taker : (other ≡ gone → ⊥) → share_of members taker ≤ share_of members other → taker ≡ fewer members gone taker other
  fewer_taker ne more = rw (ne_eqb other gone ne, le-ltb (share_of members other) (share_of members taker) more) refl

pub none_handed : (count gone : ℕ) (members : List ℕ) → members ≡ handed_over count gone 0 members
unfolding handed_over
none_handed count gone members = refl

module _ (count gone k : ℕ) (start members : List ℕ) (so_far : members ≡ handed_over count gone k start) where
  one_handed : hand_over count gone k members ≡ handed_over count gone (k + 1) start
  unfolding handed_over
  one_handed =
      let next : suc k ≡ k + 1 = omega arith in
      ap (hand_over count gone k) so_far ∙ ap (λ n. handed_over count gone n start) next

  pub handed_here : (taker : ℕ) → get_or members k 0 ≡ gone → taker ≡ fewest members gone count → set members k taker ≡ handed_over count gone (k + 1) start
  handed_here taker is taken =
      ap (λ t. set members k t) taken
      ∙ (sym (ap (λ b. cond b (set members k (fewest members gone count)) members) (eq-eqb (get_or members k 0) gone is)) ∙ one_handed)

  pub handed_not : (get_or members k 0 ≡ gone → ⊥) → members ≡ handed_over count gone (k + 1) start
  handed_not other = sym (ap (λ b. cond b (set members k (fewest members gone count)) members) (ne_eqb (get_or members k 0) gone other)) ∙ one_handed

pub fewest_more : (members : List ℕ) (gone other taker next : ℕ) → taker ≡ fewest members gone other → next ≡ fewer members gone taker other → next ≡ fewest members gone (other + 1)
fewest_more members gone other taker next so_far is =
    let more : suc other ≡ other + 1 = omega arith in
    is ∙ (ap (λ t. fewer members gone t other) so_far ∙ ap (fewest members gone) more)

-- ---- the member that has fewest buckets

module _ (count gone : ℕ) (others : 2 ≤ count) (gone_inside : gone < count) where
  abbrev IsOther : ℕ → Type 0
  IsOther member = (member < count) × (member ≡ gone → ⊥)

  first_is_other : (first_other gone < count) × (first_other gone ≡ gone → ⊥)
  first_is_other = ⊎_elim
      (λ e. rw (eq-eqb gone 0 e) (omega arith, λ same. omega arith))
      (λ ne. rw (ne_eqb gone 0 ne) (omega arith, λ same. ne (sym same)))
      (cases_eq gone 0)

  pub fewest_is_other : (members : List ℕ) (k : ℕ) → k ≤ count → (fewest members gone k < count) × (fewest members gone k ≡ gone → ⊥)
  fewest_is_other members zero few = first_is_other
  fewest_is_other members (suc k) few =
      let before = fewest_is_other members k (omega arith) in
      ⊎_elim
      (λ e. rw (eq-eqb k gone e) before)
      (λ ne. rw (ne_eqb k gone ne) (⊎_elim
      (λ less. rw (lt-ltb (share_of members k) (share_of members (fewest members gone k)) less) (omega arith, ne))
      (λ more. rw (le-ltb (share_of members k) (share_of members (fewest members gone k)) more) before)
      (cases_lt (share_of members k) (share_of members (fewest members gone k)))))
      (cases_eq k gone)

  pub fewest_least : (members : List ℕ) (k m : ℕ) → m < k → (m ≡ gone → ⊥) → share_of members (fewest members gone k) ≤ share_of members m
  fewest_least members zero m inside other = absurd (omega arith)
  fewest_least members (suc k) m inside other =
      ⊎_elim
      (λ e. rw (eq-eqb k gone e) (fewest_least members k m (⊎_elim (λ before. before) (λ last. absurd (other (let g : m ≡ k = omega arith in g ∙ e))) (cases_lt m k)) other))
      (λ ne. rw (ne_eqb k gone ne) (⊎_elim
      (λ less. rw (lt-ltb (share_of members k) (share_of members (fewest members gone k)) less)
      (⊎_elim (λ before. omega (arith, fewest_least members k m before other))
      (λ last. let e : k ≡ m = omega arith in subst (λ n. share_of members k ≤ share_of members n) e (omega arith)) (cases_lt m k)))
      (λ more. rw (le-ltb (share_of members k) (share_of members (fewest members gone k)) more)
      (⊎_elim (λ before. fewest_least members k m before other)
      (λ last. let e : k ≡ m = omega arith in subst (λ n. share_of members (fewest members gone k) ≤ share_of members n) e more) (cases_lt m k)))
      (cases_lt (share_of members k) (share_of members (fewest members gone k)))))
      (cases_eq k gone)

  -- ---- after the first k buckets

  module _ (before : List ℕ) where
    record IsHanded (k : ℕ) (table : List ℕ) : Type 0 where
      long : length table ≡ length before
      later : (b : ℕ) → k ≤ b → get_or table b 0 ≡ get_or before b 0
      stays : (b : ℕ) → (get_or before b 0 ≡ gone → ⊥) → get_or table b 0 ≡ get_or before b 0
      taken : (b : ℕ) → b < k → get_or before b 0 ≡ gone → (get_or table b 0 < count) × (get_or table b 0 ≡ gone → ⊥)
      even : (m n : ℕ) → m < count → n < count → (m ≡ gone → ⊥) → (n ≡ gone → ⊥) → (share_of table m ≡ share_of before m) ⊎ (share_of table m ≤ share_of table n + 1)

    at_first : IsHanded 0 before
    at_first = record {
      long = refl;
      later = λ b past. refl;
      stays = λ b other. refl;
      taken = λ b low is. absurd (omega arith);
      even = λ m n m_in n_in m_other n_other. inl refl;
    }

    module _ (k : ℕ) (table : List ℕ) (at : IsHanded k table) (inside : k < length before) where
      passes : (get_or table k 0 ≡ gone → ⊥) → IsHanded (suc k) table
      passes other = record {
        long = at.long;
        later = λ b past. at.later b (omega arith);
        stays = at.stays;
        taken = λ b low is. ⊎_elim
            (λ earlier. at.taken b earlier is)
            (λ last. let e : b ≡ k = omega arith in absurd (other (at.later k (omega arith) ∙ (ap (λ n. get_or before n 0) (sym e) ∙ is)))) (cases_lt b k);
        even = at.even;
      }

      module _ (is : get_or table k 0 ≡ gone) where
        abbrev taker : ℕ
        taker = fewest table gone count

        abbrev next : List ℕ
        next = set table k taker

        taker_is_other : (taker < count) × (taker ≡ gone → ⊥)
        taker_is_other = fewest_is_other table count (omega arith)

        in_table : k < length table
        in_table = let long = at.long in omega arith

        next_here : get_or next k 0 ≡ taker
        next_here = get_or-set_same table k taker 0 in_table

        next_other : (b : ℕ) → (b ≡ k → ⊥) → get_or next b 0 ≡ get_or table b 0
        next_other b ne = get_or-set_other table k b taker 0 ne

        shares : (m : ℕ) → share_of next m + is_one m gone ≡ share_of table m + is_one m taker
        shares m = ap (λ x. share_of next m + is_one m x) (sym is) ∙ sum_by-set (is_one m) table k taker 0 in_table

        grown : (m : ℕ) → (m ≡ gone → ⊥) → share_of next m ≡ share_of table m + is_one m taker
        grown m other = let none = one_other m gone (λ e. other (sym e)) in omega (arith, shares m)

        even_next : (m n : ℕ) → m < count → n < count → (m ≡ gone → ⊥) → (n ≡ gone → ⊥) → (share_of next m ≡ share_of before m) ⊎ (share_of next m ≤ share_of next n + 1)
        even_next m n m_in n_in m_other n_other = ⊎_elim
            (λ e.
            let one : is_one m taker ≡ 1 = subst (λ t. is_one m t ≡ 1) e (one_same m) in
            let least : share_of table taker ≤ share_of table n = fewest_least table count n n_in n_other in
            let mine : share_of table m ≡ share_of table taker = ap (share_of table) e in
            inr (omega (arith, grown m m_other, grown n n_other)))
            (λ ne.
            let none : is_one m taker ≡ 0 = one_other m taker (λ e. ne (sym e)) in
            let same : share_of next m ≡ share_of table m = omega (arith, grown m m_other) in
            ⊎_elim (λ kept. inl (same ∙ kept)) (λ few. inr (omega (arith, grown n n_other))) (at.even m n m_in n_in m_other n_other))
            (cases_eq m taker)

        takes : IsHanded (suc k) next
        takes = record {
          long = length-set table k taker ∙ at.long;
          later = λ b past. next_other b (λ e. omega arith) ∙ at.later b (omega arith);
          stays = λ b other. ⊎_elim
              (λ e. absurd (other (ap (λ n. get_or before n 0) e ∙ (sym (at.later k (omega arith)) ∙ is))))
              (λ ne. next_other b ne ∙ at.stays b other) (cases_eq b k);
          taken = λ b low was. ⊎_elim
              (λ e. subst (λ n. (get_or next n 0 < count) × (get_or next n 0 ≡ gone → ⊥)) (sym e) (subst (λ x. (x < count) × (x ≡ gone → ⊥)) (sym next_here) taker_is_other))
              (λ ne. subst (λ x. (x < count) × (x ≡ gone → ⊥)) (sym (next_other b ne)) (at.taken b (omega arith) was)) (cases_eq b k);
          even = even_next;
        }

      after_bucket : IsHanded (suc k) (hand_over count gone k table)
      after_bucket = ⊎_elim
          (λ is. rw (eq-eqb (get_or table k 0) gone is) (takes is)) (λ other. rw (ne_eqb (get_or table k 0) gone other) (passes other)) (cases_eq (get_or table k 0) gone)

    after_buckets : (k : ℕ) → k ≤ length before → IsHanded k (handed_over count gone k before)
    unfolding handed_over
    after_buckets zero few = at_first
    after_buckets (suc k) few = after_bucket k (handed_over count gone k before) (after_buckets k (omega arith)) (omega arith)

    abbrev handed : List ℕ
    handed = handed_over count gone (length before) before

    at_last : IsHanded (length before) handed
    at_last = after_buckets (length before) (omega arith)

    -- ---- with the new indexes

    abbrev after : List ℕ
    after = drained count gone before

    after_at : (b : ℕ) → b < length before → get_or after b 0 ≡ index_after count gone (get_or handed b 0)
    after_at b inside = let long = at_last.long in get_or-map (index_after count gone) handed b 0 0 (omega arith)

    pub after_long : length after ≡ length before
    after_long = length-map handed (index_after count gone) ∙ at_last.long

    pub others_stay : OthersStay count gone before after
    others_stay b inside other = after_at b inside ∙ ap (index_after count gone) (at_last.stays b other)

    pub all_taken : AllAreTaken count gone before after
    all_taken b inside is = let taken = at_last.taken b inside is in (get_or handed b 0, taken.0, taken.1, after_at b inside)

    -- an index that another member has afterwards
    index_small : (m : ℕ) → m < count → (m ≡ gone → ⊥) → index_after count gone m < count - 1
    index_small m m_in other = ⊎_elim
        (λ e. rw (eq-eqb m (count - 1) e) (⊎_elim (λ low. low) (λ high. absurd (other (let g : m ≡ gone = omega arith in g))) (cases_lt gone (count - 1))))
        (λ ne. rw (ne_eqb m (count - 1) ne) (⊎_elim (λ low. low) (λ high. absurd (ne (let g : m ≡ count - 1 = omega arith in g))) (cases_lt m (count - 1))))
        (cases_eq m (count - 1))

    index_apart : (m n : ℕ) → m < count → n < count → (m ≡ gone → ⊥) → (n ≡ gone → ⊥) → (m ≡ n → ⊥) → index_after count gone m ≡ index_after count gone n → ⊥
    index_apart m n m_in n_in m_other n_other apart = ⊎_elim
        (λ e. ⊎_elim
        (λ e'. λ same. apart (e ∙ sym e'))
        (λ ne'. rw (eq-eqb m (count - 1) e, ne_eqb n (count - 1) ne') (λ same. n_other (sym same))) (cases_eq n (count - 1)))
        (λ ne. ⊎_elim
        (λ e'. rw (ne_eqb m (count - 1) ne, eq-eqb n (count - 1) e') (λ same. m_other same))
        (λ ne'. rw (ne_eqb m (count - 1) ne, ne_eqb n (count - 1) ne') (λ same. apart same)) (cases_eq n (count - 1)))
        (cases_eq m (count - 1))

    -- a member is counted by either index
    counted_alike : (x m : ℕ) → IsOther x → IsOther m → is_one (index_after count gone m) (index_after count gone x) ≡ is_one m x
    counted_alike x m x_is m_is = ⊎_elim
        (λ e. subst (λ y. is_one (index_after count gone m) (index_after count gone y) ≡ is_one m y) (sym e) (one_same (index_after count gone m) ∙ sym (one_same m)))
        (λ ne. one_other (index_after count gone m) (index_after count gone x) (index_apart x m x_is.0 m_is.0 x_is.1 m_is.1 ne) ∙ sym (one_other m x ne))
        (cases_eq x m)

    renumbered_share : (table : List ℕ) (m : ℕ) → ((b : ℕ) → b < length table → IsOther (get_or table b 0)) → IsOther m
        → share_of (map (index_after count gone) table) (index_after count gone m) ≡ share_of table m
    renumbered_share [] m all m_is = refl
    renumbered_share (x ∷ table) m all m_is =
        let here : is_one (index_after count gone m) (index_after count gone x) ≡ is_one m x = counted_alike x m (all 0 (omega arith)) m_is in
        let rest = renumbered_share table m (λ b inside. all (suc b) (omega arith)) m_is in
        let apart = sum_by-cons (is_one (index_after count gone m)) (index_after count gone x) (map (index_after count gone) table) in
        let apart' = sum_by-cons (is_one m) x table in
        omega (arith, here, rest, apart, apart')

    share_taken : (xs ys : List ℕ) (m : ℕ) → length ys ≡ length xs → ((b : ℕ) → b < length xs → IsOther (get_or ys b 0))
        → ((b : ℕ) → b < length xs → (get_or xs b 0 ≡ gone → ⊥) → get_or ys b 0 ≡ get_or xs b 0) → IsOther m
        → share_of (map (index_after count gone) ys) (index_after count gone m) ≡ share_of xs m + taken_by gone (index_after count gone m) xs (map (index_after count gone) ys)
    share_taken [] [] m same all stay m_is = refl
    share_taken [] (y ∷ ys) m same all stay m_is = absurd (omega arith)
    share_taken (x ∷ xs) [] m same all stay m_is = absurd (omega arith)
    share_taken (x ∷ xs) (y ∷ ys) m same all stay m_is =
        let rest = share_taken xs ys m (omega arith) (λ b inside. all (suc b) (omega arith)) (λ b inside. stay (suc b) (omega arith)) m_is in
        let apart = sum_by-cons (is_one (index_after count gone m)) (index_after count gone y) (map (index_after count gone) ys) in
        let apart' = sum_by-cons (is_one m) x xs in
        ⊎_elim
        (λ e.
        let none : is_one m x ≡ 0 = one_other m x (λ is. m_is.1 (sym is ∙ e)) in
        rw (eq-eqb x gone e) (omega (arith, rest, apart, apart', none)))
        (λ ne.
        let y_is : y ≡ x = stay 0 (omega arith) ne in
        let here : is_one (index_after count gone m) (index_after count gone y) ≡ is_one m x = counted_alike y m (all 0 (omega arith)) m_is ∙ ap (is_one m) y_is in
        rw (ne_eqb x gone ne) (omega (arith, rest, apart, apart', here)))
        (cases_eq x gone)

    module _ (only : HasMembersOnly count before) where
      handed_other : (b : ℕ) → b < length before → IsOther (get_or handed b 0)
      handed_other b inside = ⊎_elim
          (λ is. at_last.taken b inside is)
          (λ other. let stays = at_last.stays b other in (omega (arith, only b inside), λ same. other (sym stays ∙ same)))
          (cases_eq (get_or before b 0) gone)

      pub members_only : HasMembersOnly (count - 1) after
      members_only b inside =
          let within : b < length before = omega (arith, after_long) in
          let other = handed_other b within in
          subst (λ x. x < count - 1) (sym (after_at b within)) (index_small (get_or handed b 0) other.0 other.1)

      pub shares_grow : SharesGrow count gone before after
      shares_grow m m_in m_other = share_taken before handed m at_last.long handed_other (λ b inside other. at_last.stays b other) (m_in, m_other)

      same_share : (m : ℕ) → m < count → (m ≡ gone → ⊥) → share_of after (index_after count gone m) ≡ share_of handed m
      same_share m m_in m_other = renumbered_share handed m (λ b inside. handed_other b (let long = at_last.long in omega arith)) (m_in, m_other)

      pub to_the_fewest : GoToTheFewest count gone before after
      to_the_fewest m n m_in n_in m_other n_other =
          let mine = same_share m m_in m_other in
          let theirs = same_share n n_in n_other in
          ⊎_elim (λ kept. inl (mine ∙ kept)) (λ few. inr (omega (arith, mine, theirs))) (at_last.even m n m_in n_in m_other n_other)

      pub after_table : (depth : ℕ) → count ≤ 64 → IsTable (record { depth = depth; members = before }) → IsTable (record { depth = depth; members = after })
      after_table depth few table = record {
        limited = table.limited;
        whole = after_long ∙ table.whole;
        bytes = λ b. ⊎_elim
            (λ inside. omega (arith, members_only b inside)) (λ past. rw (get_or_past after b 0 past) (omega arith)) (cases_lt b (length after));
      }

-- ---- what the whole call returns

pub drained_is : (count gone : ℕ) (before given table members : List ℕ) → given ≡ before → table ≡ handed_over count gone (length given) given → members ≡ map (index_after count gone) table
    → members ≡ drained count gone before
drained_is count gone before given table members same is renumbered =
    renumbered ∙ ap (map (index_after count gone)) (is ∙ ap (λ it. handed_over count gone (length it) it) same)
