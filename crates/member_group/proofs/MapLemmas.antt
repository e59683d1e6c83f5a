-- Look-ups in the configuration after a command.
use Rattle.std.proofs.Common.{◌++◌, ◌<◌, ◌∙◌, ◌∷◌, ◌≡◌, ◌≢◌, Bool, List, None, Some, [], ap, arith, false, inl, inr, map, refl, suc, sym, true}
use Rattle.std.specs.Prelude.{◌==◌, if◌then◌else◌, Option, nat_lt, not}
use Rattle.std.specs.List.{All, filter, find}
use Rattle.std.specs.Option.{option_map}
use Rattle.std.proofs.lemmas.Bool.{cases_Bool, cases_eq, cases_order, eq-eqb, eqb-true, le-ltb, lt-ltb, true≢false}
use Rattle.ipv4_fields.specs.declared.endpoint.Endpoint.{Endpoint}
use Rattle.ipv4_fields.specs.Endpoint.{endpoint_number}
use Rattle.member_group.specs.declared.command.Command.TheVariants.{AddGroup, ClearFilter, ClearSelector, Join, Leave, LockFilter, RemoveGroup, SetFilter, SetSelector}
use Rattle.member_group.specs.Command.{joined, left, locked, with_changed, with_filter, with_group, with_selector, without_group}
use Rattle.member_group.specs.Group.{GroupOf, group_of, has_key}
use Rattle.member_group.specs.Map.{ChangesTheMapAtItsKey, IsOneListAMap, KeepsTheMapElsewhere}
use Rattle.member_group.specs.Place.{IsNowhere}
use Rattle.member_group.proofs.ListLemmas.{find-nowhere}
use Rattle.member_group.proofs.PlaceLemmas.{IsRising, not_equal}

-- ---- the first element that passes, in lists made of others

find-append_left : {X : Type 0} (test : X → Bool) (xs ys : List X) → find test ys ≡ None → find test (xs ++ ys) ≡ find test xs
find-append_left test [] ys none = none
find-append_left test (x ∷ xs) ys none = elim (cases_Bool (test x)) [
  | inl passes ↦ rw passes refl
  | inr fails ↦ rw fails (find-append_left test xs ys none)
]

find-append_right : {X : Type 0} (test : X → Bool) (xs ys : List X) → find test xs ≡ None → find test (xs ++ ys) ≡ find test ys
find-append_right test [] ys none = refl
find-append_right test (x ∷ xs) ys none = elim (cases_Bool (test x)) [
  | inl passes ↦ let found : Some x ≡ None = rw passes at none in cc
  | inr fails ↦ rw fails (find-append_right test xs ys (rw fails at none))
]

find-filter : {X : Type 0} (test kept : X → Bool) (xs : List X) → ((x : X) → test x ≡ true → kept x ≡ true) → find test (filter kept xs) ≡ find test xs
find-filter test kept [] keeps = refl
find-filter test kept (x ∷ xs) keeps = elim (cases_Bool (test x)) [
  | inl passes ↦ rw (keeps x passes, passes) refl
  | inr fails ↦ elim (cases_Bool (kept x)) [
    | inl is_kept ↦ rw (is_kept, fails) (find-filter test kept xs keeps)
    | inr is_dropped ↦ rw (is_dropped, fails) (find-filter test kept xs keeps)
  ]
]

find-filter_out : {X : Type 0} (test kept : X → Bool) (xs : List X) → ((x : X) → test x ≡ true → kept x ≡ false) → find test (filter kept xs) ≡ None
find-filter_out test kept [] drops = refl
find-filter_out test kept (x ∷ xs) drops = elim (cases_Bool (kept x)) [
  | inl is_kept ↦ elim (cases_Bool (test x)) [
    | inl passes ↦ absurd (true≢false (sym is_kept ∙ drops x passes))
    | inr fails ↦ rw (is_kept, fails) (find-filter_out test kept xs drops)
  ]
  | inr is_dropped ↦ rw is_dropped (find-filter_out test kept xs drops)
]

find-map : {X : Type 0} (test : X → Bool) (change made : X → X) (xs : List X) → ((x : X) → test (change x) ≡ test x) → ((x : X) → test x ≡ true → change x ≡ made x) → find test (map change xs) ≡ option_map made (find test xs)
find-map test change made [] keeps makes = refl
find-map test change made (x ∷ xs) keeps makes = elim (cases_Bool (test x)) [
  | inl passes ↦ rw (keeps x, passes) (ap (λ y. Some y) (makes x passes))
  | inr fails ↦ rw (keeps x, fails) (find-map test change made xs keeps makes)
]

option_map-itself : {X : Type 0} (o : Option X) → option_map (λ x. x) o ≡ o
option_map-itself None = refl
option_map-itself (Some x) = refl

-- ---- a group changed

changed_test : {P : Type 0} (key other : Endpoint) (change : GroupOf P → GroupOf P) → ((group : GroupOf P) → (change group).key ≡ group.key) → (group : GroupOf P) → has_key other (if has_key key group then change group else group) ≡ has_key other group
changed_test key other change keeps group = elim (cases_Bool (has_key key group)) [
  | inl passes ↦ rw passes (ap (λ at. endpoint_number at == endpoint_number other) (keeps group))
  | inr fails ↦ rw fails refl
]

changed_here : {P : Type 0} (key : Endpoint) (change : GroupOf P → GroupOf P) (config : List (GroupOf P)) → ((group : GroupOf P) → (change group).key ≡ group.key) → group_of key (with_changed key change config) ≡ option_map change (group_of key config)
changed_here key change config keeps =
    find-map (has_key key) (λ group. if has_key key group then change group else group) change config (changed_test key key change keeps) (λ group passes. rw passes refl)

changed_elsewhere : {P : Type 0} (key other : Endpoint) (change : GroupOf P → GroupOf P) (config : List (GroupOf P)) → ((group : GroupOf P) → (change group).key ≡ group.key) → endpoint_number other ≢ endpoint_number key → group_of other (with_changed key change config) ≡ group_of other config
changed_elsewhere {P} key other change config keeps apart =
    find-map (has_key other) (λ group. if has_key key group then change group else group) (λ group. group) config (changed_test key other change keeps)
    (λ group passes. rw (not_equal (endpoint_number group.key) (endpoint_number key) (λ same. apart (sym (eqb-true _ _ passes) ∙ same))) refl)
    ∙ option_map-itself (group_of other config)

-- ---- a group more, a group less

added_here : {P : Type 0} (key : Endpoint) (config : List (GroupOf P)) → group_of key (with_group key config) ≡ Some (record { key = key; selector = None; members = [] })
added_here key config =
    find-append_right (has_key key) (filter (λ group. nat_lt (endpoint_number group.key) (endpoint_number key)) config) _
    (find-filter_out (has_key key) _ config (λ group passes. let same = eqb-true _ _ passes in le-ltb _ _ (omega arith)))
    ∙ rw (eq-eqb (endpoint_number key) (endpoint_number key) refl) refl

added_elsewhere : {P : Type 0} (key other : Endpoint) (config : List (GroupOf P)) → endpoint_number other ≢ endpoint_number key → group_of other (with_group key config) ≡ group_of other config
added_elsewhere {P} key other config apart =
    let new : GroupOf P = record { key = key; selector = None; members = [] } in
    let below = filter (λ (group : GroupOf P). nat_lt (endpoint_number group.key) (endpoint_number key)) config in
    let above = filter (λ (group : GroupOf P). nat_lt (endpoint_number key) (endpoint_number group.key)) config in
    let not_new : has_key other new ≡ false = not_equal _ _ (λ same. apart (sym same)) in
    elim (cases_order (endpoint_number other) (endpoint_number key)) [
      | inl same ↦ absurd (apart same)
      | inr (inl less) ↦
          let none : find (has_key other) above ≡ None = find-filter_out (has_key other) _ config (λ group passes. let same = eqb-true _ _ passes in le-ltb _ _ (omega arith)) in
          find-append_left (has_key other) below (new ∷ above) (rw not_new none)
          ∙ find-filter (has_key other) _ config (λ group passes. let same = eqb-true _ _ passes in lt-ltb _ _ (omega arith))
      | inr (inr more) ↦
          let none : find (has_key other) below ≡ None = find-filter_out (has_key other) _ config (λ group passes. let same = eqb-true _ _ passes in le-ltb _ _ (omega arith)) in
          find-append_right (has_key other) below (new ∷ above) none
          ∙ rw not_new (find-filter (has_key other) _ config (λ group passes. let same = eqb-true _ _ passes in lt-ltb _ _ (omega arith)))
    ]

removed_here : {P : Type 0} (key : Endpoint) (config : List (GroupOf P)) → group_of key (without_group key config) ≡ None
removed_here key config = find-filter_out (has_key key) (λ group. not (has_key key group)) config (λ group passes. rw passes refl)

removed_elsewhere : {P : Type 0} (key other : Endpoint) (config : List (GroupOf P)) → endpoint_number other ≢ endpoint_number key → group_of other (without_group key config) ≡ group_of other config
removed_elsewhere key other config apart =
    find-filter (has_key other) (λ group. not (has_key key group)) config
    (λ group passes. rw (not_equal (endpoint_number group.key) (endpoint_number key) (λ same. apart (sym (eqb-true _ _ passes) ∙ same))) refl)

-- ---- every command

pub changes_at_its_key : ChangesTheMapAtItsKey
changes_at_its_key (AddGroup key) config = added_here key config
changes_at_its_key (RemoveGroup key) config = removed_here key config
changes_at_its_key (Join key member to) config = changed_here key (joined member to) config (λ group. refl)
changes_at_its_key (Leave key member) config = changed_here key (left member) config (λ group. refl)
changes_at_its_key (SetSelector key program) config = changed_here key (with_selector (Some program)) config (λ group. refl)
changes_at_its_key (ClearSelector key) config = changed_here key (with_selector None) config (λ group. refl)
changes_at_its_key (SetFilter key member program) config = changed_here key (with_filter member (Some program)) config (λ group. refl)
changes_at_its_key (ClearFilter key member) config = changed_here key (with_filter member None) config (λ group. refl)
changes_at_its_key (LockFilter key member) config = changed_here key (locked member) config (λ group. refl)

pub keeps_elsewhere : KeepsTheMapElsewhere
keeps_elsewhere (AddGroup key) config other apart = added_elsewhere key other config apart
keeps_elsewhere (RemoveGroup key) config other apart = removed_elsewhere key other config apart
keeps_elsewhere (Join key member to) config other apart = changed_elsewhere key other (joined member to) config (λ group. refl) apart
keeps_elsewhere (Leave key member) config other apart = changed_elsewhere key other (left member) config (λ group. refl) apart
keeps_elsewhere (SetSelector key program) config other apart = changed_elsewhere key other (with_selector (Some program)) config (λ group. refl) apart
keeps_elsewhere (ClearSelector key) config other apart = changed_elsewhere key other (with_selector None) config (λ group. refl) apart
keeps_elsewhere (SetFilter key member program) config other apart = changed_elsewhere key other (with_filter member (Some program)) config (λ group. refl) apart
keeps_elsewhere (ClearFilter key member) config other apart = changed_elsewhere key other (with_filter member None) config (λ group. refl) apart
keeps_elsewhere (LockFilter key member) config other apart = changed_elsewhere key other (locked member) config (λ group. refl) apart

-- ---- one list a map

greater_nowhere : {P : Type 0} (key : Endpoint) (config : List (GroupOf P)) → All (λ group. endpoint_number key < endpoint_number group.key) config → IsNowhere (has_key key) config
greater_nowhere key config greater k d within = not_equal _ _ (λ same. let more = greater k d within in omega arith)

find-head : {P : Type 0} (group : GroupOf P) (rest : List (GroupOf P)) → group_of group.key (group ∷ rest) ≡ Some group
find-head group rest = rw (eq-eqb (endpoint_number group.key) (endpoint_number group.key) refl) refl

rising_tail : {P : Type 0} (group : GroupOf P) (rest : List (GroupOf P)) → IsRising (group ∷ rest) → IsRising rest
rising_tail group rest rising i j d less below = rising (suc i) (suc j) d (omega arith) (omega arith)

rising_above : {P : Type 0} (group : GroupOf P) (rest : List (GroupOf P)) → IsRising (group ∷ rest) → All (λ other. endpoint_number group.key < endpoint_number other.key) rest
rising_above group rest rising k d below = rising 0 (suc k) d (omega arith) (omega arith)

-- a key below that of the first group of a list in rising order
less_nowhere : {P : Type 0} (key : Endpoint) (group : GroupOf P) (rest : List (GroupOf P)) → IsRising (group ∷ rest) → endpoint_number key < endpoint_number group.key → group_of key (group ∷ rest) ≡ None
less_nowhere key group rest rising less =
    rw (not_equal (endpoint_number group.key) (endpoint_number key) (λ same. omega arith))
    (find-nowhere (has_key key) rest (greater_nowhere key rest (λ k d below. let more = rising_above group rest rising k d below in omega arith)))

one_rising_list : {P : Type 0} (config other : List (GroupOf P)) → IsRising config → IsRising other → ((key : Endpoint) → group_of key config ≡ group_of key other) → config ≡ other
one_rising_list [] [] rising rising_too same = refl
one_rising_list {P} [] (y ∷ ys) rising rising_too same =
    let found : ◌≡◌ {A = Option (GroupOf P)} None (Some y) = same y.key ∙ find-head y ys in
    cc
one_rising_list {P} (x ∷ xs) [] rising rising_too same =
    let found : ◌≡◌ {A = Option (GroupOf P)} (Some x) None = sym (find-head x xs) ∙ same x.key in
    cc
one_rising_list {P} (x ∷ xs) (y ∷ ys) rising rising_too same = elim (cases_order (endpoint_number x.key) (endpoint_number y.key)) [
  | inl equal ↦
      let found : ◌≡◌ {A = Option (GroupOf P)} (Some x) (Some y) =
      sym (find-head x xs) ∙ same x.key ∙ rw (eq-eqb (endpoint_number y.key) (endpoint_number x.key) (sym equal)) refl in
      let first : x ≡ y = cc in
      let rest : xs ≡ ys = one_rising_list xs ys (rising_tail x xs rising) (rising_tail y ys rising_too) (λ key. elim (cases_eq (endpoint_number x.key) (endpoint_number key)) [
        | inl here ↦
            find-nowhere (has_key key) xs (greater_nowhere key xs (λ k d below. let more = rising_above x xs rising k d below in omega arith))
            ∙ sym (find-nowhere (has_key key) ys (greater_nowhere key ys (λ k d below. let more = rising_above y ys rising_too k d below in omega arith)))
        | inr apart ↦
            let skips : has_key key x ≡ false = not_equal _ _ apart in
            let skips_too : has_key key y ≡ false = not_equal _ _ (λ e. apart (equal ∙ e)) in
            let without : find (has_key key) (x ∷ xs) ≡ find (has_key key) xs = rw skips refl in
            let without_too : find (has_key key) (y ∷ ys) ≡ find (has_key key) ys = rw skips_too refl in
            sym without ∙ same key ∙ without_too
      ]) in
      cc
  | inr (inl less) ↦
      let found : ◌≡◌ {A = Option (GroupOf P)} (Some x) None = sym (find-head x xs) ∙ same x.key ∙ less_nowhere x.key y ys rising_too less in
      cc
  | inr (inr more) ↦
      let found : ◌≡◌ {A = Option (GroupOf P)} None (Some y) = sym (less_nowhere y.key x xs rising more) ∙ same y.key ∙ find-head y ys in
      cc
]

pub one_list_a_map : IsOneListAMap
one_list_a_map config other is_config is_other same = one_rising_list config other is_config.rising is_other.rising same
