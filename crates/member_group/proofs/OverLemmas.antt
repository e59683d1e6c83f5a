-- What commands, refusals and charges make of a configuration does not look into its programs: it is the same over programs of
-- another kind.
use Rattle.std.proofs.Common.{◌≡◌, ◌∙◌, ◌*◌, ◌+◌, ◌-◌, ◌++◌, ◌∷◌, Bool, List, None, Option, Some, [], ap, cond, false, find, get_or, is_none, is_some, length, map, nat_le, nat_lt, refl, suc, sym, take, true, zero, ℕ}
use Rattle.std.specs.List.{cons_option, filter, filter_map, fold, sum_by}
use Rattle.std.specs.Option.{option_and_then, option_map, option_to_list}
use Rattle.std.proofs.lemmas.List.{length-map, map-append, take-map}
use Rattle.ipv4_fields.specs.declared.endpoint.Endpoint.{Endpoint}
use Rattle.ipv4_fields.specs.Endpoint.{endpoint_number}
use Rattle.member_group.specs.Charge.{charge_by, members_of, programs_of, programs_of_group}
use Rattle.member_group.specs.Command.{after, joined, left, locked, with_changed, with_filter, with_group, with_selector}
use Rattle.member_group.specs.Group.{GroupOf, group_of, has_id, has_key, member_of}
use Rattle.member_group.specs.Refusal.{clear_filter_causes, clear_selector_causes, first_of, first_refusal, has_locked, in_group, is_locked, join_causes, lacks_filter, lacks_member, member_causes, set_filter_causes}
use Rattle.member_group.specs.declared.TheConstants.{GROUP_LIMIT, GROUP_WORDS, HEAD_WORDS, MEMBER_LIMIT, MEMBER_WORDS}
use Rattle.member_group.specs.declared.command.Command.{Command}
use Rattle.member_group.specs.declared.command.Command.TheVariants.{AddGroup, ClearFilter, ClearSelector, Join, Leave, LockFilter, RemoveGroup, SetFilter, SetSelector}
use Rattle.member_group.specs.declared.member.Member.{Member}
use Rattle.member_group.specs.declared.refusal.Refusal.{Refusal}
use Rattle.member_group.specs.declared.refusal.Refusal.TheVariants.{GroupExists, GroupFull, Locked, MemberExists, NoMember, NoProgram, TooManyGroups}
use Rattle.member_group.specs.Over.{command_over, config_over, group_over, member_over}

-- ---- lists

module _ {X Y : Type 0} (over : X → Y) where
  find-map : (p : X → Bool) (q : Y → Bool) → ((x : X) → q (over x) ≡ p x) → (xs : List X) → find q (map over xs) ≡ option_map over (find p xs)
  find-map p q same [] = refl
  find-map p q same (x ∷ xs) =
      ap (λ b. cond b (Some (over x)) (find q (map over xs))) (same x)
      ∙ elim (p x) as (λ b. cond b (Some (over x)) (find q (map over xs)) ≡ option_map over (cond b (Some x) (find p xs))) [ true ↦ refl | false ↦ find-map p q same xs ]

  filter-map : (p : X → Bool) (q : Y → Bool) → ((x : X) → q (over x) ≡ p x) → (xs : List X) → filter q (map over xs) ≡ map over (filter p xs)
  filter-map p q same [] = refl
  filter-map p q same (x ∷ xs) =
      ap (λ b. cond b (over x ∷ filter q (map over xs)) (filter q (map over xs))) (same x)
      ∙ elim (p x) as (λ b. cond b (over x ∷ filter q (map over xs)) (filter q (map over xs)) ≡ map over (cond b (x ∷ filter p xs) (filter p xs))) [ true ↦ ap (λ ys. over x ∷ ys) (filter-map p q same xs) | false ↦ filter-map p q same xs ]

  map-commutes : (f : X → X) (g : Y → Y) → ((x : X) → g (over x) ≡ over (f x)) → (xs : List X) → map g (map over xs) ≡ map over (map f xs)
  map-commutes f g same [] = refl
  map-commutes f g same (x ∷ xs) = ap (λ y. y ∷ map g (map over xs)) (same x) ∙ ap (λ ys. over (f x) ∷ ys) (map-commutes f g same xs)

  get_or-over : (xs : List X) (n : ℕ) (d : X) → get_or (map over xs) n (over d) ≡ over (get_or xs n d)
  get_or-over [] n d = refl
  get_or-over (x ∷ xs) zero d = refl
  get_or-over (x ∷ xs) (suc n) d = get_or-over xs n d

  is_some-over : (o : Option X) → is_some (option_map over o) ≡ is_some o
  is_some-over None = refl
  is_some-over (Some x) = refl

  is_none-over : (o : Option X) → is_none (option_map over o) ≡ is_none o
  is_none-over None = refl
  is_none-over (Some x) = refl

  fold_sum-map : (f : Y → ℕ) (g : X → ℕ) → ((x : X) → f (over x) ≡ g x) → (xs : List X) (a : ℕ) → fold (λ a y. a + f y) a (map over xs) ≡ fold (λ a x. a + g x) a xs
  fold_sum-map f g same [] a = refl
  fold_sum-map f g same (x ∷ xs) a = fold_sum-map f g same xs (a + f (over x)) ∙ ap (λ n. fold (λ a x. a + g x) (a + n) xs) (same x)

  sum_by-map : (f : Y → ℕ) (g : X → ℕ) → ((x : X) → f (over x) ≡ g x) → (xs : List X) → sum_by f (map over xs) ≡ sum_by g xs
  sum_by-map f g same xs = fold_sum-map f g same xs 0

  list-over : (o : Option X) → option_to_list (option_map over o) ≡ map over (option_to_list o)
  list-over None = refl
  list-over (Some x) = refl

  cons-over : (o : Option X) (xs : List X) → cons_option (option_map over o) (map over xs) ≡ map over (cons_option o xs)
  cons-over None xs = refl
  cons-over (Some x) xs = refl

-- ---- configurations

module _ {P Q : Type 0} (over : P → Q) where
  changed-over : (key : Endpoint) (f : GroupOf P → GroupOf P) (g : GroupOf Q → GroupOf Q) → ((group : GroupOf P) → g (group_over over group) ≡ group_over over (f group)) → (config : List (GroupOf P)) → with_changed key g (config_over over config) ≡ config_over over (with_changed key f config)
  changed-over key f g same config =
      map-commutes (group_over over) (λ group. cond (has_key key group) (f group) group) (λ group. cond (has_key key group) (g group) group)
      (λ group. elim (has_key key group) as (λ b. cond b (g (group_over over group)) (group_over over group) ≡ group_over over (cond b (f group) group)) [ true ↦ same group | false ↦ refl ])
      config

  abbrev with_members : GroupOf P → List (Member Q) → GroupOf Q
  with_members group members = record { key = group.key; selector = option_map over group.selector; members = members }

  joined-over : (id : ℕ) (to : Endpoint) (group : GroupOf P) → joined id to (group_over over group) ≡ group_over over (joined id to group)
  joined-over id to group = ap (with_members group) (sym (map-append (member_over over) group.members (record { id = id; to = to; filter = None; locked = false } ∷ [])))

  left-over : (id : ℕ) (group : GroupOf P) → left id (group_over over group) ≡ group_over over (left id group)
  left-over id group = ap (with_members group) (by_last (length (map (member_over over) group.members) - 1) (length group.members - 1) (ap (λ n. n - 1) (length-map group.members (member_over over))))
    where
      by_last : (m n : ℕ) → m ≡ n →
          map (λ member. cond (has_id id member) (get_or (map (member_over over) group.members) m member) member) (take m (map (member_over over) group.members))
          ≡ map (member_over over) (map (λ member. cond (has_id id member) (get_or group.members n member) member) (take n group.members))
      by_last m n same =
          ap (λ k. map (λ member. cond (has_id id member) (get_or (map (member_over over) group.members) k member) member) (take k (map (member_over over) group.members))) same
          ∙ ap (map (λ member. cond (has_id id member) (get_or (map (member_over over) group.members) n member) member)) (take-map (member_over over) n group.members)
          ∙ map-commutes (member_over over) (λ member. cond (has_id id member) (get_or group.members n member) member) (λ member. cond (has_id id member) (get_or (map (member_over over) group.members) n member) member)
          (λ member. elim (has_id id member) as (λ b. cond b (get_or (map (member_over over) group.members) n (member_over over member)) (member_over over member) ≡ member_over over (cond b (get_or group.members n member) member)) [ true ↦ get_or-over (member_over over) group.members n member | false ↦ refl ])
          (take n group.members)

  filter-over : (id : ℕ) (filter : Option P) (group : GroupOf P) → with_filter id (option_map over filter) (group_over over group) ≡ group_over over (with_filter id filter group)
  filter-over id filter group =
      ap (with_members group)
      (map-commutes (member_over over) (λ member. cond (has_id id member) (record member { filter = filter }) member) (λ member. cond (has_id id member) (record member { filter = option_map over filter }) member)
      (λ member. elim (has_id id member) as (λ b. cond b (record { id = member.id; to = member.to; filter = option_map over filter; locked = member.locked }) (member_over over member) ≡ member_over over (cond b (record member { filter = filter }) member)) [ true ↦ refl | false ↦ refl ])
      group.members)

  locked-over : (id : ℕ) (group : GroupOf P) → locked id (group_over over group) ≡ group_over over (locked id group)
  locked-over id group =
      ap (with_members group)
      (map-commutes (member_over over) (λ member. cond (has_id id member) (record member { locked = true }) member) (λ member. cond (has_id id member) (record member { locked = true }) member)
      (λ member. elim (has_id id member) as (λ b. cond b (record { id = member.id; to = member.to; filter = option_map over member.filter; locked = true }) (member_over over member) ≡ member_over over (cond b (record member { locked = true }) member)) [ true ↦ refl | false ↦ refl ])
      group.members)

  added-over : (key : Endpoint) (config : List (GroupOf P)) → with_group key (config_over over config) ≡ config_over over (with_group key config)
  added-over key config =
      let below : List (GroupOf P) = filter (λ group. nat_lt (endpoint_number group.key) (endpoint_number key)) config in
      let above : List (GroupOf P) = filter (λ group. nat_lt (endpoint_number key) (endpoint_number group.key)) config in
      let alone : GroupOf Q = record { key = key; selector = None; members = [] } in
      ap (λ (groups : List (GroupOf Q)). groups ++ alone ∷ filter (λ group. nat_lt (endpoint_number key) (endpoint_number group.key)) (config_over over config)) (filter-map (group_over over) _ _ (λ group. refl) config)
      ∙ ap (λ (groups : List (GroupOf Q)). map (group_over over) below ++ alone ∷ groups) (filter-map (group_over over) _ _ (λ group. refl) config)
      ∙ sym (map-append (group_over over) below (record { key = key; selector = None; members = [] } ∷ above))

  -- the configuration after a command
  pub after-over : (command : Command P) (config : List (GroupOf P)) → after (command_over over command) (config_over over config) ≡ config_over over (after command config)
  after-over (AddGroup key) config = added-over key config
  after-over (RemoveGroup key) config = filter-map (group_over over) _ _ (λ group. refl) config
  after-over (Join key id to) config = changed-over key (joined id to) (joined id to) (joined-over id to) config
  after-over (Leave key id) config = changed-over key (left id) (left id) (left-over id) config
  after-over (SetSelector key program) config = changed-over key (with_selector (Some program)) (with_selector (Some (over program))) (λ group. refl) config
  after-over (ClearSelector key) config = changed-over key (with_selector None) (with_selector None) (λ group. refl) config
  after-over (SetFilter key id program) config = changed-over key (with_filter id (Some program)) (with_filter id (Some (over program))) (filter-over id (Some program)) config
  after-over (ClearFilter key id) config = changed-over key (with_filter id None) (with_filter id None) (filter-over id None) config
  after-over (LockFilter key id) config = changed-over key (locked id) (locked id) (locked-over id) config

  pub group-over : (key : Endpoint) (config : List (GroupOf P)) → group_of key (config_over over config) ≡ option_map (group_over over) (group_of key config)
  group-over key config = find-map (group_over over) (has_key key) (has_key key) (λ group. refl) config

  pub member-over : (id : ℕ) (group : GroupOf P) → member_of id (group_over over group) ≡ option_map (member_over over) (member_of id group)
  member-over id group = find-map (member_over over) (has_id id) (has_id id) (λ member. refl) group.members

  in_group-over : (f : GroupOf P → List (Bool × Refusal)) (g : GroupOf Q → List (Bool × Refusal)) → ((group : GroupOf P) → g (group_over over group) ≡ f group) → (key : Endpoint) (config : List (GroupOf P)) → in_group g (group_of key (config_over over config)) ≡ in_group f (group_of key config)
  in_group-over f g same key config = ap (in_group g) (group-over key config) ∙ by_group (group_of key config)
    where
      by_group : (found : Option (GroupOf P)) → in_group g (option_map (group_over over) found) ≡ in_group f found
      by_group None = refl
      by_group (Some group) = ap first_of (same group)

  lacks_member-over : (id : ℕ) (group : GroupOf P) → lacks_member id (group_over over group) ≡ lacks_member id group
  lacks_member-over id group = ap is_none (member-over id group) ∙ is_none-over (member_over over) (member_of id group)

  lacks_filter-over : (id : ℕ) (group : GroupOf P) → lacks_filter id (group_over over group) ≡ lacks_filter id group
  lacks_filter-over id group = ap (λ o. is_none (option_and_then (λ member. member.filter) o)) (member-over id group) ∙ by_member (member_of id group)
    where
      by_member : (found : Option (Member P)) → is_none (option_and_then (λ member. member.filter) (option_map (member_over over) found)) ≡ is_none (option_and_then (λ member. member.filter) found)
      by_member None = refl
      by_member (Some member) = is_none-over over member.filter

  has_locked-over : (id : ℕ) (group : GroupOf P) → has_locked id (group_over over group) ≡ has_locked id group
  has_locked-over id group = ap is_locked (member-over id group) ∙ by_member (member_of id group)
    where
      by_member : (found : Option (Member P)) → is_locked (option_map (member_over over) found) ≡ is_locked found
      by_member None = refl
      by_member (Some member) = refl

  join_causes-over : (id : ℕ) (group : GroupOf P) → join_causes id (group_over over group) ≡ join_causes id group
  join_causes-over id group =
      ap (λ b. (b, MemberExists) ∷ (nat_le MEMBER_LIMIT (length (map (member_over over) group.members)), GroupFull) ∷ []) (ap is_some (member-over id group) ∙ is_some-over (member_over over) (member_of id group))
      ∙ ap (λ n. (is_some (member_of id group), MemberExists) ∷ (nat_le MEMBER_LIMIT n, GroupFull) ∷ []) (length-map group.members (member_over over))

  clear_filter_causes-over : (id : ℕ) (group : GroupOf P) → clear_filter_causes id (group_over over group) ≡ clear_filter_causes id group
  clear_filter_causes-over id group =
      ap (λ b. (b, NoMember) ∷ (has_locked id (group_over over group), Locked) ∷ (lacks_filter id (group_over over group), NoProgram) ∷ []) (lacks_member-over id group)
      ∙ ap (λ b. (lacks_member id group, NoMember) ∷ (b, Locked) ∷ (lacks_filter id (group_over over group), NoProgram) ∷ []) (has_locked-over id group)
      ∙ ap (λ b. (lacks_member id group, NoMember) ∷ (has_locked id group, Locked) ∷ (b, NoProgram) ∷ []) (lacks_filter-over id group)

  set_filter_causes-over : (id : ℕ) (group : GroupOf P) → set_filter_causes id (group_over over group) ≡ set_filter_causes id group
  set_filter_causes-over id group =
      ap (λ b. (b, NoMember) ∷ (has_locked id (group_over over group), Locked) ∷ []) (lacks_member-over id group)
      ∙ ap (λ b. (lacks_member id group, NoMember) ∷ (b, Locked) ∷ []) (has_locked-over id group)

  member_causes-over : (id : ℕ) (group : GroupOf P) → member_causes id (group_over over group) ≡ member_causes id group
  member_causes-over id group = ap (λ b. (b, NoMember) ∷ []) (lacks_member-over id group)

  -- the first refusal of a command
  pub first_refusal-over : (command : Command P) (config : List (GroupOf P)) → first_refusal (command_over over command) (config_over over config) ≡ first_refusal command config
  first_refusal-over (AddGroup key) config =
      ap (λ b. first_of ((b, GroupExists) ∷ (nat_le GROUP_LIMIT (length (config_over over config)), TooManyGroups) ∷ [])) (ap is_some (group-over key config) ∙ is_some-over (group_over over) (group_of key config))
      ∙ ap (λ n. first_of ((is_some (group_of key config), GroupExists) ∷ (nat_le GROUP_LIMIT n, TooManyGroups) ∷ [])) (length-map config (group_over over))
  first_refusal-over (RemoveGroup key) config = in_group-over (λ group. []) (λ group. []) (λ group. refl) key config
  first_refusal-over (Join key id to) config = in_group-over (join_causes id) (join_causes id) (join_causes-over id) key config
  first_refusal-over (Leave key id) config = in_group-over (member_causes id) (member_causes id) (member_causes-over id) key config
  first_refusal-over (SetSelector key program) config = in_group-over (λ group. []) (λ group. []) (λ group. refl) key config
  first_refusal-over (ClearSelector key) config = in_group-over clear_selector_causes clear_selector_causes (λ group. ap (λ b. (b, NoProgram) ∷ []) (is_none-over over group.selector)) key config
  first_refusal-over (SetFilter key id program) config = in_group-over (set_filter_causes id) (set_filter_causes id) (set_filter_causes-over id) key config
  first_refusal-over (ClearFilter key id) config = in_group-over (clear_filter_causes id) (clear_filter_causes id) (clear_filter_causes-over id) key config
  first_refusal-over (LockFilter key id) config = in_group-over (member_causes id) (member_causes id) (member_causes-over id) key config

  pub members_of-over : (config : List (GroupOf P)) → members_of (config_over over config) ≡ members_of config
  members_of-over config = sum_by-map (group_over over) _ _ (λ group. length-map group.members (member_over over)) config

  filters-over : (members : List (Member P)) → filter_map (λ member. member.filter) (map (member_over over) members) ≡ map over (filter_map (λ member. member.filter) members)
  filters-over [] = refl
  filters-over (member ∷ members) =
      ap (cons_option (option_map over member.filter)) (filters-over members)
      ∙ cons-over over member.filter (filter_map (λ member. member.filter) members)

  programs_of_group-over : (group : GroupOf P) → programs_of_group (group_over over group) ≡ map over (programs_of_group group)
  programs_of_group-over group =
      ap (λ xs. xs ++ filter_map (λ member. member.filter) (map (member_over over) group.members)) (list-over over group.selector)
      ∙ ap (λ xs. map over (option_to_list group.selector) ++ xs) (filters-over group.members)
      ∙ sym (map-append over (option_to_list group.selector) (filter_map (λ member. member.filter) group.members))

  programs_of-over : (config : List (GroupOf P)) → programs_of (config_over over config) ≡ map over (programs_of config)
  programs_of-over [] = refl
  programs_of-over (group ∷ config) =
      ap (λ xs. xs ++ programs_of (config_over over config)) (programs_of_group-over group)
      ∙ ap (λ xs. map over (programs_of_group group) ++ xs) (programs_of-over config)
      ∙ sym (map-append over (programs_of_group group) (programs_of config))

  -- the charge
  pub charge_by-over : (f : Q → ℕ) (g : P → ℕ) → ((program : P) → f (over program) ≡ g program) → (config : List (GroupOf P)) → charge_by f (config_over over config) ≡ charge_by g config
  charge_by-over f g same config =
      ap (λ n. HEAD_WORDS + GROUP_WORDS * n + MEMBER_WORDS * members_of (config_over over config) + sum_by f (programs_of (config_over over config))) (length-map config (group_over over))
      ∙ ap (λ n. HEAD_WORDS + GROUP_WORDS * length config + MEMBER_WORDS * n + sum_by f (programs_of (config_over over config))) (members_of-over config)
      ∙ ap (λ n. HEAD_WORDS + GROUP_WORDS * length config + MEMBER_WORDS * members_of config + n) (ap (sum_by f) (programs_of-over config) ∙ sum_by-map over f g same (programs_of config))
