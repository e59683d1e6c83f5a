-- The changes leave equal groups and equal beginnings of members untouched.
use Rattle.std.proofs.Common.{◌++◌, ◌∙◌, ◌∷◌, ◌≡◌, ◌≢◌, Bool, List, None, Some, [], ap, append-nil, eqb-true, false, inl, inr, map, refl, reverse, subst, sym, true, ℕ}
use Rattle.std.specs.Prelude.{◌==◌, ◌&&◌, ◌||◌, not, if◌then◌else◌, Option, cond, flat_map, is_some, option_to_list}
use Rattle.std.specs.List.{filter}
use Rattle.std.proofs.lemmas.Bool.{cases_Bool, eq-eqb, true≢false}
use Rattle.std.proofs.lemmas.List.Elements.{filter-append}
use Rattle.ipv4_fields.specs.declared.endpoint.Endpoint.{Endpoint}
use Rattle.ipv4_fields.specs.Endpoint.{endpoint_number}
use Rattle.member_group.specs.declared.command.Command.{Command}
use Rattle.member_group.specs.declared.command.Command.TheVariants.{ClearFilter, ClearSelector, Leave, LockFilter, RemoveGroup, SetFilter, SetSelector}
use Rattle.member_group.specs.declared.member.Member.{Member}
use Rattle.member_group.specs.Group.{GroupOf, group_of}
use Rattle.member_group.specs.Map.{key_of}
use Rattle.config_diff.specs.Rules.{rules_of_member}
use Rattle.config_diff.specs.Untouched.{LeaveEqualGroups, commands_at}
use Rattle.config_diff.specs.body.Changes.{can_stay, changes, filter_changes, group_changes, is_same_endpoint, is_same_option, lock_changes, member_changes, members_changes, removal, replaced_members, selector_changes, set_or_clear}
use Rattle.config_diff.proofs.ChangesLemmas.{found_by_number}
use Rattle.config_diff.proofs.NumberedLemmas.{AreDistinct, Lacks, apart_test, find_nothing, rising_distinct}
use Rattle.config_diff.proofs.ShapeLemmas.{IsShaped}
use Rattle.config_diff.proofs.StepLemmas.{key_number}

-- ---- the keys that commands name

-- each command names the key of a number
abbrev AllAt : {P : Type 0} → ℕ → List (Command P) → Type 0
AllAt n [] = Unit {0}
AllAt n (command ∷ commands) = (endpoint_number (key_of command) ≡ n) × AllAt n commands

all_at_both : {P : Type 0} (n : ℕ) (one two : List (Command P)) → AllAt n one → AllAt n two → AllAt n (one ++ two)
all_at_both n [] two first second = second
all_at_both n (command ∷ one) two first second = (first.0, all_at_both n one two first.1 second)

here_all : {P : Type 0} (key : Endpoint) (commands : List (Command P)) → AllAt (endpoint_number key) commands → commands_at key commands ≡ commands
here_all key [] all = refl
here_all key (command ∷ commands) all =
    ap (λ b. cond b (command ∷ commands_at key commands) (commands_at key commands)) (eq-eqb (endpoint_number (key_of command)) (endpoint_number key) all.0)
    ∙ ap (λ rest. command ∷ rest) (here_all key commands all.1)

here_none : {P : Type 0} (key : Endpoint) (n : ℕ) (commands : List (Command P)) → n ≢ endpoint_number key → AllAt n commands → commands_at key commands ≡ []
here_none key n [] apart all = refl
here_none key n (command ∷ commands) apart all =
    ap (λ b. cond b (command ∷ commands_at key commands) (commands_at key commands)) (apart_test (endpoint_number (key_of command)) (endpoint_number key) (λ same. apart (sym all.0 ∙ same)))
    ∙ here_none key n commands apart all.1

-- of commands made for each group at the group's key, those at a key are made for the group there
commands_for : {P : Type 0} (key : Endpoint) (f : GroupOf P → List (Command P)) → ((group : GroupOf P) → AllAt (key_number group) (f group)) → (groups : List (GroupOf P)) → AreDistinct key_number groups →
    commands_at key (flat_map f groups) ≡ flat_map f (option_to_list (group_of key groups))
commands_for key f at [] distinct = refl
commands_for key f at (group ∷ groups) distinct =
    filter-append (λ command. endpoint_number (key_of command) == endpoint_number key) (f group) (flat_map f groups)
    ∙ elim (cases_Bool (key_number group == endpoint_number key)) [
      | inl here ↦
          let same : key_number group ≡ endpoint_number key = eqb-true _ _ here in
          let nothing : group_of key groups ≡ None = find_nothing key_number (endpoint_number key) groups (subst (λ n. Lacks key_number n groups) same distinct.0) in
          ap (λ front. front ++ commands_at key (flat_map f groups)) (here_all key (f group) (subst (λ n. AllAt n (f group)) same (at group)))
          ∙ ap (λ rest. f group ++ rest) (commands_for key f at groups distinct.1 ∙ ap (λ found. flat_map f (option_to_list found)) nothing)
          ∙ sym (ap (λ b. flat_map f (option_to_list (cond b (Some group) (group_of key groups)))) here)
      | inr elsewhere ↦
          let apart : key_number group ≢ endpoint_number key = λ same. true≢false (sym (eq-eqb _ _ same) ∙ elsewhere) in
          ap (λ front. front ++ commands_at key (flat_map f groups)) (here_none key (key_number group) (f group) apart (at group))
          ∙ commands_for key f at groups distinct.1
          ∙ sym (ap (λ b. flat_map f (option_to_list (cond b (Some group) (group_of key groups)))) elsewhere)
    ]

-- ---- the changes of a group name its key

set_or_clear_at : {P : Type 0} (n : ℕ) (set : P → Command P) (clear : Command P) (program : Option P) → ((p : P) → endpoint_number (key_of (set p)) ≡ n) → endpoint_number (key_of clear) ≡ n → AllAt n (set_or_clear set clear program)
set_or_clear_at n set clear None at_set at_clear = (at_clear, tt)
set_or_clear_at n set clear (Some p) at_set at_clear = (at_set p, tt)

maybe_at : {P : Type 0} (n : ℕ) (same : Bool) (commands : List (Command P)) → AllAt n commands → AllAt n (if same then [] else commands)
maybe_at n true commands all = tt
maybe_at n false commands all = all

set_at : {P : Type 0} (n : ℕ) (set : P → Command P) (program : Option P) → ((p : P) → endpoint_number (key_of (set p)) ≡ n) → AllAt n (map set (option_to_list program))
set_at n set None at = tt
set_at n set (Some p) at = (at p, tt)

lock_at : (P : Type 0) (key : Endpoint) (id : ℕ) (locked : Bool) → AllAt {P = P} (endpoint_number key) (if locked then LockFilter key id ∷ [] else [])
lock_at P key id true = (refl, tt)
lock_at P key id false = tt

rules_at : {P : Type 0} (key : Endpoint) (members : List (Member P)) → AllAt (endpoint_number key) (flat_map (λ member. rules_of_member key member) members)
rules_at key [] = tt
rules_at {P} key (member ∷ members) =
    all_at_both (endpoint_number key) (rules_of_member key member) (flat_map (λ member. rules_of_member key member) members) (
      refl,
      all_at_both (endpoint_number key) (map (λ program. SetFilter key member.id program) (option_to_list member.filter)) (if member.locked then LockFilter key member.id ∷ [] else [])
          (set_at (endpoint_number key) (λ program. SetFilter key member.id program) member.filter (λ p. refl)) (lock_at P key member.id member.locked),
    )
    (rules_at key members)

leaves_at : {P : Type 0} (key : Endpoint) (members : List (Member P)) → AllAt {P = P} (endpoint_number key) (map (λ member. Leave key member.id) members)
leaves_at key [] = tt
leaves_at key (member ∷ members) = (refl, leaves_at key members)

replaced_at : {P : Type 0} (key : Endpoint) (from to : List (Member P)) → AllAt (endpoint_number key) (replaced_members key from to)
replaced_at key from to = all_at_both (endpoint_number key) (map (λ member. Leave key member.id) (reverse from)) (flat_map (λ member. rules_of_member key member) to) (leaves_at key (reverse from)) (rules_at key to)

member_at : {P : Type 0} (same : P → P → Bool) (key : Endpoint) (one other : Member P) → AllAt (endpoint_number key) (member_changes same key one other)
member_at {P} same key one other =
    all_at_both (endpoint_number key) (filter_changes same key one.id one.filter other.filter) (lock_changes key one.id one.locked other.locked)
    (maybe_at (endpoint_number key) (is_same_option same one.filter other.filter) _
    (set_or_clear_at (endpoint_number key) (λ program. SetFilter key one.id program) (ClearFilter key one.id) other.filter (λ p. refl) refl))
    (maybe_at (endpoint_number key) one.locked _ (lock_at P key one.id other.locked))

members_at : {P : Type 0} (same : P → P → Bool) (key : Endpoint) (from to : List (Member P)) → AllAt (endpoint_number key) (members_changes same key from to)
members_at same key [] to = replaced_at key [] to
members_at same key (one ∷ from) [] = replaced_at key (one ∷ from) []
members_at same key (one ∷ from) (other ∷ to) = elim (cases_Bool (can_stay same one other)) [
  | inl can ↦ rw can (all_at_both (endpoint_number key) (member_changes same key one other) (members_changes same key from to) (member_at same key one other) (members_at same key from to))
  | inr cannot ↦ rw cannot (replaced_at key (one ∷ from) (other ∷ to))
]

group_at : {P : Type 0} (same : P → P → Bool) (found : Option (GroupOf P)) (group : GroupOf P) → AllAt (key_number group) (group_changes same found group)
group_at same None group = (
  refl,
  all_at_both (key_number group) (map (λ program. SetSelector group.key program) (option_to_list group.selector)) (flat_map (λ member. rules_of_member group.key member) group.members)
      (set_at (key_number group) (λ program. SetSelector group.key program) group.selector (λ p. refl)) (rules_at group.key group.members),
)
group_at same (Some one) group =
    all_at_both (key_number group) (selector_changes same group.key one.selector group.selector) (members_changes same group.key one.members group.members)
    (maybe_at (key_number group) (is_same_option same one.selector group.selector) _
    (set_or_clear_at (key_number group) (λ program. SetSelector group.key program) (ClearSelector group.key) group.selector (λ p. refl) refl))
    (members_at same group.key one.members group.members)

removal_at : {P : Type 0} (to : List (GroupOf P)) (group : GroupOf P) → AllAt (key_number group) (removal to group)
removal_at to group = maybe_at (key_number group) (is_some (group_of group.key to)) (RemoveGroup group.key ∷ []) (refl, tt)

found_number : {P : Type 0} (key : Endpoint) (config : List (GroupOf P)) (group : GroupOf P) → group_of key config ≡ Some group → key_number group ≡ endpoint_number key
found_number key [] group found = cc
found_number key (one ∷ config) group found = elim (cases_Bool (key_number one == endpoint_number key)) [
  | inl here ↦
      let is : ◌≡◌ {A = Option _} (Some one) (Some group) = rw here at found in
      let same : one ≡ group = cc in
      sym (ap key_number same) ∙ eqb-true _ _ here
  | inr elsewhere ↦ found_number key config group (rw elsewhere at found)
]

-- ---- equal groups

module _ {P : Type 0} (same : P → P → Bool) (from to : List (GroupOf P)) (shaped : IsShaped from) (shaped_to : IsShaped to) where
  all_at_key : (key : Endpoint) → commands_at key (changes same from to) ≡
      flat_map (λ group. removal to group) (option_to_list (group_of key from)) ++ flat_map (λ group. group_changes same (group_of group.key from) group) (option_to_list (group_of key to))
  all_at_key key =
      filter-append (λ command. endpoint_number (key_of command) == endpoint_number key) (flat_map (λ group. removal to group) from) (flat_map (λ group. group_changes same (group_of group.key from) group) to)
      ∙ ap (λ front. front ++ commands_at key (flat_map (λ group. group_changes same (group_of group.key from) group) to))
      (commands_for key (λ group. removal to group) (removal_at to) from (rising_distinct key_number from shaped.rising))
      ∙ ap (λ rest. flat_map (λ group. removal to group) (option_to_list (group_of key from)) ++ rest)
      (commands_for key (λ group. group_changes same (group_of group.key from) group) (λ group. group_at same (group_of group.key from) group) to (rising_distinct key_number to shaped_to.rising))

  pub all_of_group : (key : Endpoint) (one other : GroupOf P) → group_of key from ≡ Some one → group_of key to ≡ Some other → commands_at key (changes same from to) ≡ group_changes same (Some one) other
  all_of_group key one other found found_to =
      let wanted : group_of one.key to ≡ Some other = found_by_number one.key key to (found_number key from one found) ∙ found_to in
      let there : group_of other.key from ≡ Some one = found_by_number other.key key from (found_number key to other found_to) ∙ found in
      all_at_key key
      ∙ ap (λ o. flat_map (λ group. removal to group) (option_to_list o) ++ flat_map (λ group. group_changes same (group_of group.key from) group) (option_to_list (group_of key to))) found
      ∙ ap (λ o. ((if is_some o then [] else RemoveGroup one.key ∷ []) ++ []) ++ flat_map (λ group. group_changes same (group_of group.key from) group) (option_to_list (group_of key to))) wanted
      ∙ ap (λ o. flat_map (λ group. group_changes same (group_of group.key from) group) (option_to_list o)) found_to
      ∙ append-nil (group_changes same (group_of other.key from) other)
      ∙ ap (λ o. group_changes same o other) there

-- the test answers yes of a program and itself
abbrev pub IsReflexive : {P : Type 0} → (P → P → Bool) → Type 0
IsReflexive {P} same = (p : P) → same p p ≡ true

module _ {P : Type 0} (same : P → P → Bool) (reflexive : IsReflexive same) where
  option_itself : (program : Option P) → is_same_option same program program ≡ true
  option_itself None = refl
  option_itself (Some p) = reflexive p

  no_lock_changes : (key : Endpoint) (id : ℕ) (locked : Bool) → lock_changes {P = P} key id locked locked ≡ []
  no_lock_changes key id true = refl
  no_lock_changes key id false = refl

  endpoint_itself : (key : Endpoint) → is_same_endpoint key key ≡ true
  endpoint_itself key = rw (eq-eqb key.address key.address refl) (eq-eqb key.port key.port refl)

  stays_itself : (locked : Bool) (filter : Option P) → (not locked || (locked && is_same_option same filter filter)) ≡ true
  stays_itself true filter = option_itself filter
  stays_itself false filter = refl

  can_stay_itself : (member : Member P) → can_stay same member member ≡ true
  can_stay_itself member =
      rw (eq-eqb member.id member.id refl, endpoint_itself member.to) (stays_itself member.locked member.filter)

  no_member_changes : (key : Endpoint) (member : Member P) → member_changes same key member member ≡ []
  no_member_changes key member =
      ap (λ b. (if b then [] else set_or_clear (λ program. SetFilter key member.id program) (ClearFilter key member.id) member.filter) ++ lock_changes key member.id member.locked member.locked) (option_itself member.filter)
      ∙ no_lock_changes key member.id member.locked

  -- an equal beginning has no command
  pub beginning : (key : Endpoint) (front from to : List (Member P)) → members_changes same key (front ++ from) (front ++ to) ≡ members_changes same key from to
  beginning key [] from to = refl
  beginning key (member ∷ front) from to =
      ap (λ b. if b then member_changes same key member member ++ members_changes same key (front ++ from) (front ++ to) else replaced_members key (member ∷ front ++ from) (member ∷ front ++ to)) (can_stay_itself member)
      ∙ ap (λ commands. commands ++ members_changes same key (front ++ from) (front ++ to)) (no_member_changes key member)
      ∙ beginning key front from to

  no_group_changes : (group : GroupOf P) → group_changes same (Some group) group ≡ []
  no_group_changes group =
      ap (λ b. (if b then [] else set_or_clear (λ program. SetSelector group.key program) (ClearSelector group.key) group.selector) ++ members_changes same group.key group.members group.members) (option_itself group.selector)
      ∙ sym (ap (λ members. members_changes same group.key members members) (append-nil group.members))
      ∙ beginning group.key group.members [] []

  pub equal_groups : (from to : List (GroupOf P)) → IsShaped from → IsShaped to → LeaveEqualGroups (changes same from to) from to
  equal_groups from to shaped shaped_to key equal = by_group (group_of key to) refl
    where
      by_group : (found : Option (GroupOf P)) → group_of key to ≡ found → commands_at key (changes same from to) ≡ []
      by_group None none = all_at_key same from to shaped shaped_to key ∙ rw (equal ∙ none, none) refl
      by_group (Some group) found = all_of_group same from to shaped shaped_to key group group (equal ∙ found) found ∙ no_group_changes group

  empty_everywhere : (commands : List (Command P)) → ((key : Endpoint) → commands_at key commands ≡ []) → commands ≡ []
  empty_everywhere [] none = refl
  empty_everywhere (command ∷ commands) none =
      let first : command ∷ commands_at (key_of command) commands ≡ [] =
      sym (ap (λ b. cond b (command ∷ commands_at (key_of command) commands) (commands_at (key_of command) commands)) (eq-eqb (endpoint_number (key_of command)) (endpoint_number (key_of command)) refl))
      ∙ none (key_of command) in
      cc

  pub nothing_of_equal : (from to : List (GroupOf P)) → IsShaped from → IsShaped to → from ≡ to → changes same from to ≡ []
  nothing_of_equal from to shaped shaped_to equal =
      empty_everywhere (changes same from to) (λ key. equal_groups from to shaped shaped_to key (ap (group_of key) equal))
