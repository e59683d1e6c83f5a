-- The changes name no member of an equal beginning.
use Rattle.std.proofs.Common.{◌++◌, ◌∙◌, ◌∷◌, ◌≡◌, ◌≢◌, Bool, List, None, Some, [], ap, arith, drop, false, get_or, inl, inr, map, refl, reverse, subst, suc, sym, take, true, zero, ℕ}
use Rattle.std.specs.Prelude.{if◌then◌else◌, Option, cond, flat_map, option_to_list}
use Rattle.std.specs.List.{All, filter}
use Rattle.std.proofs.lemmas.Bool.{cases_Bool}
use Rattle.std.proofs.lemmas.List.{map-append, reverse-append, take-append-drop}
use Rattle.std.proofs.lemmas.List.Elements.{filter-append}
use Rattle.ipv4_fields.specs.declared.endpoint.Endpoint.{Endpoint}
use Rattle.member_group.specs.declared.command.Command.{Command}
use Rattle.member_group.specs.declared.command.Command.TheVariants.{ClearFilter, ClearSelector, Join, Leave, LockFilter, SetFilter, SetSelector}
use Rattle.member_group.specs.declared.member.Member.{Member}
use Rattle.member_group.specs.Group.{GroupOf, group_of, has_key}
use Rattle.config_diff.specs.Rules.{rules_of_member}
use Rattle.config_diff.specs.Untouched.{LeaveEqualBeginnings, names_member}
use Rattle.config_diff.specs.body.Changes.{can_stay, changes, filter_changes, is_same_option, lock_changes, member_changes, members_changes, replaced_members, selector_changes, set_or_clear}
use Rattle.config_diff.proofs.NumberedLemmas.{AreDistinct, Lacks, apart_test, lacks_parts}
use Rattle.config_diff.proofs.ShapeLemmas.{AreShaped, IsShaped, IsShapedGroup}
use Rattle.config_diff.proofs.StepLemmas.{id_of}
use Rattle.config_diff.proofs.UntouchedLemmas.{IsReflexive, all_of_group, beginning}

-- the commands of a list that name a member
abbrev naming : {P : Type 0} → ℕ → List (Command P) → List (Command P)
naming id commands = filter (λ command. names_member id command) commands

none_of_both : {P : Type 0} (id : ℕ) (one two : List (Command P)) → naming id one ≡ [] → naming id two ≡ [] → naming id (one ++ two) ≡ []
none_of_both id one two none none_too = filter-append (λ command. names_member id command) one two ∙ ap (λ front. front ++ naming id two) none ∙ none_too

one_apart : {P : Type 0} (id : ℕ) (command : Command P) → names_member id command ≡ false → naming id (command ∷ []) ≡ []
one_apart id command apart = ap (λ b. cond b (command ∷ []) []) apart

maybe_none : {P : Type 0} (id : ℕ) (same : Bool) (commands : List (Command P)) → naming id commands ≡ [] → naming id (if same then [] else commands) ≡ []
maybe_none id true commands none = refl
maybe_none id false commands none = none

-- ---- commands on other members

module _ {P : Type 0} (key : Endpoint) (id other : ℕ) (apart : other ≢ id) where
  set_or_clear_none : (program : Option P) → naming id (set_or_clear (λ program. SetFilter key other program) (ClearFilter key other) program) ≡ []
  set_or_clear_none None = one_apart {P = P} id (ClearFilter key other) (apart_test other id apart)
  set_or_clear_none (Some p) = one_apart id (SetFilter key other p) (apart_test other id apart)

  set_none : (program : Option P) → naming id (map (λ program. SetFilter key other program) (option_to_list program)) ≡ []
  set_none None = refl
  set_none (Some p) = one_apart id (SetFilter key other p) (apart_test other id apart)

  lock_none : (locked : Bool) → naming {P = P} id (if locked then LockFilter key other ∷ [] else []) ≡ []
  lock_none true = one_apart {P = P} id (LockFilter key other) (apart_test other id apart)
  lock_none false = refl

rules_none : {P : Type 0} (key : Endpoint) (id : ℕ) (members : List (Member P)) → Lacks id_of id members → naming id (flat_map (λ member. rules_of_member key member) members) ≡ []
rules_none key id [] lacks = refl
rules_none {P} key id (member ∷ members) lacks =
    let rest : List (Command P) = map (λ program. SetFilter key member.id program) (option_to_list member.filter) ++ (if member.locked then LockFilter key member.id ∷ [] else []) in
    none_of_both id (rules_of_member key member) (flat_map (λ member. rules_of_member key member) members)
    (none_of_both id (Join key member.id member.to ∷ []) rest (one_apart {P = P} id (Join key member.id member.to) (apart_test member.id id lacks.0))
    (none_of_both id (map (λ program. SetFilter key member.id program) (option_to_list member.filter)) (if member.locked then LockFilter key member.id ∷ [] else [])
    (set_none key id member.id lacks.0 member.filter) (lock_none {P = P} key id member.id lacks.0 member.locked)))
    (rules_none key id members lacks.1)

abbrev leave_of : {P : Type 0} → Endpoint → Member P → Command P
leave_of key member = Leave key member.id

leaves_none : {P : Type 0} (key : Endpoint) (id : ℕ) (members : List (Member P)) → Lacks id_of id members → naming {P = P} id (map (λ member. Leave key member.id) (reverse members)) ≡ []
leaves_none key id [] lacks = refl
leaves_none {P} key id (member ∷ members) lacks =
    ap (λ back. naming {P = P} id (map (λ member. Leave key member.id) back)) (reverse-append (member ∷ []) members)
    ∙ ap (naming id) (map-append (leave_of {P = P} key) (reverse members) (member ∷ []))
    ∙ none_of_both id (map (λ member. Leave key member.id) (reverse members)) (Leave key member.id ∷ []) (leaves_none key id members lacks.1) (one_apart {P = P} id (Leave key member.id) (apart_test member.id id lacks.0))

members_none : {P : Type 0} (same : P → P → Bool) (key : Endpoint) (id : ℕ) (from to : List (Member P)) → Lacks id_of id from → Lacks id_of id to → naming id (members_changes same key from to) ≡ []
members_none {P} same key id from to lacks lacks_to = by_members from to lacks lacks_to
  where
    replaced_none : (from to : List (Member P)) → Lacks id_of id from → Lacks id_of id to → naming id (replaced_members key from to) ≡ []
    replaced_none from to lacks lacks_to =
        none_of_both id (map (λ member. Leave key member.id) (reverse from)) (flat_map (λ member. rules_of_member key member) to) (leaves_none key id from lacks) (rules_none key id to lacks_to)

    by_members : (from to : List (Member P)) → Lacks id_of id from → Lacks id_of id to → naming id (members_changes same key from to) ≡ []
    by_members [] to lacks lacks_to = replaced_none [] to lacks lacks_to
    by_members (one ∷ from) [] lacks lacks_to = replaced_none (one ∷ from) [] lacks lacks_to
    by_members (one ∷ from) (other ∷ to) lacks lacks_to = elim (cases_Bool (can_stay same one other)) [
      | inl can ↦ rw can (none_of_both id (member_changes same key one other) (members_changes same key from to)
          (none_of_both id (filter_changes same key one.id one.filter other.filter) (lock_changes key one.id one.locked other.locked)
          (maybe_none id (is_same_option same one.filter other.filter) _ (set_or_clear_none key id one.id lacks.0 other.filter))
          (maybe_none id one.locked _ (lock_none {P = P} key id one.id lacks.0 other.locked)))
          (by_members from to lacks.1 lacks_to.1))
      | inr cannot ↦ rw cannot (replaced_none (one ∷ from) (other ∷ to) lacks lacks_to)
    ]

selector_none : {P : Type 0} (same : P → P → Bool) (key : Endpoint) (id : ℕ) (one other : Option P) → naming id (selector_changes same key one other) ≡ []
selector_none {P} same key id one other = maybe_none id (is_same_option same one other) (set_or_clear (λ program. SetSelector key program) (ClearSelector key) other) (by_program other)
  where
    by_program : (program : Option P) → naming id (set_or_clear (λ program. SetSelector key program) (ClearSelector key) program) ≡ []
    by_program None = refl
    by_program (Some p) = refl

-- ---- the members of a beginning are not among the rest

beginning_apart : {P : Type 0} (front back : List (Member P)) → AreDistinct id_of (front ++ back) → All (λ member. Lacks id_of member.id back) front
beginning_apart [] back distinct k d below = absurd (omega arith)
beginning_apart (member ∷ front) back distinct zero d below = (lacks_parts id_of member.id front back distinct.0).1
beginning_apart (member ∷ front) back distinct (suc k) d below = beginning_apart front back distinct.1 k d (omega arith)

group_shaped : {P : Type 0} (key : Endpoint) (config : List (GroupOf P)) (group : GroupOf P) → AreShaped config → group_of key config ≡ Some group → IsShapedGroup group
group_shaped key [] group shaped found = cc
group_shaped {P} key (one ∷ config) group shaped found = elim (cases_Bool (has_key key one)) [
  | inl here ↦
      let is : ◌≡◌ {A = Option (GroupOf P)} (Some one) (Some group) = rw here at found in
      let same : one ≡ group = cc in
      subst IsShapedGroup same shaped.0
  | inr elsewhere ↦ group_shaped key config group shaped.1 (rw elsewhere at found)
]

module _ {P : Type 0} (same : P → P → Bool) (reflexive : IsReflexive same) where
  pub equal_beginnings : (from to : List (GroupOf P)) → IsShaped from → IsShaped to → LeaveEqualBeginnings (changes same from to) from to
  equal_beginnings from to shaped shaped_to key one other count found found_to equal k d below =
      let front : List (Member P) = take count one.members in
      let back : List (Member P) = drop count one.members in
      let back_to : List (Member P) = drop count other.members in
      let parts : front ++ back ≡ one.members = take-append-drop count one.members in
      let parts_to : front ++ back_to ≡ other.members = ap (λ it. it ++ back_to) equal ∙ take-append-drop count other.members in
      let distinct : AreDistinct id_of (front ++ back) = subst (AreDistinct id_of) (sym parts) (group_shaped key from one shaped.groups found).distinct in
      let distinct_to : AreDistinct id_of (front ++ back_to) = subst (AreDistinct id_of) (sym parts_to) (group_shaped key to other shaped_to.groups found_to).distinct in
      let id : ℕ = (get_or front k d).id in
      let rest : members_changes same other.key one.members other.members ≡ members_changes same other.key back back_to =
      ap (λ members. members_changes same other.key members other.members) (sym parts)
      ∙ ap (members_changes same other.key (front ++ back)) (sym parts_to)
      ∙ beginning same reflexive other.key front back back_to in
      ap (naming id) (all_of_group same from to shaped shaped_to key one other found found_to)
      ∙ none_of_both id (selector_changes same other.key one.selector other.selector) (members_changes same other.key one.members other.members)
      (selector_none same other.key id one.selector other.selector)
      (ap (naming id) rest ∙ members_none same other.key id back back_to (beginning_apart front back distinct k d below) (beginning_apart front back_to distinct_to k d below))
