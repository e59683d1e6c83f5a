-- The first refusal of a command (docs/SWITCH.md, "Groups, members, commands and refusals").
use Rattle.std.specs.Prelude.{◌≡◌, ◌∷◌, if◌then◌else◌, Bool, Err, List, MatchResult, None, Option, Result, Some, [], false, is_none, is_some, length, nat_le, ℕ}
use Rattle.std.specs.Option.{option_and_then}
use Rattle.member_group.specs.declared.TheConstants.{GROUP_LIMIT, MEMBER_LIMIT}
use Rattle.member_group.specs.declared.command.Command.{Command}
use Rattle.member_group.specs.declared.command.Command.TheVariants.{AddGroup, ClearFilter, ClearSelector, Join, Leave, LockFilter, RemoveGroup, SetFilter, SetSelector}
use Rattle.member_group.specs.declared.refusal.Refusal.{Refusal}
use Rattle.member_group.specs.declared.refusal.Refusal.TheVariants.{GroupExists, GroupFull, Locked, MemberExists, NoGroup, NoMember, NoProgram, OutOfMemory, TooManyGroups}
use Rattle.member_group.specs.declared.member.Member.{Member}
use Rattle.member_group.specs.Group.{GroupOf, group_of, member_of}

-- in a table of causes and refusals, the first refusal whose cause is true
abbrev pub first_of : List (Bool × Refusal) → Option Refusal
first_of [] = None
first_of ((holds, refusal) ∷ rest) = if holds then Some refusal else first_of rest

-- the first refusal of a command on a group: there is no group, or the first cause in the group
abbrev pub in_group : {P : Type 0} → (GroupOf P → List (Bool × Refusal)) → Option (GroupOf P) → Option Refusal
in_group causes None = Some NoGroup
in_group causes (Some group) = first_of (causes group)

-- there is no member of a number
abbrev pub lacks_member : {P : Type 0} → ℕ → GroupOf P → Bool
lacks_member id group = is_none (member_of id group)

-- the member of a number has no filter
abbrev pub lacks_filter : {P : Type 0} → ℕ → GroupOf P → Bool
lacks_filter id group = is_none (option_and_then (λ member. member.filter) (member_of id group))

-- the member of a number is locked
abbrev pub is_locked : {P : Type 0} → Option (Member P) → Bool
is_locked None = false
is_locked (Some member) = member.locked

abbrev pub has_locked : {P : Type 0} → ℕ → GroupOf P → Bool
has_locked id group = is_locked (member_of id group)

-- the causes in a group, command by command
abbrev pub join_causes : {P : Type 0} → ℕ → GroupOf P → List (Bool × Refusal)
join_causes id group = (is_some (member_of id group), MemberExists) ∷ (nat_le MEMBER_LIMIT (length group.members), GroupFull) ∷ []

abbrev pub member_causes : {P : Type 0} → ℕ → GroupOf P → List (Bool × Refusal)
member_causes id group = (lacks_member id group, NoMember) ∷ []

abbrev pub clear_selector_causes : {P : Type 0} → GroupOf P → List (Bool × Refusal)
clear_selector_causes group = (is_none group.selector, NoProgram) ∷ []

abbrev pub set_filter_causes : {P : Type 0} → ℕ → GroupOf P → List (Bool × Refusal)
set_filter_causes id group = (lacks_member id group, NoMember) ∷ (has_locked id group, Locked) ∷ []

abbrev pub clear_filter_causes : {P : Type 0} → ℕ → GroupOf P → List (Bool × Refusal)
clear_filter_causes id group = (lacks_member id group, NoMember) ∷ (has_locked id group, Locked) ∷ (lacks_filter id group, NoProgram) ∷ []

-- the table of refusals, in their order for each command; none if the command is applied
abbrev pub first_refusal : {P : Type 0} → Command P → List (GroupOf P) → Option Refusal
first_refusal (AddGroup key) config =
    first_of ((is_some (group_of key config), GroupExists) ∷ (nat_le GROUP_LIMIT (length config), TooManyGroups) ∷ [])
first_refusal (RemoveGroup key) config = in_group (λ group. []) (group_of key config)
first_refusal (Join key member to) config = in_group (join_causes member) (group_of key config)
first_refusal (Leave key member) config = in_group (member_causes member) (group_of key config)
first_refusal (SetSelector key program) config = in_group (λ group. []) (group_of key config)
first_refusal (ClearSelector key) config = in_group clear_selector_causes (group_of key config)
first_refusal (SetFilter key member program) config = in_group (set_filter_causes member) (group_of key config)
first_refusal (ClearFilter key member) config = in_group (clear_filter_causes member) (group_of key config)
first_refusal (LockFilter key member) config = in_group (member_causes member) (group_of key config)

-- the result of a command whose first refusal and whose value are given: lack of memory comes after all refusals
abbrev pub IsAnswer : {V : Type 0} → Option Refusal → V → Result V Refusal → Type 0
IsAnswer (Some refusal) value result = result ≡ Err refusal
IsAnswer None value result = MatchResult result (λ answer. answer ≡ value) (λ refusal. refusal ≡ OutOfMemory)
