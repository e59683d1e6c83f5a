-- The groups and members that commands leave untouched: groups that no command names, and members that none names.
use Rattle.std.specs.Prelude.{◌==◌, ◌≡◌, All, Bool, List, Some, [], false, filter, take, ℕ}
use Rattle.ipv4_fields.specs.declared.endpoint.Endpoint.{Endpoint}
use Rattle.ipv4_fields.specs.Endpoint.{endpoint_number}
use Rattle.member_group.specs.declared.command.Command.{Command}
use Rattle.member_group.specs.declared.command.Command.TheVariants.{AddGroup, ClearFilter, ClearSelector, Join, Leave, LockFilter, RemoveGroup, SetFilter, SetSelector}
use Rattle.member_group.specs.Group.{GroupOf, group_of}
use Rattle.member_group.specs.Map.{key_of}

-- the commands of a list that name a key
abbrev pub commands_at : {P : Type 0} → Endpoint → List (Command P) → List (Command P)
commands_at key commands = filter (λ command. endpoint_number (key_of command) == endpoint_number key) commands

-- a command names the member of a number
abbrev pub names_member : {P : Type 0} → ℕ → Command P → Bool
names_member id (AddGroup key) = false
names_member id (RemoveGroup key) = false
names_member id (Join key member to) = member == id
names_member id (Leave key member) = member == id
names_member id (SetSelector key program) = false
names_member id (ClearSelector key) = false
names_member id (SetFilter key member program) = member == id
names_member id (ClearFilter key member) = member == id
names_member id (LockFilter key member) = member == id

-- the commands of a list that name a member of the group at a key
abbrev pub commands_on : {P : Type 0} → Endpoint → ℕ → List (Command P) → List (Command P)
commands_on key id commands = filter (λ command. names_member id command) (commands_at key commands)

-- no command names a key at which both configurations have the same group, or none
abbrev pub LeaveEqualGroups : {P : Type 0} → List (Command P) → List (GroupOf P) → List (GroupOf P) → Type 0
LeaveEqualGroups commands from to = (key : Endpoint) → group_of key from ≡ group_of key to → commands_at key commands ≡ []

-- if the first members of two groups at a key are the same, no command names one of these members
abbrev pub LeaveEqualBeginnings : {P : Type 0} → List (Command P) → List (GroupOf P) → List (GroupOf P) → Type 0
LeaveEqualBeginnings {P} commands from to =
    (key : Endpoint) (one other : GroupOf P) (count : ℕ) → group_of key from ≡ Some one → group_of key to ≡ Some other →
    take count one.members ≡ take count other.members →
    All (λ member. commands_on key member.id commands ≡ []) (take count one.members)
