-- A configuration as a finite map from keys to groups: the effect of a command on the map at its key.
use Rattle.std.specs.Prelude.{◌≡◌, ◌≢◌, List, None, Option, Some, []}
use Rattle.std.specs.Option.{option_map}
use Rattle.bpf_verify.specs.Program.{ProgramValue}
use Rattle.ipv4_fields.specs.declared.endpoint.Endpoint.{Endpoint}
use Rattle.ipv4_fields.specs.Endpoint.{endpoint_number}
use Rattle.member_group.specs.declared.command.Command.{Command}
use Rattle.member_group.specs.declared.command.Command.TheVariants.{AddGroup, ClearFilter, ClearSelector, Join, Leave, LockFilter, RemoveGroup, SetFilter, SetSelector}
use Rattle.member_group.specs.Command.{after, joined, left, locked, with_filter, with_selector}
use Rattle.member_group.specs.Group.{GroupOf, IsConfig, group_of}

-- the key that a command names
abbrev pub key_of : {P : Type 0} → Command P → Endpoint
key_of (AddGroup key) = key
key_of (RemoveGroup key) = key
key_of (Join key member to) = key
key_of (Leave key member) = key
key_of (SetSelector key program) = key
key_of (ClearSelector key) = key
key_of (SetFilter key member program) = key
key_of (ClearFilter key member) = key
key_of (LockFilter key member) = key

-- the group after a command, from the group that the map has at the command's key
abbrev pub group_after : {P : Type 0} → Command P → Option (GroupOf P) → Option (GroupOf P)
group_after (AddGroup key) found = Some (record { key = key; selector = None; members = [] })
group_after (RemoveGroup key) found = None
group_after (Join key member to) found = option_map (joined member to) found
group_after (Leave key member) found = option_map (left member) found
group_after (SetSelector key program) found = option_map (with_selector (Some program)) found
group_after (ClearSelector key) found = option_map (with_selector None) found
group_after (SetFilter key member program) found = option_map (with_filter member (Some program)) found
group_after (ClearFilter key member) found = option_map (with_filter member None) found
group_after (LockFilter key member) found = option_map (locked member) found

-- at its key a command leaves the group of `group_after`
abbrev pub ChangesTheMapAtItsKey : Type 0
ChangesTheMapAtItsKey =
    (command : Command ProgramValue) (config : List (GroupOf ProgramValue)) →
    group_of (key_of command) (after command config) ≡ group_after command (group_of (key_of command) config)

-- a command keeps the groups at all other keys
abbrev pub KeepsTheMapElsewhere : Type 0
KeepsTheMapElsewhere =
    (command : Command ProgramValue) (config : List (GroupOf ProgramValue)) (other : Endpoint) →
    endpoint_number other ≢ endpoint_number (key_of command) →
    group_of other (after command config) ≡ group_of other config

-- two lists of groups that are one map are one list
abbrev pub IsOneListAMap : Type 0
IsOneListAMap =
    (config other : List (GroupOf ProgramValue)) → IsConfig config → IsConfig other →
    ((key : Endpoint) → group_of key config ≡ group_of key other) → config ≡ other
