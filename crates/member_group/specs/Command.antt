-- The configuration after a command (docs/SWITCH.md, "Groups, members, commands and refusals").
use Rattle.std.specs.Prelude.{◌∷◌, ◌++◌, ◌-◌, if◌then◌else◌, List, None, Option, Some, [], false, length, map, nat_lt, not, slice_index_or, take, true, ℕ}
use Rattle.std.specs.List.{filter}
use Rattle.ipv4_fields.specs.declared.endpoint.Endpoint.{Endpoint}
use Rattle.ipv4_fields.specs.Endpoint.{endpoint_number}
use Rattle.member_group.specs.declared.command.Command.{Command}
use Rattle.member_group.specs.declared.command.Command.TheVariants.{AddGroup, ClearFilter, ClearSelector, Join, Leave, LockFilter, RemoveGroup, SetFilter, SetSelector}
use Rattle.member_group.specs.declared.member.Member.{Member}
use Rattle.member_group.specs.Group.{GroupOf, has_id, has_key}

-- the groups below a key, a group without members at the key, and the groups above it
abbrev pub with_group : {P : Type 0} → Endpoint → List (GroupOf P) → List (GroupOf P)
with_group key config =
    filter (λ group. nat_lt (endpoint_number group.key) (endpoint_number key)) config
    ++ record { key = key; selector = None; members = [] }
    ∷ filter (λ group. nat_lt (endpoint_number key) (endpoint_number group.key)) config

-- every group but the one at a key
abbrev pub without_group : {P : Type 0} → Endpoint → List (GroupOf P) → List (GroupOf P)
without_group key config = filter (λ group. not (has_key key group)) config

-- the group at a key is changed, and every other stays
abbrev pub with_changed : {P : Type 0} → Endpoint → (GroupOf P → GroupOf P) → List (GroupOf P) → List (GroupOf P)
with_changed key change config = map (λ group. if has_key key group then change group else group) config

-- one member more, the last, without a filter and not locked
abbrev pub joined : {P : Type 0} → ℕ → Endpoint → GroupOf P → GroupOf P
joined id to group = record group { members = group.members ++ record { id = id; to = to; filter = None; locked = false } ∷ [] }

-- the last member takes the place of the one that leaves
abbrev pub left : {P : Type 0} → ℕ → GroupOf P → GroupOf P
left id group =
    let last = length group.members - 1 in
    record group { members = map (λ member. if has_id id member then slice_index_or group.members last member else member) (take last group.members) }

-- another selector, or none
abbrev pub with_selector : {P : Type 0} → Option P → GroupOf P → GroupOf P
with_selector selector group = record group { selector = selector }

-- the member of a number is changed, and every other stays
abbrev pub with_member : {P : Type 0} → ℕ → (Member P → Member P) → GroupOf P → GroupOf P
with_member id change group = record group { members = map (λ member. if has_id id member then change member else member) group.members }

-- it has another filter, or none
abbrev pub with_filter : {P : Type 0} → ℕ → Option P → GroupOf P → GroupOf P
with_filter id filter group = with_member id (λ member. record member { filter = filter }) group

-- it is locked, with the filter that it has, or without one
abbrev pub locked : {P : Type 0} → ℕ → GroupOf P → GroupOf P
locked id group = with_member id (λ member. record member { locked = true }) group

-- the configuration after a command that is not refused
abbrev pub after : {P : Type 0} → Command P → List (GroupOf P) → List (GroupOf P)
after (AddGroup key) config = with_group key config
after (RemoveGroup key) config = without_group key config
after (Join key member to) config = with_changed key (joined member to) config
after (Leave key member) config = with_changed key (left member) config
after (SetSelector key program) config = with_changed key (with_selector (Some program)) config
after (ClearSelector key) config = with_changed key (with_selector None) config
after (SetFilter key member program) config = with_changed key (with_filter member (Some program)) config
after (ClearFilter key member) config = with_changed key (with_filter member None) config
after (LockFilter key member) config = with_changed key (locked member) config
