-- The keys by which verdicts are counted, and the keys of a configuration (docs/SWITCH.md, "Counters by member").
use Rattle.std.specs.Prelude.{◌==◌, ◌&&◌, Bool, List, None, Option, Some, nat_eq, true, ℕ}
use Rattle.std.specs.List.{list_any}
use Rattle.std.specs.Option.{option_eq}
use Rattle.bpf_verify.specs.Program.{ProgramValue}
use Rattle.ipv4_fields.specs.declared.endpoint.Endpoint.{Endpoint}
use Rattle.member_group.specs.Group.{GroupOf, has_id}
use Rattle.member_counts.specs.declared.key.CountKey.{CountKey}

-- the key of a member of a group
abbrev pub member_key : Endpoint → ℕ → CountKey
member_key group member = record { group = group; member = Some member }

-- the key of a group's packets that found no member
abbrev pub group_key : Endpoint → CountKey
group_key group = record { group = group; member = None }

-- the address and the port are the same
abbrev pub same_group : Endpoint → Endpoint → Bool
same_group group other = (group.address == other.address) && (group.port == other.port)

-- the group and the member are the same
abbrev pub same_key : CountKey → CountKey → Bool
same_key key other = same_group key.group other.group && option_eq nat_eq key.member other.member

-- a group has the member of a key, or the key has none
abbrev pub has_member : Option ℕ → GroupOf ProgramValue → Bool
has_member None group = true
has_member (Some id) group = list_any (has_id id) group.members

abbrev pub group_has : CountKey → GroupOf ProgramValue → Bool
group_has key group = same_group key.group group.key && has_member key.member group

-- one of a configuration's groups has the key
abbrev pub has : List (GroupOf ProgramValue) → CountKey → Bool
has config key = list_any (group_has key) config
