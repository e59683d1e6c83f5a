-- The groups and the members that are counted.
use Rattle.std.specs.Prelude.{◌≡◌, List, decimal, map, ℕ}
use Rattle.std.specs.List.{flat_map}
use Rattle.ipv4_fields.specs.declared.endpoint.Endpoint.{Endpoint}
use Rattle.bpf_verify.specs.Program.{ProgramValue}
use Rattle.config_image.specs.Image.{Group}
use Rattle.member_group.specs.Charge.{charge_of}
use Rattle.member_group.specs.declared.member.Member.{Member}
use Rattle.counter_text.specs.declared.counters.Counters.{Counters}
use Rattle.counter_text.specs.declared.counters.GroupCount.{GroupCount}
use Rattle.counter_text.specs.declared.counters.MemberCount.{MemberCount}

-- a member of the group at a key, and the destination of its packets
pub record Seat : Type 0 where
  pub key : Endpoint
  pub id : ℕ
  pub to : Endpoint

abbrev pub seat_of : MemberCount → Seat
seat_of member = record { key = member.key; id = member.id; to = member.to }

abbrev pub seat_at : Endpoint → Member ProgramValue → Seat
seat_at key member = record { key = key; id = member.id; to = member.to }

abbrev pub seats_under : Endpoint → List (Member ProgramValue) → List Seat
seats_under key members = map (seat_at key) members

-- the members of all groups
abbrev pub seats_in : List Group → List Seat
seats_in config = flat_map (λ group. seats_under group.key group.members) config

abbrev pub key_of : GroupCount → Endpoint
key_of group = group.key

abbrev pub keys_in : List Group → List Endpoint
keys_in config = map (λ group. group.key) config

abbrev pub keys_of : List GroupCount → List Endpoint
keys_of groups = map key_of groups

abbrev pub seats_of : List MemberCount → List Seat
seats_of members = map seat_of members

-- the counters are of these groups and members, in their order
pub record IsFrameOf (config : List Group) (counters : Counters) : Type 0 where
  pub groups : keys_of counters.groups.items ≡ keys_in config
  pub members : seats_of counters.members.items ≡ seats_in config
  pub charge : decimal counters.charge ≡ decimal (charge_of config)
