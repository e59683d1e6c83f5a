-- What a contract sees of a configuration: a finite map from keys to groups, listed in rising order of key (socket(7);
-- docs/SWITCH.md, "Groups, members, commands and refusals").
use Rattle.std.specs.Prelude.{◌==◌, ◌^◌, ◌<◌, ◌≢◌, ◌≤◌, Bool, IfSome, List, Option, length, ℕ}
use Rattle.std.specs.List.{All, AllPairs, find}
use Rattle.bpf_verify.specs.Program.{IsProgram, ProgramValue}
use Rattle.ipv4_fields.specs.declared.endpoint.Endpoint.{Endpoint}
use Rattle.ipv4_fields.specs.Endpoint.{IsEndpoint, endpoint_number}
use Rattle.member_group.specs.declared.TheConstants.{GROUP_LIMIT, MEMBER_LIMIT}
use Rattle.member_group.specs.declared.member.Member.{Member}

-- a group over programs of any kind: its key, its selector or none, and its members in the order of their indexes
pub record GroupOf (P : Type 0) : Type 0 where
  pub key : Endpoint
  pub selector : Option P
  pub members : List (Member P)

-- keys are equal if their numbers are
abbrev pub has_key : {P : Type 0} → Endpoint → GroupOf P → Bool
has_key key group = endpoint_number group.key == endpoint_number key

-- a member has a number
abbrev pub has_id : {P : Type 0} → ℕ → Member P → Bool
has_id id member = member.id == id

-- the group that the map has at a key, or none
abbrev pub group_of : {P : Type 0} → Endpoint → List (GroupOf P) → Option (GroupOf P)
group_of key config = find (has_key key) config

-- the member of a number, or none
abbrev pub member_of : {P : Type 0} → ℕ → GroupOf P → Option (Member P)
member_of id group = find (has_id id) group.members

-- a member's number has 32 bits, its packets are sent to an endpoint, and its filter is a program that the verifier accepted
pub record IsMember (member : Member ProgramValue) : Type 0 where
  pub id : member.id < 2 ^ 32
  pub to : IsEndpoint member.to
  pub filter : IfSome member.filter IsProgram

-- the key is an endpoint, there are at most this many members, with numbers of their own, and the selector is a program that the
-- verifier accepted
pub record IsGroup (group : GroupOf ProgramValue) : Type 0 where
  pub key : IsEndpoint group.key
  pub limited : length group.members ≤ MEMBER_LIMIT
  pub distinct : AllPairs (λ member other. member.id ≢ other.id) group.members
  pub selector : IfSome group.selector IsProgram
  pub members : All IsMember group.members

-- at most this many groups, in rising order of key
pub record IsConfig (config : List (GroupOf ProgramValue)) : Type 0 where
  pub limited : length config ≤ GROUP_LIMIT
  pub rising : AllPairs (λ group other. endpoint_number group.key < endpoint_number other.key) config
  pub groups : All IsGroup config
