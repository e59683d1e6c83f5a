-- How far the groups and members are read.
use Rattle.std.specs.Prelude.{◌≡◌, ◌+◌, ◌++◌, List, Some, length, take, ℕ}
use Rattle.ipv4_fields.specs.declared.endpoint.Endpoint.{Endpoint}
use Rattle.config_image.specs.Image.{Group}
use Rattle.member_group.specs.Group.{group_of}
use Rattle.control_client.specs.Exchange.{Exchange}
use Rattle.control_rules.specs.History.{History}
use Rattle.counter_text.specs.declared.counters.Counters.{Counters}
use Rattle.counter_text.specs.declared.counters.GroupCount.{GroupCount}
use Rattle.counter_text.specs.declared.counters.MemberCount.{MemberCount}
use Rattle.control_counters.specs.Frame.{IsFrameOf, keys_in, keys_of, seats_in, seats_of, seats_under}
use Rattle.control_counters.specs.Counts.{count_exchanges}

-- the first members of the group at a key were added, if it has this number of members
abbrev pub AddsFirstSeats : List Group → Endpoint → (members count : ℕ) → List MemberCount → List MemberCount → Type 0
AddsFirstSeats config key members count rows rows' =
    (group : Group) → group_of key config ≡ Some group → members ≡ length group.members →
    seats_of rows' ≡ seats_of rows ++ seats_under key (take count group.members)

abbrev pub AddsSeats : List Group → Endpoint → ℕ → List MemberCount → List MemberCount → Type 0
AddsSeats config key members rows rows' =
    (group : Group) → group_of key config ≡ Some group → members ≡ length group.members → seats_of rows' ≡ seats_of rows ++ seats_under key group.members

-- the first groups of a configuration, with their members
pub record AddsFirstGroups (config : List Group) (count : ℕ) (groups groups' : List GroupCount) (members members' : List MemberCount) : Type 0 where
  pub keys : keys_of groups' ≡ keys_of groups ++ keys_in (take count config)
  pub seats : seats_of members' ≡ seats_of members ++ seats_in (take count config)

-- one group, with its members
abbrev pub AddsGroup : List Group → ℕ → List GroupCount → List GroupCount → List MemberCount → List MemberCount → Type 0
AddsGroup config index groups groups' members members' =
    (before : List GroupCount) (rows : List MemberCount) → AddsFirstGroups config index before groups rows members →
    AddsFirstGroups config (index + 1) before groups' rows members'

-- counts of the groups and members of this version
pub record AreCountsOf (history : History) (version : ℕ) (told : List Exchange) (counters : Counters) : Type 0 where
  pub before : List Exchange
  pub is_version : counters.version ≡ version
  pub frame : IsFrameOf (history counters.version) counters
  pub counted : told ≡ before ++ count_exchanges counters

-- the same groups and members, of the same version
pub record HasFrameOf (known counters : Counters) : Type 0 where
  pub version : counters.version ≡ known.version
  pub charge : counters.charge ≡ known.charge
  pub groups : keys_of counters.groups.items ≡ keys_of known.groups.items
  pub members : seats_of counters.members.items ≡ seats_of known.members.items
