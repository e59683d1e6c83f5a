-- What configurations are whatever their programs are: keys that rise, members with numbers of their own, and the limits.
use Rattle.std.proofs.Common.{◌≤◌, ◌∷◌, List, [], arith, length, map, suc, sym, subst, ℕ}
use Rattle.std.specs.List.{All}
use Rattle.std.proofs.lemmas.List.{length-map}
use Rattle.bpf_verify.specs.Program.{ProgramValue}
use Rattle.ipv4_fields.specs.Endpoint.{IsEndpoint}
use Rattle.member_group.specs.declared.TheConstants.{GROUP_LIMIT, MEMBER_LIMIT}
use Rattle.member_group.specs.declared.member.Member.{Member}
use Rattle.member_group.specs.Group.{GroupOf, IsConfig, IsGroup}
use Rattle.member_group.specs.Over.{config_over, group_over, member_over}
use Rattle.config_diff.proofs.NumberedLemmas.{AreAbove, AreDistinct, IsRising, Lacks, pairs_distinct, pairs_rising}
use Rattle.config_diff.proofs.StepLemmas.{id_of, key_number}

pub record IsShapedGroup {P : Type 0} (group : GroupOf P) : Type 0 where
  pub key : IsEndpoint group.key
  pub limited : length group.members ≤ MEMBER_LIMIT
  pub distinct : AreDistinct id_of group.members

abbrev pub AreShaped : {P : Type 0} → List (GroupOf P) → Type 0
AreShaped [] = Unit {0}
AreShaped (group ∷ groups) = IsShapedGroup group × AreShaped groups

pub record IsShaped {P : Type 0} (config : List (GroupOf P)) : Type 0 where
  pub limited : length config ≤ GROUP_LIMIT
  pub rising : IsRising key_number config
  pub groups : AreShaped config

shaped_groups : (groups : List (GroupOf ProgramValue)) → All IsGroup groups → AreShaped groups
shaped_groups [] all = tt
shaped_groups (group ∷ groups) all =
    let first = all 0 group (omega arith) in (
      record { key = first.key; limited = first.limited; distinct = pairs_distinct id_of group.members first.distinct },
      shaped_groups groups (λ k d below. all (suc k) d (omega arith)),
    )

pub shaped_config : (config : List (GroupOf ProgramValue)) → IsConfig config → IsShaped config
shaped_config config is = record { limited = is.limited; rising = pairs_rising key_number config is.rising; groups = shaped_groups config is.groups }

-- ---- over programs of another kind

module _ {P Q : Type 0} (over : P → Q) where
  lacks_over : (id : ℕ) (members : List (Member P)) → Lacks id_of id members → Lacks id_of id (map (member_over over) members)
  lacks_over id [] lacks = tt
  lacks_over id (member ∷ members) lacks = (lacks.0, lacks_over id members lacks.1)

  distinct_over : (members : List (Member P)) → AreDistinct id_of members → AreDistinct id_of (map (member_over over) members)
  distinct_over [] distinct = tt
  distinct_over (member ∷ members) distinct = (lacks_over member.id members distinct.0, distinct_over members distinct.1)

  above_over : (n : ℕ) (config : List (GroupOf P)) → AreAbove key_number n config → AreAbove key_number n (config_over over config)
  above_over n [] above = tt
  above_over n (group ∷ config) above = (above.0, above_over n config above.1)

  rising_over : (config : List (GroupOf P)) → IsRising key_number config → IsRising key_number (config_over over config)
  rising_over [] rising = tt
  rising_over (group ∷ config) rising = (above_over (key_number group) config rising.0, rising_over config rising.1)

  groups_over : (config : List (GroupOf P)) → AreShaped config → AreShaped (config_over over config)
  groups_over [] shaped = tt
  groups_over (group ∷ config) shaped = (
    record {
      key = shaped.0.key;
      limited = subst (λ n. n ≤ MEMBER_LIMIT) (sym (length-map group.members (member_over over))) shaped.0.limited;
      distinct = distinct_over group.members shaped.0.distinct;
    },
    groups_over config shaped.1,
  )

  pub shaped_over : (config : List (GroupOf P)) → IsShaped config → IsShaped (config_over over config)
  shaped_over config shaped = record {
    limited = subst (λ n. n ≤ GROUP_LIMIT) (sym (length-map config (group_over over))) shaped.limited;
    rising = rising_over config shaped.rising;
    groups = groups_over config shaped.groups;
  }

  -- ---- and the other way round

  lacks_under : (id : ℕ) (members : List (Member P)) → Lacks id_of id (map (member_over over) members) → Lacks id_of id members
  lacks_under id [] lacks = tt
  lacks_under id (member ∷ members) lacks = (lacks.0, lacks_under id members lacks.1)

  distinct_under : (members : List (Member P)) → AreDistinct id_of (map (member_over over) members) → AreDistinct id_of members
  distinct_under [] distinct = tt
  distinct_under (member ∷ members) distinct = (lacks_under member.id members distinct.0, distinct_under members distinct.1)

  above_under : (n : ℕ) (config : List (GroupOf P)) → AreAbove key_number n (config_over over config) → AreAbove key_number n config
  above_under n [] above = tt
  above_under n (group ∷ config) above = (above.0, above_under n config above.1)

  rising_under : (config : List (GroupOf P)) → IsRising key_number (config_over over config) → IsRising key_number config
  rising_under [] rising = tt
  rising_under (group ∷ config) rising = (above_under (key_number group) config rising.0, rising_under config rising.1)

  groups_under : (config : List (GroupOf P)) → AreShaped (config_over over config) → AreShaped config
  groups_under [] shaped = tt
  groups_under (group ∷ config) shaped = (
    record {
      key = shaped.0.key;
      limited = subst (λ n. n ≤ MEMBER_LIMIT) (length-map group.members (member_over over)) shaped.0.limited;
      distinct = distinct_under group.members shaped.0.distinct;
    },
    groups_under config shaped.1,
  )

  pub shaped_under : (config : List (GroupOf P)) → IsShaped (config_over over config) → IsShaped config
  shaped_under config shaped = record {
    limited = subst (λ n. n ≤ GROUP_LIMIT) (length-map config (group_over over)) shaped.limited;
    rising = rising_under config shaped.rising;
    groups = groups_under config shaped.groups;
  }
