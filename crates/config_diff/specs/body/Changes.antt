-- The commands of a diff, group by group and member by member. `same` tests whether two programs are the same.
use Rattle.std.specs.Prelude.{◌==◌, ◌&&◌, ◌||◌, ◌∷◌, ◌++◌, if◌then◌else◌, Bool, List, None, Option, Some, [], false, flat_map, is_some, map, nat_eq, not, reverse, true, ℕ}
use Rattle.std.specs.Cmp.Lexicographic.{pointwise}
use Rattle.ipv4_fields.specs.declared.endpoint.Endpoint.{Endpoint}
use Rattle.member_group.specs.declared.command.Command.{Command}
use Rattle.member_group.specs.declared.command.Command.TheVariants.{ClearFilter, ClearSelector, Leave, LockFilter, RemoveGroup, SetFilter, SetSelector}
use Rattle.member_group.specs.declared.member.Member.{Member}
use Rattle.member_group.specs.Group.{GroupOf, group_of}
use Rattle.config_diff.specs.Rules.{rules_of_group, rules_of_member}

-- the test of programs that are lists of words
abbrev pub same_words : List ℕ → List ℕ → Bool
same_words = pointwise nat_eq

abbrev pub is_same_endpoint : Endpoint → Endpoint → Bool
is_same_endpoint one other = (one.address == other.address) && (one.port == other.port)

-- both are the same program, or none
abbrev pub is_same_option : {P : Type 0} → (P → P → Bool) → Option P → Option P → Bool
is_same_option same None None = true
is_same_option same None (Some other) = false
is_same_option same (Some one) None = false
is_same_option same (Some one) (Some other) = same one other

-- the command that sets a program, or the one that clears it
abbrev pub set_or_clear : {P : Type 0} → (P → Command P) → Command P → Option P → List (Command P)
set_or_clear set clear None = clear ∷ []
set_or_clear set clear (Some program) = set program ∷ []

-- a program, or none, becomes another one, or none; if they are the same, no command is needed
abbrev pub program_changes : {P : Type 0} → (P → P → Bool) → (P → Command P) → Command P → Option P → Option P → List (Command P)
program_changes same set clear one other = if is_same_option same one other then [] else set_or_clear set clear other

abbrev pub filter_changes : {P : Type 0} → (P → P → Bool) → Endpoint → ℕ → Option P → Option P → List (Command P)
filter_changes same key id one other = program_changes same (λ program. SetFilter key id program) (ClearFilter key id) one other

abbrev pub selector_changes : {P : Type 0} → (P → P → Bool) → Endpoint → Option P → Option P → List (Command P)
selector_changes same key one other = program_changes same (λ program. SetSelector key program) (ClearSelector key) one other

-- only a lock that is not there yet is set
abbrev pub lock_changes : {P : Type 0} → Endpoint → ℕ → Bool → Bool → List (Command P)
lock_changes key id one other = if one then [] else (if other then LockFilter key id ∷ [] else [])

-- a member can become another one where it is: they have the same number and endpoint, and the first is not locked, or both are
-- locked with the same filter
abbrev pub can_stay : {P : Type 0} → (P → P → Bool) → Member P → Member P → Bool
can_stay same one other =
    (one.id == other.id) && (is_same_endpoint one.to other.to && (not one.locked || (other.locked && is_same_option same one.filter other.filter)))

-- a member that can stay becomes the other
abbrev pub member_changes : {P : Type 0} → (P → P → Bool) → Endpoint → Member P → Member P → List (Command P)
member_changes same key one other =
    filter_changes same key one.id one.filter other.filter ++ lock_changes key one.id one.locked other.locked

-- all members leave, the last one first, so that none moves into a gap; then those wanted join
abbrev pub replaced_members : {P : Type 0} → Endpoint → List (Member P) → List (Member P) → List (Command P)
replaced_members key from to =
    map (λ member. Leave key member.id) (reverse from) ++ flat_map (λ member. rules_of_member key member) to

-- members stay up to the first one that cannot stay; from there on they are replaced
abbrev pub members_changes : {P : Type 0} → (P → P → Bool) → Endpoint → List (Member P) → List (Member P) → List (Command P)
members_changes same key [] to = replaced_members key [] to
members_changes same key (one ∷ from) [] = replaced_members key (one ∷ from) []
members_changes same key (one ∷ from) (other ∷ to) =
    if can_stay same one other
    then member_changes same key one other ++ members_changes same key from to
    else replaced_members key (one ∷ from) (other ∷ to)

-- the group that is at a key, or none, becomes the one wanted there
abbrev pub group_changes : {P : Type 0} → (P → P → Bool) → Option (GroupOf P) → GroupOf P → List (Command P)
group_changes same None group = rules_of_group group
group_changes same (Some one) group =
    selector_changes same group.key one.selector group.selector ++ members_changes same group.key one.members group.members

-- a group that is not wanted is removed
abbrev pub removal : {P : Type 0} → List (GroupOf P) → GroupOf P → List (Command P)
removal to group = if is_some (group_of group.key to) then [] else RemoveGroup group.key ∷ []

-- groups that are not wanted are removed first, so that the others never are too many
abbrev pub changes : {P : Type 0} → (P → P → Bool) → List (GroupOf P) → List (GroupOf P) → List (Command P)
changes same from to =
    flat_map (λ group. removal to group) from ++ flat_map (λ group. group_changes same (group_of group.key from) group) to
