-- The charge of a configuration: the most words that its image has.
use Rattle.std.specs.Prelude.{◌*◌, ◌+◌, ◌++◌, List, length, ℕ}
use Rattle.std.specs.List.{filter_map, flat_map, sum_by}
use Rattle.std.specs.Option.{option_to_list}
use Rattle.bpf_verify.specs.Program.{ProgramValue}
use Rattle.member_group.specs.declared.TheConstants.{GROUP_WORDS, HEAD_WORDS, MEMBER_WORDS}
use Rattle.member_group.specs.Group.{GroupOf}

-- a group's programs: its selector, then the filters in index order
abbrev pub programs_of_group : {P : Type 0} → GroupOf P → List P
programs_of_group group = option_to_list group.selector ++ filter_map (λ member. member.filter) group.members

-- the programs of a configuration, group by group
abbrev pub programs_of : {P : Type 0} → List (GroupOf P) → List P
programs_of config = flat_map programs_of_group config

-- the number of members of all groups
abbrev pub members_of : {P : Type 0} → List (GroupOf P) → ℕ
members_of config = sum_by (λ group. length group.members) config

-- 2, and 4 for each group, and 4 for each member, and the charges of the programs
abbrev pub charge_by : {P : Type 0} → (P → ℕ) → List (GroupOf P) → ℕ
charge_by charge config =
    HEAD_WORDS + GROUP_WORDS * length config + MEMBER_WORDS * members_of config + sum_by charge (programs_of config)

-- the charge by the programs' own charges
abbrev pub charge_of : List (GroupOf ProgramValue) → ℕ
charge_of config = charge_by (λ program. program.charge) config

-- the part of a group in the charge of a configuration
abbrev pub charge_of_group : GroupOf ProgramValue → ℕ
charge_of_group group = GROUP_WORDS + MEMBER_WORDS * length group.members + sum_by (λ program. program.charge) (programs_of_group group)
