-- The rules of a configuration: the commands that make it, in the order of a rules file (docs/COMMANDS.md, "Rules files").
use Rattle.std.specs.Prelude.{◌∷◌, ◌++◌, if◌then◌else◌, List, [], flat_map, map, option_to_list}
use Rattle.bpf_verify.specs.Program.{ProgramValue}
use Rattle.ipv4_fields.specs.declared.endpoint.Endpoint.{Endpoint}
use Rattle.member_group.specs.declared.command.Command.{Command}
use Rattle.member_group.specs.declared.command.Command.TheVariants.{AddGroup, Join, LockFilter, SetFilter, SetSelector}
use Rattle.member_group.specs.declared.member.Member.{Member}
use Rattle.member_group.specs.Group.{GroupOf, IsConfig}
use Rattle.config_diff.specs.Lead.{LeadTo}

-- a member joins, gets its filter if it has one, and is locked if it is locked
abbrev pub rules_of_member : {P : Type 0} → Endpoint → Member P → List (Command P)
rules_of_member key member =
    Join key member.id member.to
    ∷ map (λ program. SetFilter key member.id program) (option_to_list member.filter)
    ++ (if member.locked then LockFilter key member.id ∷ [] else [])

-- a group is added, gets its selector if it has one, and then its members in the order of their indexes
abbrev pub rules_of_group : {P : Type 0} → GroupOf P → List (Command P)
rules_of_group group =
    AddGroup group.key
    ∷ map (λ program. SetSelector group.key program) (option_to_list group.selector)
    ++ flat_map (λ member. rules_of_member group.key member) group.members

-- the rules of each group, in rising order of key
abbrev pub commands_of : {P : Type 0} → List (GroupOf P) → List (Command P)
commands_of config = flat_map (λ group. rules_of_group group) config

-- the rules of a configuration lead from the empty one to it
abbrev pub RulesLeadToTheirConfig : Type 0
RulesLeadToTheirConfig = (config : List (GroupOf ProgramValue)) → IsConfig config → LeadTo (commands_of config) [] config
