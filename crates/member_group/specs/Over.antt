-- Configurations and commands over programs of another kind: everything is kept except the programs.
use Rattle.std.specs.Prelude.{List, map, option_map}
use Rattle.member_group.specs.declared.command.Command.{Command}
use Rattle.member_group.specs.declared.command.Command.TheVariants.{AddGroup, ClearFilter, ClearSelector, Join, Leave, LockFilter, RemoveGroup, SetFilter, SetSelector}
use Rattle.member_group.specs.declared.member.Member.{Member}
use Rattle.member_group.specs.Group.{GroupOf}

-- a member, a group and a configuration with another kind of programs
abbrev pub member_over : {P Q : Type 0} → (P → Q) → Member P → Member Q
member_over over member = record { id = member.id; to = member.to; filter = option_map over member.filter; locked = member.locked }

abbrev pub group_over : {P Q : Type 0} → (P → Q) → GroupOf P → GroupOf Q
group_over over group =
    record { key = group.key; selector = option_map over group.selector; members = map (member_over over) group.members }

abbrev pub config_over : {P Q : Type 0} → (P → Q) → List (GroupOf P) → List (GroupOf Q)
config_over over config = map (group_over over) config

-- a command with another kind of programs
abbrev pub command_over : {P Q : Type 0} → (P → Q) → Command P → Command Q
command_over over (AddGroup key) = AddGroup key
command_over over (RemoveGroup key) = RemoveGroup key
command_over over (Join key id to) = Join key id to
command_over over (Leave key id) = Leave key id
command_over over (SetSelector key program) = SetSelector key (over program)
command_over over (ClearSelector key) = ClearSelector key
command_over over (SetFilter key id program) = SetFilter key id (over program)
command_over over (ClearFilter key id) = ClearFilter key id
command_over over (LockFilter key id) = LockFilter key id
