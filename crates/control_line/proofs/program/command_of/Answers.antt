use Rattle.std.proofs.Common.{ap, refl}
use Rattle.member_group.specs.declared.command.Command.TheVariants.{AddGroup, ClearFilter, ClearSelector, Join, Leave, LockFilter, RemoveGroup, SetFilter, SetSelector}
use Rattle.control_line.proofs.program.command_of.Goals as goal

pub returns-in-AddGroup : goal.returns-in-AddGroup
returns-in-AddGroup c = rw c.in-AddGroup.is (AddGroup c.in-AddGroup.key, refl, refl)

pub returns-in-RemoveGroup : goal.returns-in-RemoveGroup
returns-in-RemoveGroup c = rw c.in-RemoveGroup.is (RemoveGroup c.in-RemoveGroup.key, refl, refl)

pub returns-in-Join : goal.returns-in-Join
returns-in-Join c = rw c.in-Join.is (Join c.in-Join.key c.in-Join.member c.in-Join.to, refl, refl)

pub returns-in-Leave : goal.returns-in-Leave
returns-in-Leave c = rw c.in-Leave.is (Leave c.in-Leave.key c.in-Leave.member, refl, refl)

pub returns-in-ClearSelector : goal.returns-in-ClearSelector
returns-in-ClearSelector c = rw c.in-ClearSelector.is (ClearSelector c.in-ClearSelector.key, refl, refl)

pub returns-in-ClearFilter : goal.returns-in-ClearFilter
returns-in-ClearFilter c = rw c.in-ClearFilter.is (ClearFilter c.in-ClearFilter.key c.in-ClearFilter.member, refl, refl)

pub returns-in-LockFilter : goal.returns-in-LockFilter
returns-in-LockFilter c = rw c.in-LockFilter.is (LockFilter c.in-LockFilter.key c.in-LockFilter.member, refl, refl)

pub returns-in_ok-program_of-in-SetSelector : goal.returns-in_ok-program_of-in-SetSelector
returns-in_ok-program_of-in-SetSelector c =
    let made = c.in_ok-program_of-in-SetSelector.ensures in
    rw c.in-SetSelector.is (SetSelector c.in-SetSelector.key made.0, (made.0.loaded, made.1, refl), ap (SetSelector c.in-SetSelector.key) made.2)

pub returns-in_ok-program_of-in-SetFilter : goal.returns-in_ok-program_of-in-SetFilter
returns-in_ok-program_of-in-SetFilter c =
    let made = c.in_ok-program_of-in-SetFilter.ensures in
    rw c.in-SetFilter.is (SetFilter c.in-SetFilter.key c.in-SetFilter.member made.0, (made.0.loaded, made.1, refl), ap (SetFilter c.in-SetFilter.key c.in-SetFilter.member) made.2)
