use Rattle.member_group.proofs.group.Group.set_selector.Goals as goal

pub returns-clause-group : goal.returns-clause-group
returns-clause-group g c =
    let group = c.requires.group in
    rw c.in_ok-with_selector.ensures.changed
    record { key = group.key; limited = group.limited; distinct = group.distinct; selector = rw c.in_ok-selector.ensures.same_program c.clone_in.ensures.program; members = group.members }
