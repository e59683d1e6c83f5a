use Rattle.member_group.proofs.group.Group.clear_selector.Goals as goal

pub returns-clause-group : goal.returns-clause-group
returns-clause-group g c =
    let group = c.requires.group in
    rw c.in_ok-with_selector.ensures.changed
    record { key = group.key; limited = group.limited; distinct = group.distinct; selector = tt; members = group.members }
