use Rattle.control_rules.proofs.DrainingLemmas.{drains_group, nobody_takes, other_selector}
use Rattle.control_rules.proofs.planning.plan_in_group.Goals as goal

pub returns-in_default-2 : goal.returns-in_default-2
returns-in_default-2 c =
    other_selector c.args.group.now c.in-Some.program.now c.words.result.now c.in-Some.ensures.selector c.words.ensures.words c.args.index c.in_ok-by.field-0 c.in_default-2.is c.in_ok-by.ensures.none

pub returns-then-not-can_drain : goal.returns-then-not-can_drain
returns-then-not-can_drain c =
    nobody_takes c.args.group.now c.args.index c.in-Some.program.now c.words.result.now c.in-Some-2.by c.in-Some-2.buckets c.in_ok-by.field-0 c.members-count.result.now
    c.in-Some.ensures.selector c.words.ensures.words c.in-Some-2.is c.in_ok-by.ensures.table c.members-count.ensures.members c.can_drain.result c.can_drain.ensures c.if-not-can_drain.true

pub returns : goal.returns
returns c =
    drains_group c.args.group.now c.args.index c.in-Some.program.now c.words.result.now c.in-Some-2.by c.in-Some-2.buckets c.in_ok-by.field-0 c.members-count.result.now
    c.in-Some.ensures.selector c.words.ensures.words c.in-Some-2.is c.in_ok-by.ensures.table c.members-count.ensures.members c.args.key c.args.id c.can_drain.result c.in_ok-rest.rest
    c.in_ok-program.program.words c.in_ok-lines_of.field-0.items c.can_drain.ensures c.if-not-can_drain.false c.in_ok-rest.ensures.table c.in_ok-program.ensures.words c.in_ok-lines_of.ensures
