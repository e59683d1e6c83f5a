use Rattle.member_group.proofs.ListLemmas.{appended_all, appended_more}
use Rattle.member_group.proofs.config.append_groups.Goals as goal

pub loop-group-preserved : goal.loop-group-preserved
loop-group-preserved g c =
    appended_more c.args.to.now.items c.args.from.now _ _ c.loop-group.group-index c.group-item.result c.in_ok-copy.field-0 c.loop-group-test.true c.group-item.is c.in_ok-copy.ensures.copied c.loop-group.invariant c.in_ok-push.ensures.items

pub returns : goal.returns
returns g c =
    record { appended = appended_all c.args.to.now.items c.args.from.now _ c.loop-group.group-index c.loop-group-test.false c.loop-group.invariant }
