use Rattle.member_group.proofs.ListLemmas.{appended_all, appended_more}
use Rattle.member_group.proofs.member.append_members.Goals as goal

pub loop-member-preserved : goal.loop-member-preserved
loop-member-preserved g c =
    appended_more c.args.to.now.items c.args.from.now _ _ c.loop-member.member-index c.member-item.result c.in_ok-copy.copy c.loop-member-test.true c.member-item.is c.in_ok-copy.ensures.copied c.loop-member.invariant c.in_ok-push.ensures.items

pub returns : goal.returns
returns g c =
    record { appended = appended_all c.args.to.now.items c.args.from.now _ c.loop-member.member-index c.loop-member-test.false c.loop-member.invariant }
