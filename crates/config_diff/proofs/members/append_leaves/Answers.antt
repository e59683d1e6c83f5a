use Rattle.config_diff.proofs.BodyLemmas.{more_of_all_leaves, more_of_leaves}
use Rattle.config_diff.proofs.members.append_leaves.Goals as goal

pub loop-left-preserved : goal.loop-left-preserved
loop-left-preserved g c =
    more_of_leaves c.args.key _ _ _ c.args.members.now c.loop-left.left c.index-members-last.result c.loop-left-test.true c.loop-left.invariant c.in_ok-append.ensures.appended

pub returns : goal.returns
returns g c = record { appended = more_of_all_leaves c.args.key _ _ c.args.members.now c.loop-left.left c.loop-left-test.false c.loop-left.invariant }
