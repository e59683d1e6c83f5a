use Rattle.std.proofs.Common.{arith}
use Rattle.member_group.proofs.PlaceLemmas.{below_more, gap_at_end, gap_before, only_at_key}
use Rattle.member_group.proofs.place.place_of_key.Goals as goal

pub returns-then-other-number-clause-found : goal.returns-then-other-number-clause-found
returns-then-other-number-clause-found g c =
    only_at_key c.args.key c.args.groups.now c.loop-at.at c.index-groups-at.result c.requires.config.rising c.loop-at-test.true c.index-groups-at.is (rw (← c.key.ensures.key) (omega arith))

pub returns-then-other-number-2-clause-absent : goal.returns-then-other-number-2-clause-absent
returns-then-other-number-2-clause-absent g c =
    gap_before c.args.key c.args.groups.now c.loop-at.at c.index-groups-at.result c.requires.config.rising c.loop-at-test.true c.index-groups-at.is (rw (← c.key.ensures.key) (omega arith)) c.loop-at.invariant

pub loop-at-preserved : goal.loop-at-preserved
loop-at-preserved g c =
    below_more c.args.key c.args.groups.now c.loop-at.at c.index-groups-at.result c.loop-at-test.true c.index-groups-at.is (rw (← c.key.ensures.key) (omega arith)) c.loop-at.invariant

pub returns-clause-absent : goal.returns-clause-absent
returns-clause-absent g c =
    let within = c.loop-at-test.false in
    gap_at_end c.args.key c.args.groups.now (λ k d below. c.loop-at.invariant k d (omega arith))
