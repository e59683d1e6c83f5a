use Rattle.std.proofs.Common.{arith}
use Rattle.member_group.proofs.PlaceLemmas.{lacks_more, nowhere_id, only_at_id}
use Rattle.member_group.proofs.place.place_of_member.Goals as goal

pub returns-then-members-at-clause-found : goal.returns-then-members-at-clause-found
returns-then-members-at-clause-found g c =
    only_at_id c.args.id c.args.members.now c.loop-at.at c.index-members-at.result c.requires.distinct c.loop-at-test.true c.index-members-at.is (rw c.index-members-at.is c.if-members-at.true)

pub loop-at-preserved : goal.loop-at-preserved
loop-at-preserved g c =
    lacks_more c.args.id c.args.members.now c.loop-at.at c.index-members-at.result c.loop-at-test.true c.index-members-at.is (rw c.index-members-at.is c.if-members-at.false) c.loop-at.invariant

pub returns-clause-absent : goal.returns-clause-absent
returns-clause-absent g c =
    let within = c.loop-at-test.false in
    nowhere_id c.args.id c.args.members.now (λ k d below. c.loop-at.invariant k d (omega arith))
