use Rattle.std.proofs.Common.{◌<◌, arith, length, refl}
use Rattle.retire.specs.body.Alike.{AreAlikeMembers}
use Rattle.retire.specs.body.Diff.{filters_in}
use Rattle.retire.proofs.AlikeLemmas.{alike_from}
use Rattle.retire.proofs.DiffLemmas.{filters-cons, filters_of, goes_at_end, goes_behind, pages_left}
use Rattle.retire.proofs.diff.walk_members.Goals as goal

pub loop-at-preserved : goal.loop-at-preserved
loop-at-preserved c = let h = c.loop-at.invariant in let goes = c.if-not-walk_member.ensures.goes_on refl in let m = c.index-members-at in let o = c.index-others-at in
    let within : c.loop-at.at < length c.args.others.now = omega (arith, c.loop-at-test.true, c.if-members-others.false) in (
      λ rest. h.0 (alike_from AreAlikeMembers c.args.members.now c.args.others.now c.loop-at.at m.result o.result c.loop-at-test.true within m.is o.is (c.if-not-walk_member.ensures.alike refl) rest),
      omega (arith, h.1, goes.counted, pages_left filters_of filters_in filters-cons c.args.members.now c.args.others.now c.loop-at.at m.result o.result c.loop-at-test.true within m.is o.is),
      λ after rest. h.2 after (goes_behind filters_of filters_in filters-cons c.args.members.now c.args.others.now c.loop-at.at m.result o.result c.loop-at-test.true within m.is o.is
          c.loop-at.walk c.walk_member.new.walk after goes rest),
    )

pub returns-clause-goes_on : goal.returns-clause-goes_on
returns-clause-goes_on c = λ t. c.loop-at.invariant.2 c.loop-at.walk (goes_at_end filters_in refl c.args.members.now c.args.others.now c.loop-at.at c.loop-at-test.false c.if-members-others.false c.loop-at.walk)
