use Rattle.std.proofs.Common.{◌<◌, arith, length, refl}
use Rattle.retire.specs.body.Alike.{AreAlikeGroups}
use Rattle.config_image.specs.Walk.{words_of_programs}
use Rattle.config_image.proofs.ProgramLemmas.{words_of_programs-more}
use Rattle.retire.proofs.AlikeLemmas.{alike_from}
use Rattle.retire.proofs.DiffLemmas.{goes_at_end, goes_behind, pages_left, programs_in}
use Rattle.retire.proofs.diff.walk_groups.Goals as goal

pub loop-at-preserved : goal.loop-at-preserved
loop-at-preserved c = let h = c.loop-at.invariant in let goes = c.if-not-walk_group.ensures.goes_on refl in let m = c.index-groups-at in let o = c.index-others-at in
    let within : c.loop-at.at < length c.args.others.now = omega (arith, c.loop-at-test.true, c.if-groups-others.false) in (
      λ rest. h.0 (alike_from AreAlikeGroups c.args.groups.now c.args.others.now c.loop-at.at m.result o.result c.loop-at-test.true within m.is o.is (c.if-not-walk_group.ensures.alike refl) rest),
      omega (arith, h.1, goes.counted, pages_left programs_in words_of_programs words_of_programs-more c.args.groups.now c.args.others.now c.loop-at.at m.result o.result c.loop-at-test.true within m.is o.is),
      λ after rest. h.2 after (goes_behind programs_in words_of_programs words_of_programs-more c.args.groups.now c.args.others.now c.loop-at.at m.result o.result c.loop-at-test.true within m.is o.is
          c.loop-at.walk c.walk_group.new.walk after goes rest),
    )

pub returns-clause-goes_on : goal.returns-clause-goes_on
returns-clause-goes_on c = λ t. c.loop-at.invariant.2 c.loop-at.walk (goes_at_end words_of_programs refl c.args.groups.now c.args.others.now c.loop-at.at c.loop-at-test.false c.if-groups-others.false c.loop-at.walk)
