use Rattle.std.proofs.Common.{arith}
use Rattle.read_section.proofs.FilledLemmas.{row_inside}
use Rattle.retire.proofs.RowReuseLemmas.{all_copied, none_copied, one_copied_more}
use Rattle.retire.proofs.row_reuse.copy_front.Goals as goal

pub loop-place-init : goal.loop-place-init
loop-place-init c = none_copied c.args.operator.now c.args.row c.args.from c.args.count c.requires.free

pub loop-place-preserved : goal.loop-place-preserved
loop-place-preserved c = one_copied_more c.args.operator.now _ _ c.args.row c.args.from c.loop-place.place _ (row_inside c.args.row c.requires.free.0) c.requires.from c.requires.other (omega arith) c.fill_other.ensures c.args.count c.loop-place-test.true c.row_word-word.ensures.word c.loop-place.invariant

pub returns : goal.returns
returns c = all_copied c.args.operator.now c.loop-place.operator c.args.row c.args.from c.args.count c.loop-place.place c.loop-place-test.false c.loop-place.invariant

pub same_front-requires-clause-rows : goal.same_front-requires-clause-rows
same_front-requires-clause-rows c = (row_inside c.args.row c.requires.free.0, c.requires.from)
