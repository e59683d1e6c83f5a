use Rattle.retire.proofs.PageLemmas.{no_word_yet, one_word_more, page_free, program_filled}
use Rattle.retire.proofs.pages.fill_program.Goals as goal

pub loop-place-init : goal.loop-place-init
loop-place-init c = no_word_yet c.args.operator.now c.args.own.now c.args.words.now c.requires.free c.requires.counted

pub fill_page-requires-clause-free : goal.fill_page-requires-clause-free
fill_page-requires-clause-free c = page_free c.args.operator.now c.args.own.now c.args.words.now c.requires.free c.requires.counted c.loop-place.operator c.loop-place.place c.loop-place-test.true c.loop-place.invariant.0

pub loop-place-preserved : goal.loop-place-preserved
loop-place-preserved c = one_word_more c.args.operator.now c.args.own.now c.args.words.now c.requires.free c.requires.counted
    c.loop-place.operator c.fill_page.new.self c.loop-place.place _ _ c.loop-place-test.true Rattle.std.proofs.Common.refl Rattle.std.proofs.Common.refl c.fill_page.ensures.all_stored c.fill_page.ensures.one_fill c.loop-place.invariant

pub returns : goal.returns
returns c = program_filled c.args.operator.now c.args.own.now c.args.words.now c.requires.free c.requires.counted c.loop-place.operator c.loop-place.place c.loop-place-test.false c.loop-place.invariant
