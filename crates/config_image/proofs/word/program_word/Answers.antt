use Rattle.std.proofs.Common.{◌∙◌, sym}
use Rattle.config_image.proofs.WordLemmas.{first_word, later_inside, later_word, program_words-split}
use Rattle.config_image.proofs.word.program_word.Goals as goal

pub returns-then-left-len : goal.returns-then-left-len
returns-then-left-len g c =
    let split = program_words-split c.args.groups.now c.loop-group.group-index c.group-item.result c.loop-group-test.true c.group-item.is in
    sym c.loop-group.invariant.0 ∙ first_word _ _ _ c.loop-group.left _ split c.programs_len-len.ensures.words c.if-left-len.true ∙ c.group_program_word.ensures

pub loop-group-preserved : goal.loop-group-preserved
loop-group-preserved g c =
    let split = program_words-split c.args.groups.now c.loop-group.group-index c.group-item.result c.loop-group-test.true c.group-item.is in (
      later_word _ _ _ c.loop-group.left _ split c.programs_len-len.ensures.words c.if-left-len.false ∙ c.loop-group.invariant.0,
      later_inside _ _ _ c.loop-group.left _ split c.programs_len-len.ensures.words c.if-left-len.false c.loop-group.invariant.1,
    )
