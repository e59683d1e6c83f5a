use Rattle.std.proofs.Common.{arith}
use Rattle.config_image.proofs.ProgramLemmas.{image_limited, entries_fit}
use Rattle.config_image.proofs.pooled.form_word.Goals as goal

pub new-requires-clause-len : goal.new-requires-clause-len
new-requires-clause-len g c =
    let size = image_limited c.args.groups.now c.requires.config in
    let whole = c.words_in.ensures.length in omega arith

pub new-requires-clause-programs : goal.new-requires-clause-programs
new-requires-clause-programs g c =
    let size = image_limited c.args.groups.now c.requires.config in
    let entries = entries_fit c.args.groups.now in
    let begin = c.requires.programs in omega arith

pub new-requires-clause-entries : goal.new-requires-clause-entries
new-requires-clause-entries g c =
    let size = image_limited c.args.groups.now c.requires.config in
    let entries = entries_fit c.args.groups.now in
    let count = c.requires.counted in omega arith
