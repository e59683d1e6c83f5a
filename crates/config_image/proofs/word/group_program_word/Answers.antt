use Rattle.std.proofs.Common.{◌∙◌, ap, length, refl, sym}
use Rattle.config_image.specs.Image.{filter_words, group_program_words, words_of}
use Rattle.config_image.proofs.WordLemmas.{later_inside, later_word}
use Rattle.config_image.proofs.word.group_program_word.Goals as goal

pub filter_word-requires : goal.filter_word-requires
filter_word-requires g c =
    let selector = ap length (c.words-selector.ensures.words ∙ ap words_of c.selector.ensures.selector) in
    record { inside = rw c.members.ensures.members (later_inside (group_program_words c.args.group.now) (words_of c.args.group.now.selector) (filter_words c.args.group.now.members) c.args.word _ refl selector c.if-word-selector.false c.requires.inside) }

pub returns-else-word-selector : goal.returns-else-word-selector
returns-else-word-selector g c =
    let selector = ap length (c.words-selector.ensures.words ∙ ap words_of c.selector.ensures.selector) in
    sym (later_word (group_program_words c.args.group.now) (words_of c.args.group.now.selector) (filter_words c.args.group.now.members) c.args.word _ refl selector c.if-word-selector.false) ∙ rw c.members.ensures.members at c.filter_word.ensures
