use Rattle.std.proofs.Common.{◌∙◌, sym}
use Rattle.config_image.proofs.LengthLemmas.{group_counted}
use Rattle.config_image.proofs.size.programs_len.Goals as goal

pub returns-clause-words : goal.returns-clause-words
returns-clause-words g c = c.program_words.ensures.words ∙ sym (group_counted c.args.group.now)
