use Rattle.versions.proofs.RowLemmas.{row_of_image, row_behind_image}
use Rattle.versions.proofs.layout.row_word.Goals as goal

pub returns-then-i-image_len : goal.returns-then-i-image_len
returns-then-i-image_len g c = row_of_image c.args.config.now c.args.i c.image_word.result c.requires c.image_word.ensures.word_exact

pub returns-else-i-image_len : goal.returns-else-i-image_len
returns-else-i-image_len g c = row_behind_image c.args.config.now c.args.i c.image_len.result c.requires c.image_len.ensures.length_exact c.if-i-image_len.false
