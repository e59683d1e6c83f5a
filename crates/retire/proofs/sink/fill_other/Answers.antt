use Rattle.std.proofs.Common.{rules}
use Rattle.read_section.proofs.FilledLemmas.{row_inside}
use Rattle.retire.proofs.sink.fill_other.Goals as goal

pub row_word-requires-clause-row : goal.row_word-requires-clause-row
row_word-requires-clause-row c = row_inside c.args.row c.requires.free.0

pub returns-else-row_word-word : goal.returns-else-row_word-word
returns-else-row_word-word c = search rules

pub returns-then-row_word-word : goal.returns-then-row_word-word
returns-then-row_word-word c = search rules
