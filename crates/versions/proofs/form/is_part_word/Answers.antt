use Rattle.std.proofs.Common.{rules}
use Rattle.versions.proofs.form.is_part_word.Goals as goal

pub returns : goal.returns
returns c = search rules

pub returns-then-k-part_len : goal.returns-then-k-part_len
returns-then-k-part_len c = search rules
