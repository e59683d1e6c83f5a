use Rattle.std.proofs.Common.{rules}
use Rattle.filter_parse.proofs.number.is_decimal.Goals as goal

pub returns-else-first-gt48 : goal.returns-else-first-gt48
returns-else-first-gt48 c = search rules

pub returns-in-empty : goal.returns-in-empty
returns-in-empty c = search rules

pub returns-in-len1 : goal.returns-in-len1
returns-in-len1 c = search rules

pub returns-then-first-gt48 : goal.returns-then-first-gt48
returns-then-first-gt48 c = search rules
