use Rattle.std.proofs.Common.{rules}
use Rattle.filter_parse.proofs.limits.one_more_bracket.Goals as goal

pub returns-else-count : goal.returns-else-count
returns-else-count c = search rules

pub returns-then-count : goal.returns-then-count
returns-then-count c = search rules
