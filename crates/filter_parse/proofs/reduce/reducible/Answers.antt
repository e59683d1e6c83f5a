use Rattle.std.proofs.Common.{rules}
use Rattle.filter_parse.proofs.reduce.reducible.Goals as goal

pub returns-in-Some-Operated : goal.returns-in-Some-Operated
returns-in-Some-Operated g c = search rules

pub returns-in_default : goal.returns-in_default
returns-in_default g c = search rules

pub returns-in_default-2 : goal.returns-in_default-2
returns-in_default-2 g c = search rules

pub returns-in_default-3 : goal.returns-in_default-3
returns-in_default-3 g c = search rules
