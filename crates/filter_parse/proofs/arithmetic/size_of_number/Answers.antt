use Rattle.std.proofs.Common.{rules}
use Rattle.filter_parse.proofs.arithmetic.size_of_number.Goals as goal

pub returns-in-1 : goal.returns-in-1
returns-in-1 c = search rules

pub returns-in-2 : goal.returns-in-2
returns-in-2 c = search rules

pub returns-in-4 : goal.returns-in-4
returns-in-4 c = search rules

pub returns-in_default : goal.returns-in_default
returns-in_default c = search rules
