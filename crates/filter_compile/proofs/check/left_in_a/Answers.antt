use Rattle.std.proofs.Common.{rules}
use Rattle.filter_compile.proofs.check.left_in_a.Goals as goal

pub returns-in-Covered : goal.returns-in-Covered
returns-in-Covered c = search rules
