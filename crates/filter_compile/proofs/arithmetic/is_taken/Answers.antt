use Rattle.std.proofs.Common.{rules}
use Rattle.filter_compile.proofs.arithmetic.is_taken.Goals as goal

pub returns-in-Div : goal.returns-in-Div
returns-in-Div c = search rules
