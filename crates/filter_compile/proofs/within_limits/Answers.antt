use Rattle.std.proofs.Common.{rules}
use Rattle.filter_compile.proofs.within_limits.Goals as goal

pub returns-then-size-clause-too_long : goal.returns-then-size-clause-too_long
returns-then-size-clause-too_long g c = search rules
