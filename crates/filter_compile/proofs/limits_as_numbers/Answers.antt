use Rattle.std.proofs.Common.{refl}
use Rattle.filter_compile.proofs.limits_as_numbers.Goals as goal

pub returns-clause-accepted : goal.returns-clause-accepted
returns-clause-accepted c = refl
