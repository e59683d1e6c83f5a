use Rattle.std.proofs.Common.{rules}
use Rattle.retire.proofs.allocation.Allocation.none.Goals as goal

pub returns : goal.returns
returns g c = search rules
