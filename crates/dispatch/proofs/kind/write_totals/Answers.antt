use Rattle.std.proofs.Common.{rules}
use Rattle.dispatch.proofs.kind.write_totals.Goals as goal

pub returns : goal.returns
returns g c = search rules
