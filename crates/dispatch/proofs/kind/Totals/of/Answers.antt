use Rattle.std.proofs.Common.{rules}
use Rattle.dispatch.proofs.kind.Totals.of.Goals as goal

pub returns : goal.returns
returns c = search rules
