use Rattle.std.proofs.Common.{rules}
use Rattle.dispatch.proofs.tally.Tally.totals.Goals as goal

pub returns : goal.returns
returns c = search rules
