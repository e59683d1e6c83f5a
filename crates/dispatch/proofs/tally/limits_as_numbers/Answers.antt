use Rattle.std.proofs.Common.{rules}
use Rattle.dispatch.proofs.tally.limits_as_numbers.Goals as goal

pub returns-clause-counts : goal.returns-clause-counts
returns-clause-counts c = search rules
