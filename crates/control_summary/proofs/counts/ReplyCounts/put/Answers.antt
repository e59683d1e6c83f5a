use Rattle.std.proofs.Common.{rules}
use Rattle.control_summary.proofs.counts.ReplyCounts.put.Goals as goal

pub returns-else-not-self : goal.returns-else-not-self
returns-else-not-self c = search rules

pub returns-then-is_err : goal.returns-then-is_err
returns-then-is_err c = search rules
