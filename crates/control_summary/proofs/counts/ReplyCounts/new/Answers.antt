use Rattle.std.proofs.Common.{rules}
use Rattle.control_summary.proofs.counts.ReplyCounts.new.Goals as goal

pub returns : goal.returns
returns c = search rules
