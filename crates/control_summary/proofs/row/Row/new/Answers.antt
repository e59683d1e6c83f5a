use Rattle.std.proofs.Common.{rules}
use Rattle.control_summary.proofs.row.Row.new.Goals as goal

pub returns : goal.returns
returns c = search rules
