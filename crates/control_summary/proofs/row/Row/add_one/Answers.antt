use Rattle.std.proofs.Common.{rules}
use Rattle.control_summary.proofs.row.Row.add_one.Goals as goal

pub returns : goal.returns
returns c = search rules
