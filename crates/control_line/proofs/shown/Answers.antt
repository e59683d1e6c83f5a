use Rattle.std.proofs.Common.{rules}
use Rattle.control_line.proofs.shown.Goals as goal

pub returns : goal.returns
returns c = search rules
