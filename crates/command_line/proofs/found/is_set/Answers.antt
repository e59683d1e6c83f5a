use Rattle.std.proofs.Common.{rules}
use Rattle.command_line.proofs.found.is_set.Goals as goal

pub returns : goal.returns
returns c = search rules
