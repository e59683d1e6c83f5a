use Rattle.std.proofs.Common.{rules}
use Rattle.control_line.proofs.reply.Reply.swept.Goals as goal

pub returns : goal.returns
returns c = search rules
