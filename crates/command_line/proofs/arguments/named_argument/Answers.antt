use Rattle.std.proofs.Common.{rules}
use Rattle.command_line.proofs.arguments.named_argument.Goals as goal

pub returns-clause-local : goal.returns-clause-local
returns-clause-local c = search rules

pub returns-clause-rule : goal.returns-clause-rule
returns-clause-rule c = search rules
