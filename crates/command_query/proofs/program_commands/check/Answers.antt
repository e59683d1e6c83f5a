use Rattle.std.proofs.Common.{rules}
use Rattle.command_query.proofs.program_commands.check.Goals as goal

pub returns-clause-answer : goal.returns-clause-answer
returns-clause-answer c = search rules

pub returns-clause-stopped : goal.returns-clause-stopped
returns-clause-stopped c = search rules
