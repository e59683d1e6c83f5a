use Rattle.std.proofs.Common.{rules}
use Rattle.command_line.proofs.sample.program.Goals as goal

pub returns-clause-charge : goal.returns-clause-charge
returns-clause-charge c = search rules

pub returns-clause-words : goal.returns-clause-words
returns-clause-words c = search rules
