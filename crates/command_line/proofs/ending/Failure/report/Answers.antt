use Rattle.std.proofs.Common.{rules}
use Rattle.command_line.proofs.ending.Failure.report.Goals as goal

pub returns-clause-failed : goal.returns-clause-failed
returns-clause-failed g c = search rules

pub returns-clause-told : goal.returns-clause-told
returns-clause-told g c = search rules
