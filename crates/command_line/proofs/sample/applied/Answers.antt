use Rattle.std.proofs.Common.{rules}
use Rattle.command_line.proofs.sample.applied.Goals as goal

pub returns-in-Err-OutOfMemory : goal.returns-in-Err-OutOfMemory
returns-in-Err-OutOfMemory c = search rules

pub returns-in-Ok : goal.returns-in-Ok
returns-in-Ok c = search rules
