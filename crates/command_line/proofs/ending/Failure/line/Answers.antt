use Rattle.std.proofs.Common.{rules}
use Rattle.command_line.proofs.ending.Failure.line.Goals as goal

pub returns-in-BindFailed : goal.returns-in-BindFailed
returns-in-BindFailed c = search rules

pub returns-in-NoAnswer : goal.returns-in-NoAnswer
returns-in-NoAnswer c = search rules

pub returns-in-OutOfMemory : goal.returns-in-OutOfMemory
returns-in-OutOfMemory c = search rules

pub returns-in-PollFailed : goal.returns-in-PollFailed
returns-in-PollFailed c = search rules

pub returns-in-ReadFailed : goal.returns-in-ReadFailed
returns-in-ReadFailed c = search rules

pub returns-in-RulesChanged : goal.returns-in-RulesChanged
returns-in-RulesChanged c = search rules

pub returns-in-SpawnFailed : goal.returns-in-SpawnFailed
returns-in-SpawnFailed c = search rules

pub returns-in-WriteFailed : goal.returns-in-WriteFailed
returns-in-WriteFailed c = search rules
