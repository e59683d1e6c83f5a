use Rattle.std.proofs.Common.{rules}
use Rattle.command_line.proofs.found.receive_named.Goals as goal

pub returns-in-queued : goal.returns-in-queued
returns-in-queued c = search rules

pub returns-in-direct : goal.returns-in-direct
returns-in-direct c = search rules
