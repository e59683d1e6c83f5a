use Rattle.std.proofs.Common.{rules}
use Rattle.dispatch.proofs.datagram.deliver.Goals as goal

pub returns-in-Err-clause-delivered : goal.returns-in-Err-clause-delivered
returns-in-Err-clause-delivered g c = search rules

pub returns-in-Err-clause-undelivered : goal.returns-in-Err-clause-undelivered
returns-in-Err-clause-undelivered g c = search rules

pub returns-in-Ok-clause-delivered : goal.returns-in-Ok-clause-delivered
returns-in-Ok-clause-delivered g c = search rules

pub returns-in-Ok-clause-undelivered : goal.returns-in-Ok-clause-undelivered
returns-in-Ok-clause-undelivered g c = search rules

pub returns-in_default : goal.returns-in_default
returns-in_default g c = search rules
