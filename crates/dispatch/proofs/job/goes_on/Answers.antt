use Rattle.std.proofs.Common.{rules}
use Rattle.dispatch.proofs.job.goes_on.Goals as goal

pub returns-in-Err-CountFull-clause-ends : goal.returns-in-Err-CountFull-clause-ends
returns-in-Err-CountFull-clause-ends c = search rules

pub returns-in-Err-CountFull-clause-goes_on : goal.returns-in-Err-CountFull-clause-goes_on
returns-in-Err-CountFull-clause-goes_on c = search rules

pub returns-in-Err-ReceiveFailed-clause-ends : goal.returns-in-Err-ReceiveFailed-clause-ends
returns-in-Err-ReceiveFailed-clause-ends c = search rules

pub returns-in-Err-ReceiveFailed-clause-goes_on : goal.returns-in-Err-ReceiveFailed-clause-goes_on
returns-in-Err-ReceiveFailed-clause-goes_on c = search rules

pub returns-in-Ok-clause-ends : goal.returns-in-Ok-clause-ends
returns-in-Ok-clause-ends c = search rules

pub returns-in-Ok-clause-goes_on : goal.returns-in-Ok-clause-goes_on
returns-in-Ok-clause-goes_on c = search rules
