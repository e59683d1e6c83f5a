use Rattle.std.proofs.Common.{rules}
use Rattle.filter_emit.proofs.code.Code.label.Goals as goal

pub returns-clause-empty : goal.returns-clause-empty
returns-clause-empty g c = search rules

pub returns-clause-by : goal.returns-clause-by
returns-clause-by g c = search rules
