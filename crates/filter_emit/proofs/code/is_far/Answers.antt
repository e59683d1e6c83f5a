use Rattle.std.proofs.Common.{rules}
use Rattle.filter_emit.proofs.code.is_far.Goals as goal

pub returns-clause-far : goal.returns-clause-far
returns-clause-far c = search rules

pub returns-clause-near : goal.returns-clause-near
returns-clause-near c = search rules
