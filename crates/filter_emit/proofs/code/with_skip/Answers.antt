use Rattle.std.proofs.Common.{rules}
use Rattle.filter_emit.proofs.code.with_skip.Goals as goal

pub returns-in-WhenTrue : goal.returns-in-WhenTrue
returns-in-WhenTrue c = search rules

pub returns-in-WhenFalse : goal.returns-in-WhenFalse
returns-in-WhenFalse c = search rules

pub returns-in-Always : goal.returns-in-Always
returns-in-Always c = search rules
