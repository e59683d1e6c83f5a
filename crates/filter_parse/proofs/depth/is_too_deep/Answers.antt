use Rattle.std.proofs.Common.{arith, rules}
use Rattle.filter_parse.proofs.PostfixLemmas.{few-levels}
use Rattle.filter_parse.proofs.depth.is_too_deep.Goals as goal

pub returns-then-items-clause-shallow : goal.returns-then-items-clause-shallow
returns-then-items-clause-shallow g c = λ e. let few = few-levels c.args.items.now in let short = c.if-items.true in omega arith

pub returns-clause-deep : goal.returns-clause-deep
returns-clause-deep g c = search rules

pub returns-clause-shallow : goal.returns-clause-shallow
returns-clause-shallow g c = search rules

pub returns-then-items-clause-deep : goal.returns-then-items-clause-deep
returns-then-items-clause-deep g c = search rules
