use Rattle.std.proofs.Common.{rules}
use Rattle.filter_tree.proofs.measures.weight_of_guards.Goals as goal

pub returns-clause-small : goal.returns-clause-small
returns-clause-small c = search rules

pub returns-clause-weight : goal.returns-clause-weight
returns-clause-weight c = search rules
