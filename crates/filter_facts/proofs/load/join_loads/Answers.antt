use Rattle.std.proofs.Common.{rules}
use Rattle.filter_facts.proofs.load.join_loads.Goals as goal

pub returns-in-Some-Some-clause-both : goal.returns-in-Some-Some-clause-both
returns-in-Some-Some-clause-both c = search rules

pub returns-in-Some-Some-clause-of_other : goal.returns-in-Some-Some-clause-of_other
returns-in-Some-Some-clause-of_other c = search rules

pub returns-in_default-clause-of_one : goal.returns-in_default-clause-of_one
returns-in_default-clause-of_one c = search rules

pub returns-in_default-clause-of_other : goal.returns-in_default-clause-of_other
returns-in_default-clause-of_other c = search rules
