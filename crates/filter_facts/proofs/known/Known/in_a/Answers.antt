use Rattle.std.proofs.Common.{rules}
use Rattle.filter_facts.proofs.known.Known.in_a.Goals as goal

pub returns-clause-exact : goal.returns-clause-exact
returns-clause-exact c = search rules

pub returns-clause-known : goal.returns-clause-known
returns-clause-known c = search rules
