use Rattle.std.proofs.Common.{rules}
use Rattle.filter_facts.proofs.known.Known.first_fragment.Goals as goal

pub returns-in-Ipv4-clause-exact : goal.returns-in-Ipv4-clause-exact
returns-in-Ipv4-clause-exact c = search rules

pub returns-in-Ipv4-clause-known : goal.returns-in-Ipv4-clause-known
returns-in-Ipv4-clause-known c = search rules

pub returns-in_default : goal.returns-in_default
returns-in_default c = search rules
