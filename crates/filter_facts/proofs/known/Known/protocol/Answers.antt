use Rattle.std.proofs.Common.{rules}
use Rattle.filter_facts.proofs.known.Known.protocol.Goals as goal

pub returns-in-Ipv4-Is-default-default-clause-exact : goal.returns-in-Ipv4-Is-default-default-clause-exact
returns-in-Ipv4-Is-default-default-clause-exact c = search rules

pub returns-in-Ipv4-Is-default-default-clause-known : goal.returns-in-Ipv4-Is-default-default-clause-known
returns-in-Ipv4-Is-default-default-clause-known c = search rules

pub returns-in-Ipv4-IsNot-default-default-clause-exact : goal.returns-in-Ipv4-IsNot-default-default-clause-exact
returns-in-Ipv4-IsNot-default-default-clause-exact c = search rules

pub returns-in-Ipv4-IsNot-default-default-clause-known : goal.returns-in-Ipv4-IsNot-default-default-clause-known
returns-in-Ipv4-IsNot-default-default-clause-known c = search rules

pub returns-in_default-2-clause-exact : goal.returns-in_default-2-clause-exact
returns-in_default-2-clause-exact c = search rules

pub returns-in_default-2-clause-known : goal.returns-in_default-2-clause-known
returns-in_default-2-clause-known c = search rules

pub returns-in_default-3 : goal.returns-in_default-3
returns-in_default-3 c = search rules

pub returns-in_default-clause-exact : goal.returns-in_default-clause-exact
returns-in_default-clause-exact c = search rules

pub returns-in_default-clause-known : goal.returns-in_default-clause-known
returns-in_default-clause-known c = search rules
