use Rattle.std.proofs.Common.{rules}
use Rattle.filter_facts.proofs.known.Known.ip.Goals as goal

pub returns-in-Any-clause-exact : goal.returns-in-Any-clause-exact
returns-in-Any-clause-exact c = search rules

pub returns-in-Any-clause-known : goal.returns-in-Any-clause-known
returns-in-Any-clause-known c = search rules

pub returns-in-Ipv4-clause-exact : goal.returns-in-Ipv4-clause-exact
returns-in-Ipv4-clause-exact c = search rules

pub returns-in-Ipv4-clause-known : goal.returns-in-Ipv4-clause-known
returns-in-Ipv4-clause-known c = search rules

pub returns-in-NotIpv4-clause-exact : goal.returns-in-NotIpv4-clause-exact
returns-in-NotIpv4-clause-exact c = search rules

pub returns-in-NotIpv4-clause-known : goal.returns-in-NotIpv4-clause-known
returns-in-NotIpv4-clause-known c = search rules
