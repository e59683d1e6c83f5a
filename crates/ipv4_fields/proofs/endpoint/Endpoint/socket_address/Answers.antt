use Rattle.std.proofs.Common.{rules}
use Rattle.std.specs.Net.Addr.{IsIpv4OfBits}
use Rattle.ipv4_fields.proofs.endpoint.Endpoint.socket_address.Goals as goal

pub returns-clause-address : goal.returns-clause-address
unfolding IsIpv4OfBits
returns-clause-address c = search rules

pub returns-clause-port : goal.returns-clause-port
returns-clause-port c = search rules
