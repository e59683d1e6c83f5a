use Rattle.std.proofs.Common.{rules}
use Rattle.ipv4_fields.proofs.datagram.flow.Goals as goal

pub destination-requires-clause-place : goal.destination-requires-clause-place
destination-requires-clause-place c = search rules

pub source-requires-clause-place : goal.source-requires-clause-place
source-requires-clause-place c = search rules

pub udp_length-udp_length-requires-clause-place : goal.udp_length-udp_length-requires-clause-place
udp_length-udp_length-requires-clause-place c = search rules
