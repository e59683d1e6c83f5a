use Rattle.filter_compile.proofs.HeaderLemmas.{destination_address_loads, destination_port_loads, protocol_loads, source_address_loads, source_port_loads}
use Rattle.filter_compile.proofs.load.load_of.Goals as goal

pub returns-in-Protocol-clause-loads : goal.returns-in-Protocol-clause-loads
returns-in-Protocol-clause-loads c = rw c.in-Protocol.is protocol_loads

pub returns-in-Source-clause-loads : goal.returns-in-Source-clause-loads
returns-in-Source-clause-loads c = rw c.in-Source.is source_address_loads

pub returns-in-Destination-clause-loads : goal.returns-in-Destination-clause-loads
returns-in-Destination-clause-loads c = rw c.in-Destination.is destination_address_loads

pub returns-in-SourcePort-clause-loads : goal.returns-in-SourcePort-clause-loads
returns-in-SourcePort-clause-loads c = rw c.in-SourcePort.is source_port_loads

pub returns-in-DestinationPort-clause-loads : goal.returns-in-DestinationPort-clause-loads
returns-in-DestinationPort-clause-loads c = rw c.in-DestinationPort.is destination_port_loads
