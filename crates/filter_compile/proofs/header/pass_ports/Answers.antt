use Rattle.filter_compile.proofs.header.pass_ports.Goals as goal

pub returns-in-Tcp : goal.returns-in-Tcp
returns-in-Tcp g c = record { guards = rw c.in-Tcp.is c.pass_protocol.ensures.guards }

pub returns-in-Udp : goal.returns-in-Udp
returns-in-Udp g c = record { guards = rw c.in-Udp.is c.pass_protocol-in-Udp.ensures.guards }

pub returns-in-Unnamed : goal.returns-in-Unnamed
returns-in-Unnamed g c = record { guards = rw c.in-Unnamed.is c.pass_any_transport.ensures.guards }
