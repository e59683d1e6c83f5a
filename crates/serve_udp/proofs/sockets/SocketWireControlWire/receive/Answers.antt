use Rattle.std.proofs.Common.{rules}
use Rattle.serve_udp.proofs.TurnLemmas.{asks_cut}
use Rattle.serve_udp.proofs.sockets.SocketWireControlWire.receive.Goals as goal

pub returns-in-Some-clause-logged : goal.returns-in-Some-clause-logged
returns-in-Some-clause-logged c = asks_cut c.in-Some.from _ _ (search rules)
