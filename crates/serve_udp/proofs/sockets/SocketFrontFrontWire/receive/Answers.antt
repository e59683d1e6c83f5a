use Rattle.serve_udp.proofs.FrontTurnLemmas.{is_cut}
use Rattle.serve_udp.proofs.sockets.SocketFrontFrontWire.receive.Goals as goal

pub returns-in-Ok-clause-logged : goal.returns-in-Ok-clause-logged
returns-in-Ok-clause-logged c = is_cut _ _ c.in-Ok.ensures.0
