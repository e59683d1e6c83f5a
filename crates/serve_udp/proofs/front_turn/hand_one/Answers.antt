use Rattle.std.proofs.Common.{refl}
use Rattle.serve_udp.proofs.FrontTurnLemmas.{handed_whole}
use Rattle.serve_udp.proofs.front_turn.hand_one.Goals as goal

pub returns-in-Datagram : goal.returns-in-Datagram
returns-in-Datagram g c =
    handed_whole _ _ _ _ _ _ c.receive.new.buf _ c.receive.auto.buf c.in-Datagram.ensures.logged refl c.arrive.ensures.handed_on c.arrive.ensures.turn
