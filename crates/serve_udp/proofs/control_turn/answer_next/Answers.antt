use Rattle.std.proofs.Common.{refl}
use Rattle.serve_udp.proofs.TurnLemmas.{one_answered, one_receive_failed}
use Rattle.serve_udp.proofs.control_turn.answer_next.Goals as goal

pub returns-then-stops : goal.returns-then-stops
returns-then-stops g c =
    one_answered _ c.args.bound.now _ _ _ _ (g.C.ControlWire.log c.receive.new.self) c.in-Datagram.from c.in-Datagram.len c.receive.new.buf _ _ _ c.receive.auto.buf
    c.in-Datagram.ensures.logged refl c.answer_one-stops.ensures c.if-stops.true

pub returns-else-stops : goal.returns-else-stops
returns-else-stops g c =
    one_answered _ c.args.bound.now _ _ _ _ (g.C.ControlWire.log c.receive.new.self) c.in-Datagram.from c.in-Datagram.len c.receive.new.buf _ _ _ c.receive.auto.buf
    c.in-Datagram.ensures.logged refl c.answer_one-stops.ensures c.if-stops.false

pub returns-in-Nothing : goal.returns-in-Nothing
returns-in-Nothing g c = (refl, c.in-Nothing.ensures.logged)

pub returns-in-Failed : goal.returns-in-Failed
returns-in-Failed g c = one_receive_failed _ c.args.bound.now _ _ _ _ c.in-Failed.ensures.logged refl
