use Rattle.std.proofs.Common.{arith}
use Rattle.serve_udp.proofs.TurnLemmas.{at_room, turn_begins, turn_finds_none, turn_goes_on, turn_is_over, turn_stops}
use Rattle.serve_udp.proofs.control_turn.answer_datagrams.Goals as goal

pub loop-datagram-init : goal.loop-datagram-init
loop-datagram-init g c = turn_begins _ _ _ _

pub loop-datagram-preserved : goal.loop-datagram-preserved
loop-datagram-preserved g c =
    turn_goes_on _ _ c.loop-datagram._datagram _ _ _ _ _ _ c.loop-datagram.invariant (at_room _ _ _ _ _ _ _ _ c.loop-datagram.auto.buf c.in-Answered.ensures)

pub returns-in-Nothing : goal.returns-in-Nothing
returns-in-Nothing g c = record { answered_each = turn_finds_none _ _ c.loop-datagram._datagram _ _ _ _ _ _ c.loop-datagram.invariant c.in-Nothing.ensures }

pub returns-in-Stop : goal.returns-in-Stop
returns-in-Stop g c = record {
  answered_each = turn_stops _ _ c.loop-datagram._datagram _ _ _ _ _ _ c.loop-datagram.invariant (at_room _ _ _ _ _ _ _ _ c.loop-datagram.auto.buf c.in-Stop.ensures);
}

pub returns : goal.returns
returns g c = record { answered_each = turn_is_over _ _ c.loop-datagram._datagram _ _ _ _ c.loop-datagram.invariant (omega arith) }
