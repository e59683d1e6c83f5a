use Rattle.std.proofs.Common.{subst, true, ℕ}
use Rattle.serve_udp.specs.body.FrontTurns.{HandsOne}
use Rattle.serve_udp.proofs.FrontTurnLemmas.{front_begins, front_goes_on}
use Rattle.serve_udp.proofs.front_turn.hand_datagrams.Goals as goal

pub loop-receive-init : goal.loop-receive-init
loop-receive-init g c = front_begins _ _ _

pub loop-receive-preserved : goal.loop-receive-preserved
loop-receive-preserved g c =
    let wire = g.F.FrontWire.log in
    front_goes_on _ _ _ _ _ _ _ _ c.loop-receive.invariant
    (subst (λ (room : ℕ). HandsOne room (wire c.loop-receive.wire) (wire c.hand_one.new.wire) c.loop-receive.queues c.hand_one.new.queues true) c.loop-receive.auto.buf
    c.if-not-hand_one.ensures)
