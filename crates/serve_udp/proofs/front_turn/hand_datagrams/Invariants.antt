use Rattle.std.proofs.Common.{length}
use Rattle.serve_udp.specs.body.FrontTurns.{IsFrontBegun}
use Rattle.serve_udp.proofs.front_turn.hand_datagrams.Given as goal

abbrev pub invariant-loop-receive : goal.invariant-loop-receive
invariant-loop-receive g l = IsFrontBegun (length l.fn.buf) l._receive (g.F.FrontWire.log l.fn.wire) (g.F.FrontWire.log l.wire) l.fn.queues l.queues
