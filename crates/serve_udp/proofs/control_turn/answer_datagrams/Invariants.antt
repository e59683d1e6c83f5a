use Rattle.std.proofs.Common.{length}
use Rattle.serve_udp.specs.body.Turns.{IsBegun}
use Rattle.serve_udp.proofs.control_turn.answer_datagrams.Given as goal

abbrev pub invariant-loop-datagram : goal.invariant-loop-datagram
invariant-loop-datagram g l =
    IsBegun (length l.fn.buf) l.fn.bound l._datagram (g.C.ControlWire.log l.fn.wire) (g.C.ControlWire.log l.wire)
    (record { operator = l.fn.operator; tally = l.fn.named.tally; members = g.M.MemberTotals.table l.fn.members })
    (record { operator = l.operator; tally = l.named.tally; members = g.M.MemberTotals.table l.members })
