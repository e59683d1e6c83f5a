use Rattle.std.proofs.Common.{◌≡◌, length}
use Rattle.packet_capture.specs.body.Progress.{WritesRecords}
use Rattle.packet_capture.proofs.packet_lines.write_packets.Given as goal

abbrev pub invariant-loop-captured : goal.invariant-loop-captured
invariant-loop-captured g l = WritesRecords l.unwrap l.header l.fn.records l.rest (g.W.CountedWrite.contents l.fn.out) (g.W.CountedWrite.contents l.out)
    × (g.W.CountedWrite.failures l.out ≡ g.W.CountedWrite.failures l.fn.out)

abbrev pub decreases-loop-captured : goal.decreases-loop-captured
decreases-loop-captured g l = length l.rest
