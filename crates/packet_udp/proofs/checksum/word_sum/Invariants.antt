use Rattle.std.proofs.Common.{◌≡◌, ◌+◌, ◌*◌, ◌≤◌, length}
use Rattle.packet_udp.specs.body.Bytes.{word_sum}
use Rattle.packet_udp.proofs.checksum.word_sum.Given as goal

abbrev pub invariant-loop-left : goal.invariant-loop-left
invariant-loop-left l = record {
  sum : l.sum + word_sum l.left ≡ word_sum l.bytes;
  most : l.sum + 65536 * length l.left ≤ 65536 * length l.bytes;
  shorter : length l.left ≤ length l.bytes;
}

abbrev pub decreases-loop-left : goal.decreases-loop-left
decreases-loop-left l = length l.left
