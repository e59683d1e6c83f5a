use Rattle.std.proofs.Common.{◌+◌, ◌≡◌, ◌≤◌, None, length}
use Rattle.packet_capture.specs.body.Progress.{IsCounted}
use Rattle.packet_capture.proofs.count_records.Given as goal

abbrev pub invariant-loop-captured : goal.invariant-loop-captured
invariant-loop-captured l = record {
  counted : IsCounted l.unwrap l.header l.fn.bytes l.summary l.rest;
  room : l.summary.whole + l.summary.cut + l.summary.other + length l.rest ≤ length l.fn.bytes;
  header : l.summary.header ≡ l.header;
  uncut : l.summary.cut_at ≡ None;
}

abbrev pub decreases-loop-captured : goal.decreases-loop-captured
decreases-loop-captured l = length l.rest
