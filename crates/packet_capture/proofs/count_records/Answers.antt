use Rattle.std.proofs.Common.{◌∙◌, arith}
use Rattle.packet_capture.proofs.CaptureLemmas.{CountsOne-sum, IsCounted-more, IsRecord-shorter}
use Rattle.packet_capture.proofs.count_records.Goals as goal

pub loop-captured-preserved : goal.loop-captured-preserved
loop-captured-preserved c =
    let before = c.loop-captured.summary in
    let after = c.count.new.summary in
    let is_record = c.in-Some.ensures in
    let shorter = IsRecord-shorter c.args.header.order c.loop-captured.rest.now c.in-Some.captured.now c.in-Some.behind.now is_record in
    let sum = CountsOne-sum c.args.unwrap c.content_of.result before after c.count.ensures in
    let room = c.loop-captured.invariant.room in
    record {
      counted = IsCounted-more c.args.unwrap c.args.header c.args.bytes.now c.loop-captured.rest.now c.in-Some.captured.now c.in-Some.behind.now c.content_of.result before after c.loop-captured.invariant.counted is_record c.content_of.ensures c.count.ensures;
      room = omega (arith, shorter, sum, room);
      header = c.count.ensures.header ∙ c.loop-captured.invariant.header;
      uncut = c.count.ensures.cut_at ∙ c.loop-captured.invariant.uncut;
    }
