use Rattle.std.proofs.Common.{◌∙◌, rules}
use Rattle.packet_capture.proofs.BeginningLemmas.{BeginsRecords-more}
use Rattle.packet_capture.proofs.LineLemmas.{on_err}
use Rattle.packet_capture.proofs.PacketLemmas.{WritesRecords-more}
use Rattle.packet_capture.specs.body.Progress.{BeginsRecords}
use Rattle.packet_capture.proofs.packet_lines.write_packets.Goals as goal

pub loop-captured-preserved : goal.loop-captured-preserved
loop-captured-preserved g c =
    let before = c.loop-captured.invariant in let wrote = c.in_ok-write_content.ensures in (
      WritesRecords-more c.args.unwrap c.args.header c.args.records.now c.loop-captured.rest.now c.in-Some.captured.now c.in-Some.behind.now c.content_of.result
          (g.W.CountedWrite.contents c.args.out.now) (g.W.CountedWrite.contents c.loop-captured.out) (g.W.CountedWrite.contents c.write_content.new.out)
          before.0 c.in-Some.ensures c.content_of.ensures wrote.written,
      wrote.device_failed ∙ before.1,
    )

pub returns-in_err-write_content-clause-beginning : goal.returns-in_err-write_content-clause-beginning
returns-in_err-write_content-clause-beginning g c =
    let before = g.W.CountedWrite.contents c.args.out.now in let after = g.W.CountedWrite.contents c.write_content.new.out in
    on_err c.from_residual.result (BeginsRecords c.args.unwrap c.args.header c.args.records.now before after)
    (BeginsRecords-more c.args.unwrap c.args.header c.args.records.now c.loop-captured.rest.now c.in-Some.captured.now c.in-Some.behind.now c.content_of.result
    before (g.W.CountedWrite.contents c.loop-captured.out) after c.loop-captured.invariant.0 c.in-Some.ensures c.content_of.ensures c.in_err-write_content.ensures.beginning)

pub returns-clause-beginning : goal.returns-clause-beginning
returns-clause-beginning g c = search rules

pub returns-clause-failed : goal.returns-clause-failed
returns-clause-failed g c = search rules

pub returns-clause-no_memory : goal.returns-clause-no_memory
returns-clause-no_memory g c = search rules

pub returns-clause-no_more : goal.returns-clause-no_more
returns-clause-no_more g c = search rules

pub returns-clause-written : goal.returns-clause-written
returns-clause-written g c = search rules
