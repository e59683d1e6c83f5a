use Rattle.packet_capture.proofs.BeginningLemmas.{fault_begun, nothing_begun, text_begun}
use Rattle.packet_capture.proofs.LineLemmas.{on_err}
use Rattle.packet_capture.specs.Packets.{WritesBeginning}
use Rattle.packet_capture.proofs.packet_lines.print_packets.Goals as goal

pub returns-in-Err-clause-beginning : goal.returns-in-Err-clause-beginning
returns-in-Err-clause-beginning g c =
    fault_begun c.args.unwrap c.args.file.now c.in-Err.fault (g.W.CountedWrite.contents c.args.out.now) (g.W.CountedWrite.contents c.write_refusal.new.out) c.write_refusal.result
    c.in-Err.ensures.fault c.write_refusal.ensures.beginning

pub returns-in_err-counts-clause-beginning : goal.returns-in_err-counts-clause-beginning
returns-in_err-counts-clause-beginning g c =
    let known = g.W.CountedWrite.contents c.args.out.now in
    on_err c.from_residual.result (WritesBeginning c.args.unwrap c.args.file.now known known) (nothing_begun c.args.unwrap c.args.file.now c.in-Ok.summary known c.in-Ok.ensures.summary)

pub returns-in_err-status-clause-beginning : goal.returns-in_err-status-clause-beginning
returns-in_err-status-clause-beginning g c =
    let before = g.W.CountedWrite.contents c.args.out.now in let after = g.W.CountedWrite.contents c.write_capture.new.out in
    on_err c.from_residual-in_err-status.result (WritesBeginning c.args.unwrap c.args.file.now before after)
    (text_begun c.args.unwrap c.args.file.now c.in-Ok.summary before after c.in-Ok.ensures.summary c.in_err-status.ensures.beginning)
