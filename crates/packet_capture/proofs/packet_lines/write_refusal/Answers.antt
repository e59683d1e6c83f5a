use Rattle.std.proofs.Common.{codes, ◌++◌}
use Rattle.std.proofs.KnownBytes.{Appends-kept}
use Rattle.command_line.specs.Ending.{AppendsBeginning}
use Rattle.packet_capture.proofs.LineLemmas.{begins_whole, on_err}
use Rattle.packet_capture.specs.Packets.{header_fault_text}
use Rattle.packet_capture.proofs.packet_lines.write_refusal.Goals as goal

pub returns-in_err-map_err-clause-beginning : goal.returns-in_err-map_err-clause-beginning
returns-in_err-map_err-clause-beginning g c =
    let start = g.W.CountedWrite.contents c.args.out.now in let mid = g.W.CountedWrite.contents c.write_fault.new.out in let end = g.W.CountedWrite.contents c.flush.new.self in
    let text = header_fault_text c.args.fault ++ codes "\n" in
    on_err c.from_residual-in_err-map_err.result (AppendsBeginning start end text)
    (begins_whole start end text (Appends-kept start mid end text c.in_ok-write_fault.ensures.written c.flush.ensures.contents_kept))
