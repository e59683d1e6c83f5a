use Rattle.std.proofs.Common.{Ok, Option, Result, ap, arith, drop, inl, inr, length-drop, subst, sym, ℕ, rules}
use Rattle.command_line.specs.declared.ending.Failure.{Failure}
use Rattle.command_line.specs.declared.ending.Failure.TheVariants.{OutOfMemory}
use Rattle.command_line.specs.declared.ending.Status.{Status}
use Rattle.command_line.specs.Ending.{AppendsBeginning}
use Rattle.packet_capture.proofs.BeginningLemmas.{cut_begun, whole_begun}
use Rattle.packet_capture.proofs.CaptureLemmas.{AreRecords-shorter, behind_header, place_of-some}
use Rattle.packet_capture.proofs.LineLemmas.{on_err}
use Rattle.packet_capture.proofs.PacketLemmas.{error_is, text_written}
use Rattle.packet_capture.specs.Packets.{cut_text}
use Rattle.packet_capture.specs.body.Progress.{BeginsCapture, BeginsRecords, WritesRecords}
use Rattle.packet_capture.proofs.packet_lines.write_capture.Goals as goal

pub returns-in_err-rest-clause-no_memory : goal.returns-in_err-rest-clause-no_memory
returns-in_err-rest-clause-no_memory g c = λ is.
    let first = c.in_err-rest.ensures.no_memory (error_is c.from_residual.result c.in_err-rest.field-0.0 OutOfMemory c.from_residual.ensures.1 is) in
    (first.0, behind_header (λ bytes. WritesRecords c.args.unwrap c.args.header bytes first.0 (g.W.CountedWrite.contents c.args.out.now) (g.W.CountedWrite.contents c.write_packets.new.out)) c.args.file.now first.1)

pub returns-in_err-rest-clause-beginning : goal.returns-in_err-rest-clause-beginning
returns-in_err-rest-clause-beginning g c =
    let before = g.W.CountedWrite.contents c.args.out.now in let after = g.W.CountedWrite.contents c.write_packets.new.out in
    on_err c.from_residual.result (BeginsCapture c.args.unwrap c.args.header c.args.file.now before after)
    (inl (behind_header (λ bytes. BeginsRecords c.args.unwrap c.args.header bytes before after) c.args.file.now c.in_err-rest.ensures.beginning))

pub returns-in_err-status-clause-beginning : goal.returns-in_err-status-clause-beginning
returns-in_err-status-clause-beginning g c =
    let before = g.W.CountedWrite.contents c.args.out.now in let between = g.W.CountedWrite.contents c.write_packets.new.out in let after = g.W.CountedWrite.contents c.write_cut.new.out in
    let rest = c.in_ok-rest.rest.now in let begun = c.in_err-status.ensures.beginning in
    on_err c.from_residual-in_err-status.result (BeginsCapture c.args.unwrap c.args.header c.args.file.now before after)
    (inr (cut_begun c.args.unwrap c.args.file.now c.args.header rest before between after c.requires
    (behind_header (λ bytes. WritesRecords c.args.unwrap c.args.header bytes rest before between) c.args.file.now c.in_ok-rest.ensures.written)
    c.in_ok-rest.ensures.no_more begun.0
    (subst (λ (place : Option ℕ). AppendsBeginning between after (cut_text place)) (sym (place_of-some c.args.file.now rest begun.0)) begun.1)))

pub returns-in_err-map_err-clause-beginning : goal.returns-in_err-map_err-clause-beginning
returns-in_err-map_err-clause-beginning g c =
    let before = g.W.CountedWrite.contents c.args.out.now in let between = g.W.CountedWrite.contents c.write_packets.new.out in
    let after = g.W.CountedWrite.contents c.write_cut.new.out in let last = g.W.CountedWrite.contents c.flush.new.self in
    let told = c.in_ok-status.ensures in let rest = c.in_ok-rest.rest.now in
    let ok : Status → Result Status Failure = λ (s : Status). Ok s in
    on_err c.from_residual-in_err-map_err.result (BeginsCapture c.args.unwrap c.args.header c.args.file.now before last)
    (inr (whole_begun c.args.unwrap c.args.file.now c.in_ok-status.status before last
    (text_written c.args.unwrap c.args.file.now c.args.header c.requires before between after last c.flush.ensures.contents_kept rest c.in_ok-status.status
    (behind_header (λ bytes. WritesRecords c.args.unwrap c.args.header bytes rest before between) c.args.file.now c.in_ok-rest.ensures.written)
    c.in_ok-rest.ensures.no_more told.status
    (λ is. let whole = told.whole (ap ok is) in (whole.0, ap g.W.CountedWrite.contents (sym whole.1)))
    (λ is. told.cut (ap ok is)))))

pub overflow_sub-file : goal.overflow_sub-file
overflow_sub-file g c =
    let written = behind_header (λ bytes. WritesRecords c.args.unwrap c.args.header bytes c.in_ok-rest.rest.now (g.W.CountedWrite.contents c.args.out.now) (g.W.CountedWrite.contents c.write_packets.new.out)) c.args.file.now c.in_ok-rest.ensures.written in
    omega (arith, AreRecords-shorter c.args.header (drop 24 c.args.file.now) c.in_ok-rest.rest.now written.contents written.are_records, length-drop 24 c.args.file.now)

pub returns-clause-written : goal.returns-clause-written
returns-clause-written g c =
    let told = c.in_ok-status.ensures in
    let ok : Status → Result Status Failure = λ (s : Status). Ok s in
    text_written c.args.unwrap c.args.file.now c.args.header c.requires (g.W.CountedWrite.contents c.args.out.now) (g.W.CountedWrite.contents c.write_packets.new.out) (g.W.CountedWrite.contents c.write_cut.new.out) (g.W.CountedWrite.contents c.flush.new.self) c.flush.ensures.contents_kept
    c.in_ok-rest.rest.now c.in_ok-status.status
    (behind_header (λ bytes. WritesRecords c.args.unwrap c.args.header bytes c.in_ok-rest.rest.now (g.W.CountedWrite.contents c.args.out.now) (g.W.CountedWrite.contents c.write_packets.new.out)) c.args.file.now c.in_ok-rest.ensures.written)
    c.in_ok-rest.ensures.no_more
    told.status
    (λ is. let whole = told.whole (ap ok is) in (whole.0, ap g.W.CountedWrite.contents (sym whole.1)))
    (λ is. told.cut (ap ok is))

pub returns-clause-failed : goal.returns-clause-failed
returns-clause-failed g c = search rules

pub returns-clause-no_memory : goal.returns-clause-no_memory
returns-clause-no_memory g c = search rules
