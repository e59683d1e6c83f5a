use Rattle.std.proofs.Common.{codes, ◌++◌}
use Rattle.std.proofs.KnownBytes.{Appends-trans}
use Rattle.packet_capture.proofs.LineLemmas.{begins_first, begins_then}
use Rattle.packet_capture.proofs.line.write_line.Goals as goal

pub returns-in_err-write_whole-clause-beginning : goal.returns-in_err-write_whole-clause-beginning
returns-in_err-write_whole-clause-beginning g c =
    let start = g.W.CountedWrite.contents c.args.out.now in let end = g.W.CountedWrite.contents c.write_whole.new.out in
    let front = c.args.front.now in let rest = c.args.rest.now in
    begins_first start end (front ++ rest) (codes "\n") (begins_first start end front rest c.write_whole.ensures.beginning)

pub returns-in_err-write_whole-2-clause-beginning : goal.returns-in_err-write_whole-2-clause-beginning
returns-in_err-write_whole-2-clause-beginning g c =
    let start = g.W.CountedWrite.contents c.args.out.now in let mid = g.W.CountedWrite.contents c.write_whole.new.out in let end = g.W.CountedWrite.contents c.write_whole-2.new.out in
    let front = c.args.front.now in let rest = c.args.rest.now in
    begins_first start end (front ++ rest) (codes "\n") (begins_then start mid end front rest c.in_ok-write_whole.ensures.written c.write_whole-2.ensures.beginning)

pub returns-clause-beginning : goal.returns-clause-beginning
returns-clause-beginning g c =
    let start = g.W.CountedWrite.contents c.args.out.now in let mid = g.W.CountedWrite.contents c.write_whole.new.out in let then = g.W.CountedWrite.contents c.write_whole-2.new.out in
    let front = c.args.front.now in let rest = c.args.rest.now in
    begins_then start then (g.W.CountedWrite.contents c.write_whole-3.new.out) (front ++ rest) (codes "\n")
    (Appends-trans start mid then front rest c.in_ok-write_whole.ensures.written c.in_ok-write_whole-2.ensures.written)
    (rw c.as_slice.ensures at c.write_whole-3.ensures.beginning)
