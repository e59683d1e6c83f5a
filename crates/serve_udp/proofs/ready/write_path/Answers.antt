use Rattle.std.proofs.Common.{codes, subst}
use Rattle.std.specs.Io.KnownBytes.{Appends}
use Rattle.command_line.specs.Ending.{AppendsBeginning}
use Rattle.command_totals.proofs.BeginningLemmas.{begins_first, begins_then}
use Rattle.serve_udp.proofs.ready.write_path.Goals as goal

pub returns-in_err-write_whole-clause-beginning : goal.returns-in_err-write_whole-clause-beginning
returns-in_err-write_whole-clause-beginning g c =
    let start = g.W.CountedWrite.contents c.args.out.now in let mid = g.W.CountedWrite.contents c.write_whole.new.out in
    begins_first start mid (codes "unix:") c.args.path.now (subst (AppendsBeginning start mid) c.as_slice.ensures c.write_whole.ensures.beginning)

pub returns-clause-beginning : goal.returns-clause-beginning
returns-clause-beginning g c =
    let start = g.W.CountedWrite.contents c.args.out.now in let mid = g.W.CountedWrite.contents c.write_whole.new.out in let end = g.W.CountedWrite.contents c.write_whole-2.new.out in
    begins_then start mid end (codes "unix:") c.args.path.now (subst (Appends start mid) c.as_slice.ensures c.in_ok-write_whole.ensures.written)
    (subst (AppendsBeginning mid end) c.as_bytes.ensures.value c.write_whole-2.ensures.beginning)
