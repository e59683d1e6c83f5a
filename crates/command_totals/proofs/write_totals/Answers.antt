use Rattle.std.proofs.Common.{◌∙◌, subst}
use Rattle.std.proofs.lemmas.Result.{on_ok_weaker}
use Rattle.std.specs.Io.KnownBytes.{Appends}
use Rattle.command_line.specs.Ending.{AppendsBeginning}
use Rattle.command_totals.proofs.HalfLemmas.{first_begun, second_begun, writes_totals}
use Rattle.command_totals.proofs.write_totals.Goals as goal

pub returns-clause-written : goal.returns-clause-written
returns-clause-written g c =
    let start = g.W.CountedWrite.contents c.args.out.now in let mid = g.W.CountedWrite.contents c.write_whole.new.out in let end = g.W.CountedWrite.contents c.write_through.new.out in
    on_ok_weaker c.write_through.result
    (λ second. writes_totals c.args.totals.now start mid end
    (subst (Appends start mid) (c.bytes.ensures.line ∙ c.first_half.ensures) c.in_ok-write_whole.ensures.written)
    (subst (Appends mid end) (c.bytes-2.ensures.line ∙ c.second_half.ensures) second))
    c.write_through.ensures.written

pub returns-clause-beginning : goal.returns-clause-beginning
returns-clause-beginning g c =
    let start = g.W.CountedWrite.contents c.args.out.now in let mid = g.W.CountedWrite.contents c.write_whole.new.out in let end = g.W.CountedWrite.contents c.write_through.new.out in
    second_begun c.args.totals.now start mid end
    (subst (Appends start mid) (c.bytes.ensures.line ∙ c.first_half.ensures) c.in_ok-write_whole.ensures.written)
    (subst (AppendsBeginning mid end) (c.bytes-2.ensures.line ∙ c.second_half.ensures) c.write_through.ensures.beginning)

pub returns-in_err-write_whole-clause-beginning : goal.returns-in_err-write_whole-clause-beginning
returns-in_err-write_whole-clause-beginning g c =
    let start = g.W.CountedWrite.contents c.args.out.now in let mid = g.W.CountedWrite.contents c.write_whole.new.out in
    first_begun c.args.totals.now start mid (subst (AppendsBeginning start mid) (c.bytes.ensures.line ∙ c.first_half.ensures) c.write_whole.ensures.beginning)
