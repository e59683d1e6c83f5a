use Rattle.std.proofs.Common.{◌∷◌, [], rules}
use Rattle.command_line.specs.Ending.{AppendsBeginning}
use Rattle.control_client.specs.Exchange.{reply_line}
use Rattle.control_client.proofs.PrintingLemmas.{begins_first, begins_then}
use Rattle.control_client.proofs.ResultLemmas.{on_err}
use Rattle.control_client.proofs.printing.print_reply.Goals as goal

pub returns-in_err-write_whole-clause-beginning : goal.returns-in_err-write_whole-clause-beginning
returns-in_err-write_whole-clause-beginning g c =
    let start = g.W.CountedWrite.contents c.args.out.now in let end = g.W.CountedWrite.contents c.write_whole.new.out in let reply = c.args.reply.now in
    on_err c.from_residual.result (AppendsBeginning start end (reply_line reply)) (begins_first start end reply (10 ∷ []) c.write_whole.ensures.beginning)

pub returns-in_err-write_through-clause-beginning : goal.returns-in_err-write_through-clause-beginning
returns-in_err-write_through-clause-beginning g c =
    let start = g.W.CountedWrite.contents c.args.out.now in let mid = g.W.CountedWrite.contents c.write_whole.new.out in let end = g.W.CountedWrite.contents c.write_through.new.out in let reply = c.args.reply.now in
    on_err c.from_residual-in_err-write_through.result (AppendsBeginning start end (reply_line reply))
    (begins_then start mid end reply (10 ∷ []) (search rules) (rw c.as_slice.ensures at c.write_through.ensures.beginning))
