use Rattle.std.proofs.Common.{codes, rules}
use Rattle.command_operating.proofs.PrintingLemmas.{begins_first, begins_then}
use Rattle.command_operating.proofs.printing.print_line.Goals as goal

pub returns-in_err-write_whole-clause-beginning : goal.returns-in_err-write_whole-clause-beginning
returns-in_err-write_whole-clause-beginning g c =
    begins_first (g.W.CountedWrite.contents c.args.out.now) (g.W.CountedWrite.contents c.write_whole.new.out) c.args.line.now (codes "\n") c.write_whole.ensures.beginning

pub returns-clause-beginning : goal.returns-clause-beginning
returns-clause-beginning g c =
    begins_then (g.W.CountedWrite.contents c.args.out.now) (g.W.CountedWrite.contents c.write_whole.new.out) (g.W.CountedWrite.contents c.write_through.new.out) c.args.line.now (codes "\n")
    (search rules) (rw c.as_slice.ensures at c.write_through.ensures.beginning)
