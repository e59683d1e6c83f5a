use Rattle.std.proofs.Common.{arith}
use Rattle.command_explain.proofs.PrintedLemmas.{line_after, no_number}
use Rattle.command_explain.proofs.printed.read_numbers.Goals as goal

pub returns-in_err-number_of : goal.returns-in_err-number_of
returns-in_err-number_of c =
    let cut = c.cut_word.ensures in
    rw c.from_residual-in_err-number_of.ensures
    (no_number c.args.text.now _ _ _ c.in_ok-strip.ensures cut.whole cut.lacks cut.after c.in_default.ensures c.in_err-number_of.ensures)

pub returns : goal.returns
returns c =
    let cut = c.cut_word.ensures in
    line_after c.args.text.now _ _ _ c.in_ok-strip.ensures cut.whole cut.lacks cut.after c.in_ok-number_of.field-0 c.read_line-2.result c.in_default.ensures (omega arith) c.in_ok-number_of.ensures c.read_line-2.ensures
