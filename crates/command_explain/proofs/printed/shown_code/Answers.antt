use Rattle.std.proofs.Common.{◌∙◌, sym}
use Rattle.command_explain.proofs.PrintedLemmas.{no_code, no_numbers, only_reading}
use Rattle.command_explain.proofs.printed.shown_code.Goals as goal

pub returns-in_err-code-clause-shown_exactly : goal.returns-in_err-code-clause-shown_exactly
returns-in_err-code-clause-shown_exactly c =
    let cut = c.cut_word.ensures in
    rw c.from_residual.ensures (no_code c.args.text.now _ _ _ c.without_front.ensures.only cut.whole cut.lacks cut.after c.in_err-code.ensures)

pub returns-in_err-line-clause-shown_exactly : goal.returns-in_err-line-clause-shown_exactly
returns-in_err-line-clause-shown_exactly c =
    let cut = c.cut_word.ensures in
    rw c.from_residual-in_err-line.ensures (no_numbers c.args.text.now _ _ _ c.without_front.ensures.only cut.whole cut.lacks cut.after c.in_err-line.ensures)

pub returns-clause-shown_only : goal.returns-clause-shown_only
returns-clause-shown_only c = λ code line shows.
    let cut = c.cut_word.ensures in
    let same = only_reading c.args.text.now _ _ _ c.without_front.ensures.only cut.whole cut.lacks cut.after c.in_ok-line.ensures.1.0 c.in_ok-line.line c.in_ok-line.ensures.0 c.in_ok-line.ensures.1.2 code line shows in
    (same.0 ∙ sym c.in_ok-code.ensures.0, same.1)
