use Rattle.std.proofs.Common.{Option, subst, ℕ}
use Rattle.command_explain.specs.Meaning.{cause_line, meaning_of}
use Rattle.command_line.specs.Ending.{AppendsBeginning}
use Rattle.command_operating.specs.RefusalLines.{explained, unread}
use Rattle.command_operating.proofs.refused.MeaningsExplains.show.Goals as goal

pub returns-in-Some : goal.returns-in-Some
returns-in-Some g c =
    let before = g.E.Write.contents c.args.errs.now in let after = g.E.Write.contents c.write_meaning.new.errs in (
      _,
      explained c.in-Some.shown.code.now c.in-Some.shown.line c.in-Some.ensures.shown_exactly,
      subst (λ (number : Option ℕ). AppendsBeginning before after (cause_line number (meaning_of c.in-Some.shown.code.now))) c.number_of-number.ensures c.write_meaning.ensures.beginning,
    )

pub returns-in-None : goal.returns-in-None
returns-in-None g c = (_, unread c.in-None.ensures.shown_exactly, c.write_reply.ensures.beginning)
