use Rattle.std.proofs.Common.{sym, ◌∙◌, subst}
use Rattle.control_line.specs.Answer.{IsAnswered}
use Rattle.control_line.specs.declared.reason.Reason.TheVariants.{OtherVersion}
use Rattle.control_line.specs.declared.reply.LineAnswer.TheVariants.{Refused}
use Rattle.control_line.specs.body.Reading.{source_of}
use Rattle.control_line.proofs.LineLemmas.{asked, at_answered, at_asks, at_bad_form, at_other}
use Rattle.control_line.proofs.answer_at.Goals as goal
use Rattle.member_group.specs.Over.{command_over}

pub returns-in_default-clause-answered : goal.returns-in_default-clause-answered
returns-in_default-clause-answered c = λ text is. at_bad_form text c.args.version c.args.line.now is c.requires c.args.operator.now c.in_default.ensures

pub returns-then-version-number-clause-answered : goal.returns-then-version-number-clause-answered
returns-then-version-number-clause-answered c = λ text is.
    subst (λ n. IsAnswered text c.args.operator.now c.args.operator.now (Refused (OtherVersion n))) (sym c.number-then-version-number.ensures.number)
    (at_other text c.args.version c.args.line.now is c.requires c.args.operator.now (command_over source_of c.in-Some.command) c.in-Some.ensures (λ e. c.if-version-number.true (e ∙ sym c.number.ensures.number)))

pub returns-clause-answered : goal.returns-clause-answered
returns-clause-answered c = λ text is.
    at_answered text c.args.version c.args.line.now is c.requires c.args.operator.now (command_over source_of c.in-Some.command) c.in-Some.ensures (c.if-version-number.false ∙ c.number.ensures.number)
    c.publish_change.new.operator c.publish_change.result c.publish_change.ensures.changed

pub returns-clause-memory : goal.returns-clause-memory
returns-clause-memory c = λ text is.
    asked c.publish_change.result (at_asks text c.args.version c.args.line.now is c.requires c.args.operator.now (command_over source_of c.in-Some.command) c.in-Some.ensures)
