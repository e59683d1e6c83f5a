use Rattle.std.proofs.Common.{Err, subst}
use Rattle.control_line.specs.Answer.{IsAnswered}
use Rattle.control_line.specs.body.Making.{IsOutcome}
use Rattle.control_line.specs.declared.reply.LineAnswer.TheVariants.{Refused}
use Rattle.control_line.proofs.LineLemmas.{does_nothing, is_reply, keeps, leaves_config}
use Rattle.control_line.proofs.line.Goals as goal

pub returns-in-Ok-clause-reply : goal.returns-in-Ok-clause-reply
returns-in-Ok-clause-reply c = is_reply c.args.text.now c.args.operator.now c.answer.new.operator c.in-Ok.answer c.in-Ok.ensures.answered c.of.result c.of.ensures

pub returns-in-Ok-clause-new_configuration : goal.returns-in-Ok-clause-new_configuration
returns-in-Ok-clause-new_configuration c = leaves_config c.args.text.now c.args.operator.now c.answer.new.operator c.in-Ok.answer c.in-Ok.ensures.answered c.of.result c.of.ensures

pub returns-in-Ok-clause-kept : goal.returns-in-Ok-clause-kept
returns-in-Ok-clause-kept c = keeps c.args.text.now c.args.operator.now c.answer.new.operator c.in-Ok.answer c.in-Ok.ensures.answered c.of.result c.of.ensures

pub returns-in-Err-Refused-clause-reply : goal.returns-in-Err-Refused-clause-reply
returns-in-Err-Refused-clause-reply c =
    is_reply c.args.text.now c.args.operator.now c.answer.new.operator (Refused c.in-Err-Refused.reason)
    (subst (λ failure. IsOutcome (IsAnswered c.args.text.now) c.args.operator.now c.answer.new.operator (Err failure)) c.in-Err-Refused.field-0-is c.in-Err-Refused.ensures.answered) c.of-in-Err-Refused.result c.of-in-Err-Refused.ensures

pub returns-in-Err-Refused-clause-new_configuration : goal.returns-in-Err-Refused-clause-new_configuration
returns-in-Err-Refused-clause-new_configuration c =
    leaves_config c.args.text.now c.args.operator.now c.answer.new.operator (Refused c.in-Err-Refused.reason)
    (subst (λ failure. IsOutcome (IsAnswered c.args.text.now) c.args.operator.now c.answer.new.operator (Err failure)) c.in-Err-Refused.field-0-is c.in-Err-Refused.ensures.answered) c.of-in-Err-Refused.result c.of-in-Err-Refused.ensures

pub returns-in-Err-Refused-clause-kept : goal.returns-in-Err-Refused-clause-kept
returns-in-Err-Refused-clause-kept c =
    keeps c.args.text.now c.args.operator.now c.answer.new.operator (Refused c.in-Err-Refused.reason)
    (subst (λ failure. IsOutcome (IsAnswered c.args.text.now) c.args.operator.now c.answer.new.operator (Err failure)) c.in-Err-Refused.field-0-is c.in-Err-Refused.ensures.answered) c.of-in-Err-Refused.result c.of-in-Err-Refused.ensures

pub returns-in-Ok-clause-only_scans : goal.returns-in-Ok-clause-only_scans
returns-in-Ok-clause-only_scans c = does_nothing c.args.text.now c.args.operator.now c.answer.new.operator c.in-Ok.answer c.in-Ok.ensures.answered c.of.result c.of.ensures

pub returns-in-Err-Refused-clause-only_scans : goal.returns-in-Err-Refused-clause-only_scans
returns-in-Err-Refused-clause-only_scans c =
    does_nothing c.args.text.now c.args.operator.now c.answer.new.operator (Refused c.in-Err-Refused.reason)
    (subst (λ failure. IsOutcome (IsAnswered c.args.text.now) c.args.operator.now c.answer.new.operator (Err failure)) c.in-Err-Refused.field-0-is c.in-Err-Refused.ensures.answered) c.of-in-Err-Refused.result c.of-in-Err-Refused.ensures
