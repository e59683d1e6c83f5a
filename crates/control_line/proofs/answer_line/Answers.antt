use Rattle.std.proofs.Common.{rules, subst}
use Rattle.control_line.specs.Block.{single}
use Rattle.control_line.specs.Request.{Spells, change}
use Rattle.control_line.specs.body.Reading.{reading_of, request_of, source_of}
use Rattle.control_line.proofs.LineLemmas.{asked, change_answered, is_bad_form, is_read, is_shown, is_swept, is_too_long}
use Rattle.control_line.proofs.answer_line.Goals as goal
use Rattle.member_group.specs.Over.{command_over}

pub returns-then-text-gt-LINE_LIMIT-clause-answered : goal.returns-then-text-gt-LINE_LIMIT-clause-answered
returns-then-text-gt-LINE_LIMIT-clause-answered c = is_too_long c.args.text.now c.args.operator.now c.requires c.if-text-gt-LINE_LIMIT.true

pub returns-in-None-clause-answered : goal.returns-in-None-clause-answered
returns-in-None-clause-answered c = is_bad_form c.args.text.now c.args.operator.now c.requires c.if-text-gt-LINE_LIMIT.false c.in_default.ensures c.in-None.ensures

pub returns-in-Some-Change-clause-answered : goal.returns-in-Some-Change-clause-answered
returns-in-Some-Change-clause-answered c =
    change_answered c.args.text.now c.args.operator.now c.requires c.if-text-gt-LINE_LIMIT.false (command_over source_of c.in-Some-Change.command) c.publish_change.new.operator c.publish_change.result
    (subst (λ request. Spells c.args.text.now (request_of request)) c.in-Some-Change.field-0-is c.in-Some-Change.ensures) c.publish_change.ensures.changed

pub returns-in-Some-Change-clause-memory : goal.returns-in-Some-Change-clause-memory
returns-in-Some-Change-clause-memory c =
    asked c.publish_change.result (single (change (command_over source_of c.in-Some-Change.command)), subst (λ request. Spells c.args.text.now (request_of request)) c.in-Some-Change.field-0-is c.in-Some-Change.ensures, tt)

pub returns-in-Some-Show-clause-answered : goal.returns-in-Some-Show-clause-answered
returns-in-Some-Show-clause-answered c =
    is_shown c.args.text.now c.args.operator.now c.requires c.if-text-gt-LINE_LIMIT.false
    (subst (λ request. Spells c.args.text.now (request_of request)) c.in-Some-Show.field-0-is c.in-Some-Show.ensures) c.shown.result c.shown.ensures

pub returns-in-Some-Read-clause-answered : goal.returns-in-Some-Read-clause-answered
returns-in-Some-Read-clause-answered c =
    is_read c.args.text.now c.args.operator.now c.requires c.if-text-gt-LINE_LIMIT.false (reading_of c.in-Some-Read.reading)
    (subst (λ request. Spells c.args.text.now (request_of request)) c.in-Some-Read.field-0-is c.in-Some-Read.ensures) c.part_read.result c.part_read.ensures.read

pub returns-in-Some-Sweep-clause-answered : goal.returns-in-Some-Sweep-clause-answered
returns-in-Some-Sweep-clause-answered c =
    let swept = is_swept c.args.text.now c.args.operator.now c.requires c.if-text-gt-LINE_LIMIT.false
    (subst (λ request. Spells c.args.text.now (request_of request)) c.in-Some-Sweep.field-0-is c.in-Some-Sweep.ensures) in
    search (rules, swept)
