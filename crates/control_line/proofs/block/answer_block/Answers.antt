use Rattle.std.proofs.Common.{◌≡◌, ◌∙◌, refl, subst, sym}
use Rattle.std.specs.Prelude.{IfSome}
use Rattle.control_line.specs.Answer.{IsAnswered}
use Rattle.control_line.specs.body.Blocks.{IsOther}
use Rattle.control_line.specs.declared.reason.Reason.TheVariants.{OtherVersion}
use Rattle.control_line.specs.declared.reply.LineAnswer.TheVariants.{Refused}
use Rattle.control_line.proofs.LineLemmas.{asked}
use Rattle.control_line.proofs.MessageLemmas.{block_asks, block_bad_form, block_failed, block_other, block_published, block_too_long}
use Rattle.control_line.proofs.block.answer_block.Goals as goal

pub returns-then-lines-gt-BLOCK_LIMIT-clause-answered : goal.returns-then-lines-gt-BLOCK_LIMIT-clause-answered
returns-then-lines-gt-BLOCK_LIMIT-clause-answered c = λ text has. block_too_long text c.args.head c.args.lines.now has c.args.operator.now c.if-lines-gt-BLOCK_LIMIT.true

pub returns-then-count_lines-head-clause-answered : goal.returns-then-count_lines-head-clause-answered
returns-then-count_lines-head-clause-answered c = λ text has.
    let counted = c.count_lines.ensures in
    block_bad_form text c.args.head c.args.lines.now has c.args.operator.now c.if-lines-gt-BLOCK_LIMIT.false counted.0 counted.1 (λ e. c.if-count_lines-head.true (counted.2 ∙ e))

pub returns-then-is_other-clause-answered : goal.returns-then-is_other-clause-answered
returns-then-is_other-clause-answered c = λ text has.
    let counted = c.count_lines.ensures in
    subst (λ n. IsAnswered text c.args.operator.now c.args.operator.now (Refused (OtherVersion n))) (sym c.number-then-is_other.ensures.number)
    (block_other text c.args.head c.args.lines.now has c.args.operator.now c.if-lines-gt-BLOCK_LIMIT.false counted.0 counted.1 (sym counted.2 ∙ c.if-count_lines-head.false)
    (subst (IsOther c.args.head.version) c.number.ensures.number (c.if-is_other.ensures.other refl)))

pub returns-in-Ok-clause-answered : goal.returns-in-Ok-clause-answered
returns-in-Ok-clause-answered c = λ text has.
    let counted = c.count_lines.ensures in
    let made = c.in-Ok.ensures in
    block_published text c.args.head c.args.lines.now has c.args.operator.now c.if-lines-gt-BLOCK_LIMIT.false counted.0 counted.1 (sym counted.2 ∙ c.if-count_lines-head.false)
    (subst (λ n. IfSome c.args.head.version (λ v. v ≡ n)) c.number.ensures.number (c.if-is_other.ensures.meant refl)) made.0 made.1
    c.in-Ok.next c.publish_next.new.operator c.publish_next.result (made.2 counted.0 counted.1) c.publish_next.ensures.published

pub returns-in-Err-clause-answered : goal.returns-in-Err-clause-answered
returns-in-Err-clause-answered c = λ text has.
    let counted = c.count_lines.ensures in
    let made = c.in-Err.ensures in
    rw c.line_refused.ensures
    (block_failed text c.args.head c.args.lines.now has c.args.operator.now c.if-lines-gt-BLOCK_LIMIT.false counted.0 counted.1 (sym counted.2 ∙ c.if-count_lines-head.false)
    (subst (λ n. IfSome c.args.head.version (λ v. v ≡ n)) c.number.ensures.number (c.if-is_other.ensures.meant refl)) made.0 made.1 c.in-Err.fault (made.2 counted.0 counted.1))

pub returns-in-Err-clause-memory : goal.returns-in-Err-clause-memory
returns-in-Err-clause-memory c = λ text has.
    let counted = c.count_lines.ensures in
    asked c.line_refused.result (block_asks text c.args.head c.args.lines.now has c.args.operator.now c.if-lines-gt-BLOCK_LIMIT.false counted.0 counted.1 (sym counted.2 ∙ c.if-count_lines-head.false))
