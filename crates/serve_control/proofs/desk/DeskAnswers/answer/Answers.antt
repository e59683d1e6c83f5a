use Rattle.std.proofs.Common.{◌∙◌}
use Rattle.serve_control.proofs.DeskLemmas.{rules_kept, unanswered_is}
use Rattle.serve_control.proofs.desk.DeskAnswers.answer.Goals as goal

pub returns-in_err-append_to : goal.returns-in_err-append_to
returns-in_err-append_to g c =
    unanswered_is _ _ _ _ c.args.request.now c.args.reply.now.items c.append_to.new.bytes.items c.from_residual-in_err-append_to.result
    c.from_residual-in_err-append_to.ensures.0 (c.in_err-append_to.ensures.unchanged ∙ c.reserve.ensures.items)
    (rules_kept _ _ _ _ _ _ c.answer_named-answer.ensures c.in_ok-reserve.ensures.ok c.in_err-append_to.ensures.refused)
