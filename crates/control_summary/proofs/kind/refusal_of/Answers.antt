use Rattle.std.proofs.Common.{◌∙◌, sym}
use Rattle.control_summary.proofs.WordLemmas.{not_refused, one_word_refuses_nothing, refused}
use Rattle.control_summary.proofs.kind.refusal_of.Goals as goal

pub returns-in_err-first : goal.returns-in_err-first
returns-in_err-first c = rw c.from_residual.ensures (sym (one_word_refuses_nothing c.args.reply.now c.in_err-first.ensures))

pub returns-then-is_name : goal.returns-then-is_name
returns-then-is_name c =
    refused c.args.reply.now c.in_ok-first.first.now c.in_ok-first.behind.now c.first_word-code.result.now c.in_ok-first.ensures c.first_word-code.ensures
    (sym c.is_name.ensures ∙ c.if-is_name.true)

pub returns-else-is_name : goal.returns-else-is_name
returns-else-is_name c =
    sym (not_refused c.args.reply.now c.in_ok-first.first.now c.in_ok-first.behind.now c.in_ok-first.ensures (sym c.is_name.ensures ∙ c.if-is_name.false))
