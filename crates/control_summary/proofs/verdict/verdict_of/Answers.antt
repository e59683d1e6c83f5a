use Rattle.std.proofs.Common.{◌∙◌, sym}
use Rattle.control_summary.proofs.WordLemmas.{judged, not_judged, one_word_only, two_words_only}
use Rattle.control_summary.proofs.verdict.verdict_of.Goals as goal

pub returns-in_err-first : goal.returns-in_err-first
returns-in_err-first c = rw c.from_residual.ensures (sym (one_word_only c.args.reply.now c.in_err-first.ensures))

pub returns-in_err-_number : goal.returns-in_err-_number
returns-in_err-_number c =
    rw c.from_residual-in_err-_number.ensures
    (sym (two_words_only c.args.reply.now c.in_ok-first.first.now c.in_ok-first.behind.now c.in_ok-first.ensures c.in_err-_number.ensures))

pub returns-then-is_name : goal.returns-then-is_name
returns-then-is_name c =
    c.front_verdict.ensures
    ∙ sym (judged c.args.reply.now c.in_ok-first.first.now c.in_ok-first.behind.now c.in_ok-_number._number.now c.in_ok-_number.verdict.now
    c.in_ok-first.ensures c.in_ok-_number.ensures (sym c.is_name.ensures ∙ c.if-is_name.true))

pub returns-else-is_name : goal.returns-else-is_name
returns-else-is_name c =
    sym (not_judged c.args.reply.now c.in_ok-first.first.now c.in_ok-first.behind.now c.in_ok-_number._number.now c.in_ok-_number.verdict.now
    c.in_ok-first.ensures c.in_ok-_number.ensures (sym c.is_name.ensures ∙ c.if-is_name.false))
