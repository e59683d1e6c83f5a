use Rattle.std.proofs.lemmas.Bool.{false≢true}
use Rattle.std.proofs.Common.{ap, refl, rules}
use Rattle.dispatch.specs.Tally.{TallyValue}
use Rattle.serve_control.specs.Answer.{answers_line, stops, tells_counters, tells_totals}
use Rattle.serve_control.proofs.answer_request.Goals as goal

pub returns-then-is_word-clause-answered : goal.returns-then-is_word-clause-answered
returns-then-is_word-clause-answered g c = stops (c.if-is_word.ensures.0 refl) refl

pub returns-then-is_word-2-clause-answered : goal.returns-then-is_word-2-clause-answered
returns-then-is_word-2-clause-answered g c = tells_totals c.totals.result (c.if-is_word-2.ensures.0 refl)
    (ap (λ (tally : TallyValue). record { operator = c.args.operator.now; tally = tally; members = g.M.MemberTotals.table c.args.members.now }) c.totals.ensures.loads)

pub returns-in-Some-clause-answered : goal.returns-in-Some-clause-answered
returns-in-Some-clause-answered g c =
    tells_counters c.in-Some.asked c.counts_reply.result c.in-Some.ensures.0 c.in-Some.ensures.1 refl c.counts_reply.ensures.settled c.counts_reply.ensures.reply

pub returns-clause-answered : goal.returns-clause-answered
returns-clause-answered g c =
    answers_line c.line_answer.result
    (record {
      not_stop = λ e. false≢true (c.if-is_word.ensures.1 e);
      not_totals = λ e. false≢true (c.if-is_word-2.ensures.1 e);
      not_counters = c.in_default.ensures;
    })
    c.line_answer.ensures.replied refl c.line_answer.ensures.settled

pub returns-clause-table : goal.returns-clause-table
returns-clause-table g c = search rules

pub returns-then-is_word-2-clause-table : goal.returns-then-is_word-2-clause-table
returns-then-is_word-2-clause-table g c = search rules

pub returns-then-is_word-clause-table : goal.returns-then-is_word-clause-table
returns-then-is_word-clause-table g c = search rules
