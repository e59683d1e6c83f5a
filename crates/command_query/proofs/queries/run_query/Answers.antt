use Rattle.std.proofs.Common.{ap, rules, subst}
use Rattle.command_line.specs.CommandLine.{query_request}
use Rattle.command_query.specs.Query.{IsStopOf}
use Rattle.command_query.proofs.QueryLemmas.{misformed_written}
use Rattle.command_query.proofs.WriteLemmas.{answer_failed, misformed_failed, refusal_failed}
use Rattle.command_query.proofs.queries.run_query.Goals as goal

pub returns-in-Err-Failed-clause-answered : goal.returns-in-Err-Failed-clause-answered
returns-in-Err-Failed-clause-answered g c = search rules

pub returns-in-Err-Failed-clause-failed : goal.returns-in-Err-Failed-clause-failed
returns-in-Err-Failed-clause-failed g c = search rules

pub returns-in-Err-Failed-clause-failed_written : goal.returns-in-Err-Failed-clause-failed_written
returns-in-Err-Failed-clause-failed_written g c = search rules

pub returns-in-Err-Misformed-clause-answered : goal.returns-in-Err-Misformed-clause-answered
returns-in-Err-Misformed-clause-answered g c =
    misformed_written (query_request c.args.query) (g.R.Input.state c.args.input.now).coming c.write_refusal-in-Err-Misformed.result _ _ c.code-in-Err-Misformed.result c.in-Err-Misformed.fault
    (subst (IsStopOf (query_request c.args.query) (g.R.Input.state c.args.input.now).coming) c.in-Err-Misformed.field-0-is c.in-Err-Misformed.ensures.stopped) c.code-in-Err-Misformed.ensures
    c.write_refusal-in-Err-Misformed.ensures.refused c.write_refusal-in-Err-Misformed.ensures.written

pub returns-in-Err-Misformed-clause-failed : goal.returns-in-Err-Misformed-clause-failed
returns-in-Err-Misformed-clause-failed g c = search rules

pub returns-in-Err-Misformed-clause-failed_written : goal.returns-in-Err-Misformed-clause-failed_written
returns-in-Err-Misformed-clause-failed_written g c =
    let wrote = c.write_refusal-in-Err-Misformed.ensures in
    misformed_failed (query_request c.args.query) (g.R.Input.state c.args.input.now).coming _ _ c.write_refusal-in-Err-Misformed.result wrote.failed (λ is. ap g.W.CountedWrite.contents (wrote.no_memory is))
    c.code-in-Err-Misformed.result c.in-Err-Misformed.fault
    (subst (IsStopOf (query_request c.args.query) (g.R.Input.state c.args.input.now).coming) c.in-Err-Misformed.field-0-is c.in-Err-Misformed.ensures.stopped) c.code-in-Err-Misformed.ensures
    wrote.beginning

pub returns-in-Err-Refused-clause-answered : goal.returns-in-Err-Refused-clause-answered
returns-in-Err-Refused-clause-answered g c = search rules

pub returns-in-Err-Refused-clause-failed : goal.returns-in-Err-Refused-clause-failed
returns-in-Err-Refused-clause-failed g c = search rules

pub returns-in-Err-Refused-clause-failed_written : goal.returns-in-Err-Refused-clause-failed_written
returns-in-Err-Refused-clause-failed_written g c =
    let wrote = c.write_refusal.ensures in
    refusal_failed (query_request c.args.query) (g.R.Input.state c.args.input.now).coming _ _ c.write_refusal.result wrote.failed (λ is. ap g.W.CountedWrite.contents (wrote.no_memory is))
    c.code.result c.in-Err-Refused.reason
    (subst (IsStopOf (query_request c.args.query) (g.R.Input.state c.args.input.now).coming) c.in-Err-Refused.field-0-is c.in-Err-Refused.ensures.stopped) c.code.ensures wrote.beginning

pub returns-in-Ok-clause-answered : goal.returns-in-Ok-clause-answered
returns-in-Ok-clause-answered g c = search rules

pub returns-in-Ok-clause-failed : goal.returns-in-Ok-clause-failed
returns-in-Ok-clause-failed g c = search rules

pub returns-in-Ok-clause-failed_written : goal.returns-in-Ok-clause-failed_written
returns-in-Ok-clause-failed_written g c =
    let wrote = c.write_answer.ensures in
    answer_failed (query_request c.args.query) (g.R.Input.state c.args.input.now).coming _ _ c.write_answer.result wrote.failed (λ is. ap g.W.CountedWrite.contents (wrote.no_memory is))
    c.in-Ok.found c.in-Ok.ensures.found wrote.beginning
