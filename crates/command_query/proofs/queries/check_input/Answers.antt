use Rattle.std.proofs.Common.{IfErr, IfOk, subst, sym}
use Rattle.std.proofs.lemmas.Result.{IfErr-weaker, IfOk-weaker}
use Rattle.command_line.specs.CommandLine.{check}
use Rattle.command_query.specs.CommandResult.{IsCheckAnswer}
use Rattle.command_query.specs.Query.{IsStopOf}
use Rattle.command_query.specs.body.Stop.{IsStopByProgram}
use Rattle.command_query.proofs.QueryLemmas.{check_found, check_stops, check_unnamed, reads_check, unread}
use Rattle.command_query.proofs.StopLemmas.{stopped_as}
use Rattle.command_query.proofs.queries.check_input.Goals as goal

pub returns-in_default-clause-stopped : goal.returns-in_default-clause-stopped
returns-in_default-clause-stopped g c =
    check_unnamed (g.R.Input.state c.args.input.now).coming c.args.name.now (sym c.in_default.ensures)

pub returns-in_err-read_all-clause-stopped : goal.returns-in_err-read_all-clause-stopped
returns-in_err-read_all-clause-stopped g c =
    let known = (g.R.Input.state c.args.input.now).coming in
    let name = c.args.name.now in
    stopped_as c.from_residual.result (IsStopOf (check name) known) _ c.from_residual.ensures.1
    (unread known (check name) _ (reads_check known name c.in-Some.format (sym c.in-Some.ensures)) c.in_err-read_all.ensures.cause)

pub returns-clause-found : goal.returns-clause-found
returns-clause-found g c =
    let known = (g.R.Input.state c.args.input.now).coming in
    let format = c.in-Some.format in
    let text = c.in_ok-read_all.field-0.items in
    let answered = subst (λ read. IfOk c.check.result (IsCheckAnswer format read)) c.deref.ensures.value c.check.ensures.answer in
    IfOk-weaker c.check.result _ _ (λ answer. check_found known c.args.name.now text format answer (sym c.in-Some.ensures) c.in_ok-read_all.ensures.whole) answered

pub returns-clause-stopped : goal.returns-clause-stopped
returns-clause-stopped g c =
    let known = (g.R.Input.state c.args.input.now).coming in
    let format = c.in-Some.format in
    let text = c.in_ok-read_all.field-0.items in
    let stopped = subst (λ read. IfErr c.check.result (IsStopByProgram format read)) c.deref.ensures.value c.check.ensures.stopped in
    IfErr-weaker c.check.result _ _ (λ stop. check_stops known c.args.name.now text format stop (sym c.in-Some.ensures) c.in_ok-read_all.ensures.whole) stopped
