use Rattle.std.proofs.Common.{IfErr, IfOk, subst, sym, rules}
use Rattle.std.proofs.lemmas.Result.{IfErr-weaker, IfOk-weaker}
use Rattle.command_line.specs.CommandLine.{run}
use Rattle.command_query.specs.CommandResult.{IsRunAnswer}
use Rattle.command_query.specs.Query.{IsStopOf}
use Rattle.command_query.specs.body.Stop.{IsStopByProgram}
use Rattle.command_query.proofs.QueryLemmas.{reads_run, run_found, run_stops, run_stops_by_hex, run_unnamed, unread}
use Rattle.command_query.proofs.StopLemmas.{stopped_as}
use Rattle.command_query.proofs.queries.run_input.Goals as goal

pub returns-in_err-packet-clause-stopped : goal.returns-in_err-packet-clause-stopped
returns-in_err-packet-clause-stopped g c =
    stopped_as _ _ _ c.from_residual.ensures.1
    (run_stops_by_hex (g.R.Input.state c.args.input.now).coming c.args.digits.now c.args.name.now _ c.in_err-packet.ensures.refused)

pub returns-in_default-clause-stopped : goal.returns-in_default-clause-stopped
returns-in_default-clause-stopped g c =
    run_unnamed (g.R.Input.state c.args.input.now).coming c.args.digits.now c.args.name.now c.in_ok-packet.packet.items c.in_ok-packet.ensures.spelt (sym c.in_default.ensures)

pub returns-in_err-read_all-clause-stopped : goal.returns-in_err-read_all-clause-stopped
returns-in_err-read_all-clause-stopped g c =
    let known = (g.R.Input.state c.args.input.now).coming in
    let digits = c.args.digits.now in
    let name = c.args.name.now in
    stopped_as c.from_residual-in_err-read_all.result (IsStopOf (run digits name) known) _ c.from_residual-in_err-read_all.ensures.1
    (unread known (run digits name) _ (reads_run known digits name c.in_ok-packet.packet.items c.in-Some.format c.in_ok-packet.ensures.spelt (sym c.in-Some.ensures)) c.in_err-read_all.ensures.cause)

pub returns-clause-found : goal.returns-clause-found
returns-clause-found g c =
    let known = (g.R.Input.state c.args.input.now).coming in
    let format = c.in-Some.format in
    let text = c.in_ok-read_all.field-0.items in
    let packet = c.in_ok-packet.packet.items in
    let of_packet = subst (λ bytes. IfOk c.run_program.result (IsRunAnswer bytes format c.deref-2.result.now)) c.deref.ensures.value c.run_program.ensures.answer in
    let answered = subst (λ read. IfOk c.run_program.result (IsRunAnswer packet format read)) c.deref-2.ensures.value of_packet in
    IfOk-weaker c.run_program.result _ _ (λ answer. run_found known c.args.digits.now c.args.name.now packet text format answer c.in_ok-packet.ensures.spelt (sym c.in-Some.ensures) c.in_ok-read_all.ensures.whole) answered

pub returns-clause-stopped : goal.returns-clause-stopped
returns-clause-stopped g c =
    let known = (g.R.Input.state c.args.input.now).coming in
    let format = c.in-Some.format in
    let text = c.in_ok-read_all.field-0.items in
    let packet = c.in_ok-packet.packet.items in
    let stopped = subst (λ read. IfErr c.run_program.result (IsStopByProgram format read)) c.deref-2.ensures.value c.run_program.ensures.stopped in
    IfErr-weaker c.run_program.result _ _ (λ stop. run_stops known c.args.digits.now c.args.name.now packet text format stop c.in_ok-packet.ensures.spelt (sym c.in-Some.ensures) c.in_ok-read_all.ensures.whole) stopped

pub returns-in_default-clause-found : goal.returns-in_default-clause-found
returns-in_default-clause-found g c = search rules
