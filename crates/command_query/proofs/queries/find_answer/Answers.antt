use Rattle.std.proofs.Common.{IfErr, IfOk, ap, subst, sym, rules}
use Rattle.std.proofs.lemmas.Result.{IfErr-weaker, IfOk-weaker}
use Rattle.control_line.specs.Reason.{IsRefusalOfExpression}
use Rattle.filter_compile.specs.Answer.{IsPacket}
use Rattle.control_line.specs.Request.{spaced}
use Rattle.command_query.specs.CommandResult.{IsExplainAnswer, IsJudgeAnswer, IsSpreadAnswer}
use Rattle.command_line.specs.CommandLine.{query_request}
use Rattle.command_query.specs.Query.{IsRefusalOfCode, IsResultOf, IsStopOf}
use Rattle.command_query.specs.body.Stop.{IsStopBy}
use Rattle.command_query.proofs.JoinLemmas.{texts}
use Rattle.command_query.proofs.QueryLemmas.{compile_found, compile_stops, explain_found, explain_stops, judge_found, judge_stops, judge_stops_by_hex, pack_found, pack_stops, packet_of_spelt, result_of_first, spread_found, spread_stops}
use Rattle.command_query.proofs.WriteLemmas.{versions_of}
use Rattle.command_query.proofs.StopLemmas.{stopped_as}
use Rattle.command_query.proofs.queries.find_answer.Goals as goal

pub returns-in_err-packet-in-Judge-clause-stopped :
    goal.returns-in_err-packet-in-Judge-clause-stopped
returns-in_err-packet-in-Judge-clause-stopped g c =
    let known = (g.R.Input.state c.args.input.now).coming in
    subst (λ request. IfErr c.from_residual-in_err-packet-in-Judge.result (IsStopOf request known)) (sym (ap query_request c.in-Judge.is))
    (stopped_as _ _ _ c.from_residual-in_err-packet-in-Judge.ensures.1 (judge_stops_by_hex known _ _ _ c.in_err-packet-in-Judge.ensures.refused))

pub judge-requires : goal.judge-requires
judge-requires g c =
    subst IsPacket (sym c.deref.ensures.value) (packet_of_spelt _ _ c.in_ok-packet-in-Judge.ensures.spelt)

pub returns-in_ok-at_first-in-First-clause-found :
    goal.returns-in_ok-at_first-in-First-clause-found
returns-in_ok-at_first-in-First-clause-found g c =
    let known = (g.R.Input.state c.args.input.now).coming in
    subst (λ request. IsResultOf request known (versions_of c.in_ok-at_first-in-First.field-0)) (sym (ap query_request c.in-First.is))
    (result_of_first known c.in_ok-at_first-in-First.field-0 c.in_ok-at_first-in-First.ensures)

pub returns-in-Compile-clause-found : goal.returns-in-Compile-clause-found
returns-in-Compile-clause-found g c =
    let known = (g.R.Input.state c.args.input.now).coming in
    subst (λ request. IfOk c.compile_to.result (IsResultOf request known)) (sym (ap query_request c.in-Compile.is))
    (IfOk-weaker c.compile_to.result _ _ (compile_found known c.in-Compile.expression.now c.in-Compile.format.now) c.compile_to.ensures.found)

pub returns-in-Compile-clause-stopped : goal.returns-in-Compile-clause-stopped
returns-in-Compile-clause-stopped g c =
    let known = (g.R.Input.state c.args.input.now).coming in
    subst (λ request. IfErr c.compile_to.result (IsStopOf request known)) (sym (ap query_request c.in-Compile.is))
    (IfErr-weaker c.compile_to.result _ _ (compile_stops known c.in-Compile.expression.now c.in-Compile.format.now) c.compile_to.ensures.stopped)

pub returns-in_ok-packet-in-Judge-clause-found : goal.returns-in_ok-packet-in-Judge-clause-found
returns-in_ok-packet-in-Judge-clause-found g c =
    let known = (g.R.Input.state c.args.input.now).coming in
    let text = c.in-Judge.expression.now in
    let packet = c.in_ok-packet-in-Judge.packet.items in
    let of_packet = subst (λ bytes. IfOk c.judge.result (IsJudgeAnswer bytes c.as_bytes.result.now)) c.deref.ensures.value c.judge.ensures.answer in
    let found = subst (λ read. IfOk c.judge.result (IsJudgeAnswer packet read)) c.as_bytes.ensures.value of_packet in
    subst (λ request. IfOk c.judge.result (IsResultOf request known)) (sym (ap query_request c.in-Judge.is))
    (IfOk-weaker c.judge.result _ _ (λ answer. judge_found known _ text packet answer c.in_ok-packet-in-Judge.ensures.spelt) found)

pub returns-in_ok-packet-in-Judge-clause-stopped :
    goal.returns-in_ok-packet-in-Judge-clause-stopped
returns-in_ok-packet-in-Judge-clause-stopped g c =
    let known = (g.R.Input.state c.args.input.now).coming in
    let text = c.in-Judge.expression.now in
    let packet = c.in_ok-packet-in-Judge.packet.items in
    let refused = subst (λ read. IfErr c.judge.result (IsStopBy (IsRefusalOfExpression read))) c.as_bytes.ensures.value c.judge.ensures.refused in
    subst (λ request. IfErr c.judge.result (IsStopOf request known)) (sym (ap query_request c.in-Judge.is))
    (IfErr-weaker c.judge.result _ _ (λ stop. judge_stops known _ text packet stop c.in_ok-packet-in-Judge.ensures.spelt) refused)

pub returns-in-Explain-clause-found : goal.returns-in-Explain-clause-found
returns-in-Explain-clause-found g c =
    let known = (g.R.Input.state c.args.input.now).coming in
    let found = subst (λ words. IfOk c.explain.result (IsExplainAnswer (spaced (texts words)))) c.deref-in-Explain.ensures.value c.explain.ensures.answer in
    subst (λ request. IfOk c.explain.result (IsResultOf request known)) (sym (ap query_request c.in-Explain.is))
    (IfOk-weaker c.explain.result _ _ (explain_found known (texts c.in-Explain.words.items)) found)

pub returns-in-Explain-clause-stopped : goal.returns-in-Explain-clause-stopped
returns-in-Explain-clause-stopped g c =
    let known = (g.R.Input.state c.args.input.now).coming in
    let refused = subst (λ words. IfErr c.explain.result (IsStopBy (IsRefusalOfCode (spaced (texts words))))) c.deref-in-Explain.ensures.value c.explain.ensures.refused in
    subst (λ request. IfErr c.explain.result (IsStopOf request known)) (sym (ap query_request c.in-Explain.is))
    (IfErr-weaker c.explain.result _ _ (explain_stops known (texts c.in-Explain.words.items)) refused)

pub returns-in-Pack-clause-found : goal.returns-in-Pack-clause-found
returns-in-Pack-clause-found g c =
    let known = (g.R.Input.state c.args.input.now).coming in
    subst (λ request. IfOk c.pack.result (IsResultOf request known)) (sym (ap query_request c.in-Pack.is))
    (IfOk-weaker c.pack.result _ _ (pack_found known _ _ _ _) c.pack.ensures.answer)

pub returns-in-Pack-clause-stopped : goal.returns-in-Pack-clause-stopped
returns-in-Pack-clause-stopped g c =
    let known = (g.R.Input.state c.args.input.now).coming in
    subst (λ request. IfErr c.pack.result (IsStopOf request known)) (sym (ap query_request c.in-Pack.is))
    (IfErr-weaker c.pack.result _ _ (pack_stops known _ _ _ _) c.pack.ensures.refused)

pub returns-in-Spread-clause-found : goal.returns-in-Spread-clause-found
returns-in-Spread-clause-found g c =
    let known = (g.R.Input.state c.args.input.now).coming in
    let asked = c.in-Spread.asked in
    let found = subst (λ shares. IfOk c.spread_selector.result (IsSpreadAnswer asked.depth asked.by shares)) c.deref-in-Spread.ensures.value c.spread_selector.ensures.answer in
    subst (λ request. IfOk c.spread_selector.result (IsResultOf request known)) (sym (ap query_request c.in-Spread.is))
    (IfOk-weaker c.spread_selector.result _ _ (spread_found known asked.depth asked.by asked.shares.items) found)

pub returns-in-Spread-clause-stopped : goal.returns-in-Spread-clause-stopped
returns-in-Spread-clause-stopped g c =
    let known = (g.R.Input.state c.args.input.now).coming in
    let asked = c.in-Spread.asked in
    subst (λ request. IfErr c.spread_selector.result (IsStopOf request known)) (sym (ap query_request c.in-Spread.is))
    (IfErr-weaker c.spread_selector.result _ _ (spread_stops known asked.depth asked.by asked.shares.items) c.spread_selector.ensures.never_refused)

pub returns-in-Check-clause-found : goal.returns-in-Check-clause-found
returns-in-Check-clause-found g c = search rules

pub returns-in-Check-clause-stopped : goal.returns-in-Check-clause-stopped
returns-in-Check-clause-stopped g c = search rules

pub returns-in-Run-clause-found : goal.returns-in-Run-clause-found
returns-in-Run-clause-found g c = search rules

pub returns-in-Run-clause-stopped : goal.returns-in-Run-clause-stopped
returns-in-Run-clause-stopped g c = search rules

pub returns-in_ok-at_first-in-First-clause-stopped : goal.returns-in_ok-at_first-in-First-clause-stopped
returns-in_ok-at_first-in-First-clause-stopped g c = search rules
