use Rattle.std.proofs.Common.{Bool, Option, ap, inr, refl, subst, sym, ◌≡◌, ◌||◌, ◌∙◌, rules, ℕ}
use Rattle.std.proofs.lemmas.Bool.{or_right}
use Rattle.control_client.specs.Refused.{ShownOn}
use Rattle.command_line.specs.declared.ending.Failure.{Failure}
use Rattle.command_line.specs.declared.ending.Failure.TheVariants.{OutOfMemory}
use Rattle.control_client.specs.Tell.{TellsFirst}
use Rattle.command_streams.proofs.OutputLemmas.{fails_alike, fails_otherwise}
use Rattle.control_client.proofs.ResultLemmas.{if_err, lines_alike, lines_otherwise, never_unread, never_unwritten}
use Rattle.control_client.proofs.TellLemmas.{IsTelling, given_none, given_request, or_false, stops_at_start, stops_between, stops_in_line, telling_begins, telling_on, tells_all}
use Rattle.control_client.proofs.tell.Goals as goal
use Rattle.control_client.proofs.tell.Goals.{else-branch, then-branch}

pub returns-in_err-room-clause-first_told : goal.returns-in_err-room-clause-first_told
returns-in_err-room-clause-first_told g c =
    let shows = ShownOn g.E.Write.contents g.X.Explains.shows in
    let coming = g.L.Lines.coming c.args.lines.now in let log = g.D.Wire.log c.args.wire.now in let out = g.W.CountedWrite.contents c.args.out.now in let errs = c.args.errs.now in
    if_err c.from_residual.result OutOfMemory (λ (f : Failure). TellsFirst shows f c.args.switch coming log log out out errs errs) c.from_residual.ensures.1
    (stops_at_start shows c.args.switch coming log out errs OutOfMemory refl)

pub loop-request-init : goal.loop-request-init
loop-request-init g c =
    (telling_begins (ShownOn g.E.Write.contents g.X.Explains.shows) c.args.switch (g.L.Lines.coming c.args.lines.now) (g.D.Wire.log c.args.wire.now) (g.W.CountedWrite.contents c.args.out.now) c.args.errs.now, refl, refl)

pub returns-in_err-number-clause-first_told : goal.returns-in_err-number-clause-first_told
returns-in_err-number-clause-first_told g c =
    let shows = ShownOn g.E.Write.contents g.X.Explains.shows in
    let coming = g.L.Lines.coming c.args.lines.now in let mid = g.L.Lines.coming c.loop-request.lines in
    let log = g.D.Wire.log c.args.wire.now in let log' = g.D.Wire.log c.loop-request.wire in
    let out = g.W.CountedWrite.contents c.args.out.now in let out' = g.W.CountedWrite.contents c.loop-request.out in
    let errs = c.args.errs.now in let errs' = c.loop-request.errs in
    let fault = c.in_err-number.field-0.0 in
    if_err c.from_residual-in_err-number.result fault (λ (f : Failure). TellsFirst shows f c.args.switch coming log log' out out' errs errs') c.from_residual-in_err-number.ensures.1
    (stops_between shows c.args.switch coming mid mid log log' log' out out' out' errs errs' errs' c.loop-request.refused c.loop-request.invariant.0 fault c.in_err-number.ensures.faults)

pub returns-in_default-clause-all_told : goal.returns-in_default-clause-all_told
returns-in_default-clause-all_told g c =
    let shows = ShownOn g.E.Write.contents g.X.Explains.shows in
    let coming = g.L.Lines.coming c.args.lines.now in let mid = g.L.Lines.coming c.loop-request.lines in let after = g.L.Lines.coming c.next_request.new.lines in
    let log = g.D.Wire.log c.args.wire.now in let log' = g.D.Wire.log c.loop-request.wire in
    let out = g.W.CountedWrite.contents c.args.out.now in let out' = g.W.CountedWrite.contents c.loop-request.out in
    let errs = c.args.errs.now in let errs' = c.loop-request.errs in
    tells_all shows c.args.switch coming mid after log log' log' out out' out' errs errs' errs' c.loop-request.refused c.loop-request.invariant.0
    (given_none mid after c.next_request.new.numbers.items c.next_request.new.request.items c.in_ok-number.field-0 c.in_default.not-Some c.in_ok-number.ensures.next)

pub returns-in_default-clause-first_told : goal.returns-in_default-clause-first_told
returns-in_default-clause-first_told g c = search rules

pub returns-in_err-exchange-clause-first_told : goal.returns-in_err-exchange-clause-first_told
returns-in_err-exchange-clause-first_told g c =
    let shows = ShownOn g.E.Write.contents g.X.Explains.shows in
    let coming = g.L.Lines.coming c.args.lines.now in let mid = g.L.Lines.coming c.loop-request.lines in let after = g.L.Lines.coming c.next_request.new.lines in
    let log = g.D.Wire.log c.args.wire.now in let log' = g.D.Wire.log c.loop-request.wire in
    let out = g.W.CountedWrite.contents c.args.out.now in let out' = g.W.CountedWrite.contents c.loop-request.out in
    let errs = c.args.errs.now in let errs' = c.loop-request.errs in
    let log'' = g.D.Wire.log c.exchange.new.wire in let out'' = g.W.CountedWrite.contents c.exchange.new.out in let errs'' = c.exchange.new.errs in let fault = c.in_err-exchange.field-0.0 in
    let given = given_request mid after c.in-Some.number c.next_request.new.numbers.items c.deref.result.now c.next_request.new.request.items c.as_slice.result.now c.in_ok-number.field-0
    c.deref.ensures.value c.as_slice.ensures.value c.in-Some.is c.in_ok-number.ensures.next in
    if_err c.from_residual-in_err-exchange.result fault (λ (f : Failure). TellsFirst shows f c.args.switch coming log log'' out out'' errs errs'') c.from_residual-in_err-exchange.ensures.1
    (stops_in_line shows c.args.switch coming mid after log log' log'' out out' out'' errs errs' errs'' c.loop-request.refused c.loop-request.invariant.0 fault
    _ given c.in_err-exchange.ensures.stopped c.in_err-exchange.ensures.unshown)

pub loop-request-preserved : goal.loop-request-preserved
loop-request-preserved g c =
    let shows = ShownOn g.E.Write.contents g.X.Explains.shows in
    let coming = g.L.Lines.coming c.args.lines.now in let mid = g.L.Lines.coming c.loop-request.lines in let after = g.L.Lines.coming c.next_request.new.lines in
    let log = g.D.Wire.log c.args.wire.now in let log' = g.D.Wire.log c.loop-request.wire in
    let out = g.W.CountedWrite.contents c.args.out.now in let out' = g.W.CountedWrite.contents c.loop-request.out in
    let errs = c.args.errs.now in let errs' = c.loop-request.errs in
    let log'' = g.D.Wire.log c.exchange.new.wire in let out'' = g.W.CountedWrite.contents c.exchange.new.out in let errs'' = c.exchange.new.errs in let one = c.in_ok-exchange.field-0 in
    let given = given_request mid after c.in-Some.number c.next_request.new.numbers.items c.deref.result.now c.next_request.new.request.items c.as_slice.result.now c.in_ok-number.field-0
    c.deref.ensures.value c.as_slice.ensures.value c.in-Some.is c.in_ok-number.ensures.next in
    let on = telling_on shows c.args.switch coming mid after log log' log'' out out' out'' errs errs' errs'' c.loop-request.refused c.loop-request.invariant.0 _ one given c.in_ok-exchange.ensures.told in
    let refused : (c.loop-request.refused || one) ≡ c.if-branch.refused = (elim c.if-branch.branch [
      | then-branch w ↦ or_right c.loop-request.refused one w.if-branch.true ∙ sym w.refused-is
      | else-branch w ↦ ap (λ (b : Bool). c.loop-request.refused || b) w.if-branch.false ∙ or_false c.loop-request.refused ∙ sym w.refused-is
    ]) in
    (subst (λ (b : Bool). IsTelling shows c.args.switch coming after log log'' out out'' errs errs'' b) refused on, c.in_ok-exchange.ensures.device_failed ∙ c.loop-request.invariant.1, c.in_ok-number.ensures.device_failed ∙ c.loop-request.invariant.2)

pub returns-clause-first_told : goal.returns-clause-first_told
returns-clause-first_told g c =
    let shows = ShownOn g.E.Write.contents g.X.Explains.shows in
    let coming = g.L.Lines.coming c.args.lines.now in let mid = g.L.Lines.coming c.loop-request.lines in
    let log = g.D.Wire.log c.args.wire.now in let log' = g.D.Wire.log c.loop-request.wire in
    let out = g.W.CountedWrite.contents c.args.out.now in let out' = g.W.CountedWrite.contents c.loop-request.out in
    let errs = c.args.errs.now in let errs' = c.loop-request.errs in
    stops_between shows c.args.switch coming mid mid log log' log' out out' out' errs errs' errs' c.loop-request.refused c.loop-request.invariant.0 OutOfMemory (inr refl)

pub returns-clause-all_told : goal.returns-clause-all_told
returns-clause-all_told g c = search rules

pub returns-in_err-number-clause-device_failed : goal.returns-in_err-number-clause-device_failed
returns-in_err-number-clause-device_failed g c =
    fails_otherwise c.from_residual-in_err-number.result c.in_err-number.field-0.0 (g.W.CountedWrite.failures c.args.out.now) (g.W.CountedWrite.failures c.loop-request.out)
    c.from_residual-in_err-number.ensures.1 (never_unwritten c.in_err-number.field-0.0 c.in_err-number.ensures.faults) c.loop-request.invariant.1

pub returns-in_err-exchange-clause-device_failed : goal.returns-in_err-exchange-clause-device_failed
returns-in_err-exchange-clause-device_failed g c =
    fails_alike Bool c.from_residual-in_err-exchange.result c.in_err-exchange.field-0.0 (g.W.CountedWrite.failures c.args.out.now) (g.W.CountedWrite.failures c.loop-request.out)
    (g.W.CountedWrite.failures c.exchange.new.out) c.from_residual-in_err-exchange.ensures.1 c.loop-request.invariant.1 c.in_err-exchange.ensures.device_failed

pub returns-in_err-number-clause-input_failed : goal.returns-in_err-number-clause-input_failed
returns-in_err-number-clause-input_failed g c =
    lines_alike (Option ℕ) c.from_residual-in_err-number.result c.in_err-number.field-0.0 (g.L.Lines.failures c.args.lines.now) (g.L.Lines.failures c.loop-request.lines)
    (g.L.Lines.failures c.next_request.new.lines) c.from_residual-in_err-number.ensures.1 c.loop-request.invariant.2 c.in_err-number.ensures.device_failed

pub returns-in_err-exchange-clause-input_failed : goal.returns-in_err-exchange-clause-input_failed
returns-in_err-exchange-clause-input_failed g c =
    lines_otherwise c.from_residual-in_err-exchange.result c.in_err-exchange.field-0.0 (g.L.Lines.failures c.args.lines.now) (g.L.Lines.failures c.next_request.new.lines)
    c.from_residual-in_err-exchange.ensures.1 (never_unread c.in_err-exchange.field-0.0 c.args.switch _ _ _ _ _ c.in_err-exchange.ensures.stopped)
    (c.in_ok-number.ensures.device_failed ∙ c.loop-request.invariant.2)
