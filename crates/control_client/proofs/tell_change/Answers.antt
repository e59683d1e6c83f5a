use Rattle.control_client.specs.Refused.{ShownOn}
use Rattle.control_client.proofs.TellLemmas.{change_not_made, change_of, change_stopped_in, change_told}
use Rattle.control_client.proofs.ResultLemmas.{if_err, lines_alike, lines_unread}
use Rattle.std.proofs.Common.{Bool, Err, Result, inr, refl, ◌≡◌}
use Rattle.std.specs.Prelude.{IsErrAnd}
use Rattle.command_streams.specs.Failures.{FailuresValue}
use Rattle.control_client.specs.Lines.{LinesFail}
use Rattle.command_line.specs.declared.ending.Failure.{Failure}
use Rattle.command_line.specs.declared.ending.Failure.TheVariants.{OutOfMemory}
use Rattle.control_client.specs.Tell.{ChangeEndsBy}
use Rattle.control_client.proofs.tell_change.Goals as goal

pub returns-in_err-request-clause-change_ended : goal.returns-in_err-request-clause-change_ended
returns-in_err-request-clause-change_ended g c =
    let coming = g.L.Lines.coming c.args.lines.now in let log = g.D.Wire.log c.args.wire.now in let out = g.W.CountedWrite.contents c.args.out.now in
    let fault = c.in_err-request.field-0.0 in
    if_err c.from_residual.result fault (λ (f : Failure). ChangeEndsBy f c.args.switch coming log log out out) c.from_residual.ensures.1
    (change_not_made fault c.args.switch coming log out c.in_err-request.ensures.faults)

pub returns-in_err-room-clause-change_ended : goal.returns-in_err-room-clause-change_ended
returns-in_err-room-clause-change_ended g c =
    let coming = g.L.Lines.coming c.args.lines.now in let log = g.D.Wire.log c.args.wire.now in let out = g.W.CountedWrite.contents c.args.out.now in
    if_err c.from_residual-in_err-room.result OutOfMemory (λ (f : Failure). ChangeEndsBy f c.args.switch coming log log out out) c.from_residual-in_err-room.ensures.1
    (change_not_made OutOfMemory c.args.switch coming log out (inr refl))

pub returns-clause-change_told : goal.returns-clause-change_told
returns-clause-change_told g c =
    change_told (ShownOn g.E.Write.contents g.X.Explains.shows) c.exchange.result c.args.switch (g.L.Lines.coming c.args.lines.now)
    _ (g.D.Wire.log c.args.wire.now) (g.D.Wire.log c.exchange.new.wire)
    (g.W.CountedWrite.contents c.args.out.now) (g.W.CountedWrite.contents c.exchange.new.out) c.args.errs.now c.exchange.new.errs
    (change_of (g.L.Lines.coming c.args.lines.now) _ c.deref.result.now _ c.as_slice.result.now c.deref.ensures.value c.as_slice.ensures.value
    c.in_ok-request.ensures.numbers c.in_ok-request.ensures.block) c.exchange.ensures.told

pub returns-clause-change_ended : goal.returns-clause-change_ended
returns-clause-change_ended g c =
    change_stopped_in (ShownOn g.E.Write.contents g.X.Explains.shows) c.exchange.result c.args.switch (g.L.Lines.coming c.args.lines.now)
    _ (g.D.Wire.log c.args.wire.now) (g.D.Wire.log c.exchange.new.wire)
    (g.W.CountedWrite.contents c.args.out.now) (g.W.CountedWrite.contents c.exchange.new.out) c.args.errs.now c.exchange.new.errs
    (change_of (g.L.Lines.coming c.args.lines.now) _ c.deref.result.now _ c.as_slice.result.now c.deref.ensures.value c.as_slice.ensures.value
    c.in_ok-request.ensures.numbers c.in_ok-request.ensures.block) c.exchange.ensures.stopped

-- a call read, and its fault is passed on
passed_on : {A : Type 0} (given : Result A Failure) (result : Result Bool Failure) (fault : Failure) (before after : FailuresValue) → IsErrAnd result (λ told. told ≡ fault)
    → LinesFail {A = A} (Err fault) before after → LinesFail result before after
passed_on {A = A} given result fault before after told fails = lines_alike A result fault before before after told refl fails

pub returns-in_err-request-clause-input_failed : goal.returns-in_err-request-clause-input_failed
returns-in_err-request-clause-input_failed g c =
    passed_on c.numbered_block_of.result c.from_residual.result c.in_err-request.field-0.0 (g.L.Lines.failures c.args.lines.now)
    (g.L.Lines.failures c.numbered_block_of.new.lines) c.from_residual.ensures.1 c.in_err-request.ensures.device_failed

pub returns-clause-input_failed : goal.returns-clause-input_failed
returns-clause-input_failed g c =
    lines_unread c.exchange.result c.args.switch _ _ _ _ _ (g.L.Lines.failures c.args.lines.now) (g.L.Lines.failures c.numbered_block_of.new.lines)
    c.exchange.ensures.stopped c.in_ok-request.ensures.device_failed
