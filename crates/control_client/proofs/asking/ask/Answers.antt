use Rattle.std.proofs.Common.{List, Option, sym, take, ◌∙◌, ℕ}
use Rattle.command_line.specs.declared.ending.Failure.{Failure}
use Rattle.control_client.specs.Exchange.{LineEndsBy}
use Rattle.control_client.proofs.ExchangeLemmas.{carried, exchanged, failed_send, refused_unsent, sent_line, sent_nothing, unheard}
use Rattle.control_client.proofs.ResultLemmas.{if_err}
use Rattle.control_client.proofs.asking.ask.Goals as goal

pub returns-in-Some-clause-asked : goal.returns-in-Some-clause-asked
returns-in-Some-clause-asked g c = refused_unsent c.args.switch c.args.line.now c.in-Some.reply.now (g.D.Wire.log c.args.wire.now) c.in-Some.ensures

pub returns-then-is_err-clause-unasked : goal.returns-then-is_err-clause-unasked
returns-then-is_err-clause-unasked g c =
    let log = g.D.Wire.log c.args.wire.now in let log' = g.D.Wire.log c.send.new.self in
    λ out. failed_send c.args.switch c.args.line.now log log' out
    (carried c.args.switch c.args.line.now c.unsent_reply.result c.in_default.not-Some c.unsent_reply.ensures)
    (sent_nothing c.send.result c.args.switch c.args.line.now log log' (sym c.is_err.ensures.value ∙ c.if-is_err.true) c.send.ensures.logged)

pub returns-in_err-size-clause-unasked : goal.returns-in_err-size-clause-unasked
returns-in_err-size-clause-unasked g c =
    let log = g.D.Wire.log c.args.wire.now in let mid = g.D.Wire.log c.send.new.self in let log' = g.D.Wire.log c.hear.new.wire in
    let fault = c.in_err-size.field-0.0 in
    if_err c.from_residual.result fault (λ (f : Failure). (out : Option (List ℕ)) → LineEndsBy f c.args.switch c.args.line.now log log' out out) c.from_residual.ensures.1
    (λ out. unheard fault c.args.switch c.args.line.now log mid log' out
    (carried c.args.switch c.args.line.now c.unsent_reply.result c.in_default.not-Some c.unsent_reply.ensures)
    (sent_line c.send.result c.args.switch c.args.line.now log mid (sym c.is_err.ensures.value ∙ c.if-is_err.false) c.send.ensures.logged)
    c.in_err-size.ensures.not_heard)

pub returns-clause-asked : goal.returns-clause-asked
returns-clause-asked g c =
    let log = g.D.Wire.log c.args.wire.now in let mid = g.D.Wire.log c.send.new.self in let log' = g.D.Wire.log c.hear.new.wire in
    exchanged c.args.switch c.args.line.now (take c.in_ok-size.size c.hear.new.room) log mid log'
    (carried c.args.switch c.args.line.now c.unsent_reply.result c.in_default.not-Some c.unsent_reply.ensures)
    (sent_line c.send.result c.args.switch c.args.line.now log mid (sym c.is_err.ensures.value ∙ c.if-is_err.false) c.send.ensures.logged)
    c.in_ok-size.ensures.heard
