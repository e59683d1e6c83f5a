use Rattle.std.proofs.Common.{subst, inr}
use Rattle.std.specs.Prelude.{IfSome}
use Rattle.control_line.specs.Reading.{group_at}
use Rattle.control_rules.specs.body.Replies.{IsGroupReply}
use Rattle.control_rules.proofs.LearnLemmas.{if_some_all, learns_asked}
use Rattle.control_rules.proofs.ShownLemmas.{group_true}
use Rattle.control_rules.specs.History.{IsReadLine}
use Rattle.control_rules.proofs.StopLemmas.{err_is, stops_at}
use Rattle.control_rules.proofs.asking.ask_group.Goals as goal

pub returns : goal.returns
returns g c =
    let line = c.bytes.result.now in
    let reply = c.in_ok-reply.reply.items in
    learns_asked c.args.client.now c.ask.new.self line reply _ c.ask.ensures.switch (inr (group_at c.args.index, rw c.bytes.ensures.line c.group_line-line.ensures)) c.in_ok-reply.ensures.asked
    (λ history are true. if_some_all (IsGroupReply reply) _ (λ shown it. group_true history are line reply true c.args.index shown it (rw c.bytes.ensures.line c.group_line-line.ensures)) c.read_group.result (subst (λ text. IfSome c.read_group.result (IsGroupReply text)) c.deref.ensures.value c.read_group.ensures))

pub returns-in_err-reply : goal.returns-in_err-reply
returns-in_err-reply g c =
    rw (err_is c.from_residual.result c.in_err-reply.field-0.0 c.from_residual.ensures.1)
    (stops_at IsReadLine c.bytes.result.now c.in_err-reply.field-0.0 c.args.client.now c.ask.new.self (inr (group_at c.args.index, rw c.bytes.ensures.line c.group_line-line.ensures))
    c.in_err-reply.ensures.unasked c.ask.ensures.switch)
