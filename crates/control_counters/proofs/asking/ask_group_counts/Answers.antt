use Rattle.std.proofs.Common.{◌≡◌, ◌∙◌, inl, inr, subst}
use Rattle.std.specs.Prelude.{IfSome}
use Rattle.control_rules.specs.Fields.{fields_in}
use Rattle.control_counters.specs.body.Replies.{group_fields}
use Rattle.control_counters.proofs.TextLemmas.{group_told}
use Rattle.control_counters.proofs.WatchLemmas.{if_some_both, watches_asked}
use Rattle.control_counters.specs.Watching.{IsWatchLine}
use Rattle.control_rules.proofs.StopLemmas.{err_is, stops_at}
use Rattle.control_counters.proofs.asking.ask_group_counts.Goals as goal

pub returns : goal.returns
returns g c =
    let line = c.bytes.result.now in
    let reply = c.in_ok-reply.reply.items in
    let asks = c.bytes.ensures.line ∙ c.group_line-line.ensures in
    let read = c.read_group_counts.result in
    watches_asked c.args.client.now c.ask.new.self line reply _ c.ask.ensures.switch (inr (inl (c.args.key, asks))) c.in_ok-reply.ensures.asked
    (λ history are. if_some_both (λ group. group.key ≡ c.args.key) (λ group. fields_in reply ≡ group_fields group) _
    (λ group same is. group_told line reply c.args.key group asks same is) read c.read_group_counts.ensures.key
    (subst (λ text. IfSome read (λ group. fields_in text ≡ group_fields group)) c.deref.ensures.value c.read_group_counts.ensures.counts))

pub returns-in_err-reply : goal.returns-in_err-reply
returns-in_err-reply g c =
    rw (err_is c.from_residual.result c.in_err-reply.field-0.0 c.from_residual.ensures.1)
    (stops_at IsWatchLine c.bytes.result.now c.in_err-reply.field-0.0 c.args.client.now c.ask.new.self (inr (inr (inl (c.args.key, c.bytes.ensures.line ∙ c.group_line-line.ensures))))
    c.in_err-reply.ensures.unasked c.ask.ensures.switch)
