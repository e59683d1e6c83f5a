use Rattle.std.proofs.Common.{◌≡◌, ◌∙◌, inr, subst}
use Rattle.std.specs.Prelude.{IfSome}
use Rattle.control_rules.specs.Fields.{fields_in}
use Rattle.control_counters.specs.Frame.{seat_of}
use Rattle.control_counters.specs.body.Replies.{member_fields}
use Rattle.control_counters.proofs.TextLemmas.{member_told}
use Rattle.control_counters.proofs.WatchLemmas.{if_some_both, watches_asked}
use Rattle.control_counters.specs.Watching.{IsWatchLine}
use Rattle.control_rules.proofs.StopLemmas.{err_is, stops_at}
use Rattle.control_counters.proofs.asking.ask_member_counts.Goals as goal

pub returns : goal.returns
returns g c =
    let line = c.bytes.result.now in
    let reply = c.in_ok-reply.reply.items in
    let member = c.args.member in
    let asks = c.bytes.ensures.line ∙ c.member_line-line.ensures in
    let read = c.read_member_counts.result in
    watches_asked c.args.client.now c.ask.new.self line reply _ c.ask.ensures.switch (inr (inr (member.key, member.id, asks))) c.in_ok-reply.ensures.asked
    (λ history are. if_some_both (λ counts. seat_of counts ≡ seat_of member) (λ counts. fields_in reply ≡ member_fields counts) _
    (λ counts same is. member_told line reply member counts asks same is) read c.read_member_counts.ensures.seat
    (subst (λ text. IfSome read (λ counts. fields_in text ≡ member_fields counts)) c.deref.ensures.value c.read_member_counts.ensures.counts))

pub returns-in_err-reply : goal.returns-in_err-reply
returns-in_err-reply g c =
    rw (err_is c.from_residual.result c.in_err-reply.field-0.0 c.from_residual.ensures.1)
    (stops_at IsWatchLine c.bytes.result.now c.in_err-reply.field-0.0 c.args.client.now c.ask.new.self (inr (inr (inr (c.args.member.key, c.args.member.id, c.bytes.ensures.line ∙ c.member_line-line.ensures))))
    c.in_err-reply.ensures.unasked c.ask.ensures.switch)
