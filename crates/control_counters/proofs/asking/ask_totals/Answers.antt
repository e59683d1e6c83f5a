use Rattle.std.proofs.Common.{◌≡◌, codes, inl, inr, refl, subst}
use Rattle.std.specs.Prelude.{IfSome}
use Rattle.control_rules.specs.Fields.{fields_in}
use Rattle.control_rules.proofs.LearnLemmas.{if_some_all}
use Rattle.control_counters.specs.body.Replies.{totals_fields}
use Rattle.control_counters.proofs.TextLemmas.{totals_told}
use Rattle.control_counters.proofs.WatchLemmas.{watches_asked}
use Rattle.control_counters.specs.Watching.{IsWatchLine}
use Rattle.control_rules.proofs.StopLemmas.{err_is, stops_at}
use Rattle.control_counters.proofs.asking.ask_totals.Goals as goal

pub returns : goal.returns
returns g c =
    let reply = c.in_ok-reply.reply.items in
    watches_asked c.args.client.now c.ask.new.self (codes "totals") reply _ c.ask.ensures.switch (inl refl) c.in_ok-reply.ensures.asked
    (λ history are. if_some_all (λ totals. fields_in reply ≡ totals_fields totals) _ (λ totals is. totals_told reply totals is) c.read_totals.result
    (subst (λ text. IfSome c.read_totals.result (λ totals. fields_in text ≡ totals_fields totals)) c.deref.ensures.value c.read_totals.ensures))

pub returns-in_err-reply : goal.returns-in_err-reply
returns-in_err-reply g c =
    rw (err_is c.from_residual.result c.in_err-reply.field-0.0 c.from_residual.ensures.1)
    (stops_at IsWatchLine (codes "totals") c.in_err-reply.field-0.0 c.args.client.now c.ask.new.self (inr (inl refl)) c.in_err-reply.ensures.unasked c.ask.ensures.switch)
