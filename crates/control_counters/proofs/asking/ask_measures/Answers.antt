use Rattle.std.proofs.Common.{codes, inl, refl, subst}
use Rattle.std.specs.Prelude.{IfSome}
use Rattle.control_rules.specs.Shown.{IsShownReply}
use Rattle.control_rules.proofs.LearnLemmas.{if_some_all}
use Rattle.control_rules.proofs.ShownLemmas.{shown_true}
use Rattle.control_counters.proofs.WatchLemmas.{named_so, watches_read}
use Rattle.control_counters.specs.Watching.{IsWatchLine}
use Rattle.control_rules.proofs.StopLemmas.{err_is, stops_at}
use Rattle.control_counters.proofs.asking.ask_measures.Goals as goal

pub returns : goal.returns
returns g c =
    let reply = c.in_ok-reply.reply.items in
    watches_read c.args.client.now c.ask.new.self (codes "show") reply _ c.ask.ensures.switch (inl refl) c.in_ok-reply.ensures.asked
    (λ history are true. if_some_all (IsShownReply reply) _ (λ shown it. (shown_true history are (codes "show") reply true shown it refl, named_so reply shown it)) c.read_shown.result
    (subst (λ text. IfSome c.read_shown.result (IsShownReply text)) c.deref.ensures.value c.read_shown.ensures))

pub returns-in_err-reply : goal.returns-in_err-reply
returns-in_err-reply g c =
    rw (err_is c.from_residual.result c.in_err-reply.field-0.0 c.from_residual.ensures.1)
    (stops_at IsWatchLine (codes "show") c.in_err-reply.field-0.0 c.args.client.now c.ask.new.self (inl (inl refl)) c.in_err-reply.ensures.unasked c.ask.ensures.switch)
