use Rattle.std.proofs.Common.{subst}
use Rattle.std.proofs.lemmas.Bool.{false≢true}
use Rattle.control_rules.specs.Shown.{IsMemberAt}
use Rattle.control_rules.proofs.AddedLemmas.{member_added}
use Rattle.control_rules.proofs.FoundLemmas.{some_holds}
use Rattle.control_rules.proofs.LearnLemmas.{learns_then, learns_weaker}
use Rattle.control_rules.specs.declared.ask_failure.AskFailure.TheVariants.{OutOfMemory}
use Rattle.control_rules.proofs.StopLemmas.{err_is, stops_after, stops_unstored}
use Rattle.control_rules.proofs.reading.push_member.Goals as goal

pub returns-then-not-branch : goal.returns-then-not-branch
returns-then-not-branch g c =
    learns_weaker c.args.client.now c.push_filter.new.client _ _ (λ history are both done. absurd (false≢true done))
    (learns_then c.args.client.now c.ask_member.new.client c.push_filter.new.client _ _ c.in_ok-shown.ensures c.in_ok-push_filter.ensures)

pub returns : goal.returns
returns g c =
    learns_weaker c.args.client.now c.push_filter.new.client _ _
    (λ history are both done.
    let here = some_holds (λ shown. IsMemberAt (history shown.version) c.args.key c.args.index shown) _ c.in-Some.shown both.0 c.in-Some.is in
    member_added (history c.args.version) (are c.args.version) c.args.key c.args.index c.in-Some.shown c.args.text.now.items c.push_change.new.text.items
    c.push_filter.new.text.items c.push_lock.new.text.items
    (subst (λ v. IsMemberAt (history v) c.args.key c.args.index c.in-Some.shown) c.if-shown-version.false here)
    c.in_ok-push_change.ensures (both.1 c.if-not-branch.false) c.in_ok-push_lock.ensures)
    (learns_then c.args.client.now c.ask_member.new.client c.push_filter.new.client _ _ c.in_ok-shown.ensures c.in_ok-push_filter.ensures)

pub returns-in_err-shown : goal.returns-in_err-shown
returns-in_err-shown g c =
    rw (err_is c.from_residual.result c.in_err-shown.field-0.0 c.from_residual.ensures.1)
    (c.in_err-shown.ensures)

pub returns-in_err-push_change : goal.returns-in_err-push_change
returns-in_err-push_change g c =
    rw (err_is c.from_residual-in_err-push_change.result OutOfMemory c.from_residual-in_err-push_change.ensures.1)
    (stops_unstored c.args.client.now c.ask_member.new.client _ c.in_ok-shown.ensures)

pub returns-in_err-push_filter : goal.returns-in_err-push_filter
returns-in_err-push_filter g c =
    rw (err_is c.from_residual-in_err-push_filter.result c.in_err-push_filter.field-0.0 c.from_residual-in_err-push_filter.ensures.1)
    (stops_after c.in_err-push_filter.field-0.0 c.args.client.now c.ask_member.new.client c.push_filter.new.client _ c.in_ok-shown.ensures c.in_err-push_filter.ensures)

pub returns-in_err-push_lock : goal.returns-in_err-push_lock
returns-in_err-push_lock g c =
    rw (err_is c.from_residual-in_err-push_lock.result OutOfMemory c.from_residual-in_err-push_lock.ensures.1)
    (stops_unstored c.args.client.now c.push_filter.new.client _
    (learns_then c.args.client.now c.ask_member.new.client c.push_filter.new.client _ _ c.in_ok-shown.ensures c.in_ok-push_filter.ensures))
