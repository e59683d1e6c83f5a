use Rattle.std.proofs.Common.{subst}
use Rattle.std.proofs.lemmas.Bool.{false≢true}
use Rattle.control_rules.specs.Shown.{IsGroupAt}
use Rattle.control_rules.proofs.AddedLemmas.{group_added}
use Rattle.control_rules.proofs.FoundLemmas.{some_holds}
use Rattle.control_rules.proofs.LearnLemmas.{learns_then, learns_weaker}
use Rattle.control_rules.specs.declared.ask_failure.AskFailure.TheVariants.{OutOfMemory}
use Rattle.control_rules.proofs.StopLemmas.{err_is, match_after, stops_after, stops_unstored}
use Rattle.control_rules.proofs.reading.push_group.Goals as goal

pub returns-then-not-branch : goal.returns-then-not-branch
returns-then-not-branch g c =
    learns_weaker c.args.client.now c.push_selector.new.client _ _ (λ history are both done. absurd (false≢true done))
    (learns_then c.args.client.now c.ask_group.new.client c.push_selector.new.client _ _ c.in_ok-shown.ensures c.in_ok-push_selector.ensures)

pub returns : goal.returns
returns g c =
    match_after c.args.client.now c.push_selector.new.client c.push_members.new.client _ _ _ c.push_members.result
    (learns_then c.args.client.now c.ask_group.new.client c.push_selector.new.client _ _ c.in_ok-shown.ensures c.in_ok-push_selector.ensures)
    c.push_members.ensures
    (λ all history are both members done.
    let here = some_holds (λ shown. IsGroupAt (history shown.version) c.args.index shown) _ c.in-Some.shown both.0 c.in-Some.is in
    group_added (history c.args.version) (are c.args.version) c.args.index c.in-Some.shown c.args.text.now.items c.push_change.new.text.items
    c.push_selector.new.text.items c.push_members.new.text.items
    (subst (λ v. IsGroupAt (history v) c.args.index c.in-Some.shown) c.if-shown-version.false here)
    c.in_ok-push_change.ensures (both.1 c.if-not-branch.false) (members done))

pub returns-in_err-shown : goal.returns-in_err-shown
returns-in_err-shown g c =
    rw (err_is c.from_residual.result c.in_err-shown.field-0.0 c.from_residual.ensures.1)
    (c.in_err-shown.ensures)

pub returns-in_err-push_change : goal.returns-in_err-push_change
returns-in_err-push_change g c =
    rw (err_is c.from_residual-in_err-push_change.result OutOfMemory c.from_residual-in_err-push_change.ensures.1)
    (stops_unstored c.args.client.now c.ask_group.new.client _ c.in_ok-shown.ensures)

pub returns-in_err-push_selector : goal.returns-in_err-push_selector
returns-in_err-push_selector g c =
    rw (err_is c.from_residual-in_err-push_selector.result c.in_err-push_selector.field-0.0 c.from_residual-in_err-push_selector.ensures.1)
    (stops_after c.in_err-push_selector.field-0.0 c.args.client.now c.ask_group.new.client c.push_selector.new.client _ c.in_ok-shown.ensures c.in_err-push_selector.ensures)
