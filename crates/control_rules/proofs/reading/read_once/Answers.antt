use Rattle.control_rules.specs.Shown.{IsShownOf}
use Rattle.control_rules.proofs.FileLemmas.{file_is}
use Rattle.control_rules.proofs.FoundLemmas.{some_holds}
use Rattle.control_rules.proofs.LearnLemmas.{learns_then, learns_weaker}
use Rattle.control_rules.specs.declared.ask_failure.AskFailure.TheVariants.{OutOfMemory}
use Rattle.control_rules.proofs.StopLemmas.{err_is, stops_after, stops_unstored}
use Rattle.control_rules.proofs.reading.read_once.Goals as goal

pub returns-then-not-branch : goal.returns-then-not-branch
returns-then-not-branch g c =
    learns_weaker c.args.client.now c.push_groups.new.client _ _ (λ history are both. tt)
    (learns_then c.args.client.now c.ask_shown.new.client c.push_groups.new.client _ _ c.in_ok-shown.ensures c.in_ok-push_groups.ensures)

pub returns : goal.returns
returns g c =
    learns_weaker c.args.client.now c.push_groups.new.client _ _
    (λ history are both.
    let here = some_holds (λ shown. IsShownOf (history shown.version) shown) _ c.in-Some.shown both.0 c.in-Some.is in
    file_is (history c.in-Some.shown.version) c.in-Some.shown c.in_ok-text.text.items c.push_groups.new.text.items here c.in_ok-text.ensures (both.1 c.if-not-branch.false here.groups))
    (learns_then c.args.client.now c.ask_shown.new.client c.push_groups.new.client _ _ c.in_ok-shown.ensures c.in_ok-push_groups.ensures)

pub returns-in_err-shown : goal.returns-in_err-shown
returns-in_err-shown g c =
    rw (err_is c.from_residual.result c.in_err-shown.field-0.0 c.from_residual.ensures.1)
    (c.in_err-shown.ensures)

pub returns-in_err-text : goal.returns-in_err-text
returns-in_err-text g c =
    rw (err_is c.from_residual-in_err-text.result OutOfMemory c.from_residual-in_err-text.ensures.1)
    (stops_unstored c.args.client.now c.ask_shown.new.client _ c.in_ok-shown.ensures)

pub returns-in_err-push_groups : goal.returns-in_err-push_groups
returns-in_err-push_groups g c =
    rw (err_is c.from_residual-in_err-push_groups.result c.in_err-push_groups.field-0.0 c.from_residual-in_err-push_groups.ensures.1)
    (stops_after c.in_err-push_groups.field-0.0 c.args.client.now c.ask_shown.new.client c.push_groups.new.client _ c.in_ok-shown.ensures c.in_err-push_groups.ensures)
