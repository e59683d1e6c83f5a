use Rattle.std.proofs.Common.{Some}
use Rattle.control_rules.specs.body.Added.{HasWordsOf}
use Rattle.control_rules.proofs.AddedLemmas.{filter_none, filter_some}
use Rattle.control_rules.proofs.FoundLemmas.{some_holds}
use Rattle.control_rules.proofs.LearnLemmas.{learns_nothing, learns_weaker}
use Rattle.control_rules.specs.declared.ask_failure.AskFailure.TheVariants.{OutOfMemory}
use Rattle.control_rules.proofs.StopLemmas.{err_is, stops_unstored}
use Rattle.control_rules.proofs.reading.push_filter.Goals as goal

pub returns-then-count-eq0 : goal.returns-then-count-eq0
returns-then-count-eq0 g c =
    learns_nothing c.args.client.now _ (λ history are done. filter_none (history c.args.version) (are c.args.version) c.args.owner.0 c.args.owner.1 c.args.count c.args.text.now.items c.if-count-eq0.true)

pub returns : goal.returns
returns g c =
    learns_weaker c.args.client.now c.read_program.new.client _ _
    (λ history are has done. filter_some (history c.args.version) (are c.args.version) c.args.owner.0 c.args.owner.1 c.args.count c.in-Some.program.words c.args.text.now.items c.push_change.new.text.items c.if-count-eq0.false
    (some_holds (λ it. HasWordsOf (history c.args.version) c.args.owner.0 (Some c.args.owner.1) c.args.count it.words) _ c.in-Some.program has c.in-Some.is) c.in_ok-push_change.ensures)
    c.in_ok-program.ensures

pub returns-in_err-program : goal.returns-in_err-program
returns-in_err-program g c =
    rw (err_is c.from_residual.result c.in_err-program.field-0.0 c.from_residual.ensures.1)
    (c.in_err-program.ensures)

pub returns-in_err-push_change : goal.returns-in_err-push_change
returns-in_err-push_change g c =
    rw (err_is c.from_residual-in_err-push_change.result OutOfMemory c.from_residual-in_err-push_change.ensures.1)
    (stops_unstored c.args.client.now c.read_program.new.client _ c.in_ok-program.ensures)
