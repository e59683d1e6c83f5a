use Rattle.control_rules.proofs.LearnLemmas.{learns_nothing, learns_then, learns_weaker}
use Rattle.control_rules.proofs.FoundLemmas.{some_holds}
use Rattle.control_rules.specs.Rules.{rules_file}
use Rattle.std.proofs.Common.{◌≡◌}
use Rattle.control_rules.specs.Failing.{StopsAsking}
use Rattle.control_rules.specs.History.{IsReadLine}
use Rattle.control_rules.specs.declared.ask_failure.AskFailure.{AskFailure}
use Rattle.control_rules.proofs.StopLemmas.{if_failed, stops_after}
use Rattle.control_rules.proofs.reading.read_rules.Goals as goal

pub loop-turn-init : goal.loop-turn-init
loop-turn-init g c = learns_nothing _ _ (λ history are. tt)

pub returns-in-Some : goal.returns-in-Some
returns-in-Some g c = record {
  read = learns_weaker c.args.client.now c.read_once.new.client _ _
      (λ history are both. some_holds (λ rules. rules.text.items ≡ rules_file rules.version (history rules.version)) _ c.in-Some.rules both.1 c.in-Some.is)
      (learns_then c.args.client.now c.loop-turn.client c.read_once.new.client _ _ c.loop-turn.invariant c.in_ok-rules.ensures);
  failed = tt;
}

pub loop-turn-preserved : goal.loop-turn-preserved
loop-turn-preserved g c =
    learns_weaker _ _ _ _ (λ history are both. tt)
    (learns_then _ c.loop-turn.client c.read_once.new.client _ _ c.loop-turn.invariant c.in_ok-rules.ensures)

pub returns-in_err-rules-clause-failed : goal.returns-in_err-rules-clause-failed
returns-in_err-rules-clause-failed g c =
    if_failed c.from_residual.result c.in_err-rules.field-0.0 (λ (failure : AskFailure). StopsAsking IsReadLine failure c.args.client.now c.read_once.new.client) c.from_residual.ensures.1
    (stops_after c.in_err-rules.field-0.0 c.args.client.now c.loop-turn.client c.read_once.new.client _ c.loop-turn.invariant c.in_err-rules.ensures)
