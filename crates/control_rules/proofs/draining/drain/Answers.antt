use Rattle.std.proofs.Common.{refl, subst}
use Rattle.control_rules.specs.Drain.{no_drain, one_drain}
use Rattle.control_rules.specs.body.Draining.{IsDrainAttempt}
use Rattle.control_rules.proofs.LearnLemmas.{learns_nothing}
use Rattle.control_rules.specs.Drain.{FailsDrain}
use Rattle.control_rules.specs.declared.ask_failure.AskFailure.{AskFailure}
use Rattle.control_rules.proofs.StopLemmas.{if_failed}
use Rattle.control_rules.proofs.draining.drain.Goals as goal

pub loop-turn-init : goal.loop-turn-init
loop-turn-init g c = no_drain _ refl

pub loop-turn-preserved : goal.loop-turn-preserved
loop-turn-preserved g c =
    let (reply, sends, again) = subst (IsDrainAttempt c.args.key c.args.id c.loop-turn.client c.try_drain.new.client) c.in-Again.is c.in_ok-drained.ensures in
    one_drain c.loop-turn.client c.try_drain.new.client reply c.loop-turn.invariant sends again

pub returns : goal.returns
returns g c = record { drained = (c.loop-turn.client, c.loop-turn.invariant, learns_nothing c.loop-turn.client _ (λ history are. tt)); failed = tt }

pub returns-in_err-drained-clause-failed : goal.returns-in_err-drained-clause-failed
returns-in_err-drained-clause-failed g c =
    if_failed c.from_residual.result c.in_err-drained.field-0.0 (λ (failure : AskFailure). FailsDrain c.args.key c.args.id failure c.args.client.now c.try_drain.new.client) c.from_residual.ensures.1
    (c.loop-turn.client, c.loop-turn.invariant, c.in_err-drained.ensures)
