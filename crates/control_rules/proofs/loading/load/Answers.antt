use Rattle.std.proofs.Common.{refl, subst}
use Rattle.config_diff.specs.Words.{words_config}
use Rattle.control_rules.specs.Load.{no_try, one_more}
use Rattle.control_rules.specs.body.Attempt.{IsAttempt}
use Rattle.control_rules.proofs.LearnLemmas.{learns_nothing}
use Rattle.control_rules.specs.Load.{FailsLoad}
use Rattle.control_rules.specs.declared.ask_failure.AskFailure.{AskFailure}
use Rattle.control_rules.proofs.StopLemmas.{if_failed}
use Rattle.control_rules.proofs.loading.load.Goals as goal

pub loop-turn-init : goal.loop-turn-init
loop-turn-init g c = no_try _ refl

pub loop-turn-preserved : goal.loop-turn-preserved
loop-turn-preserved g c =
    let (reply, sends, again) = subst (IsAttempt c.args.file.now (words_config c.args.config.now) c.loop-turn.client c.try_once.new.client) c.in-Again.is c.in_ok-loaded.ensures in
    one_more c.loop-turn.client c.try_once.new.client reply c.loop-turn.invariant sends again

pub returns : goal.returns
returns g c = record { loaded = (c.loop-turn.client, c.loop-turn.invariant, learns_nothing c.loop-turn.client _ (λ history are. tt)); failed = tt }

pub returns-in_err-loaded-clause-failed : goal.returns-in_err-loaded-clause-failed
returns-in_err-loaded-clause-failed g c =
    if_failed c.from_residual.result c.in_err-loaded.field-0.0 (λ (failure : AskFailure). FailsLoad c.args.file.now (words_config c.args.config.now) failure c.args.client.now c.try_once.new.client) c.from_residual.ensures.1
    (c.loop-turn.client, c.loop-turn.invariant, c.in_err-loaded.ensures)
