use Rattle.std.proofs.Common.{◌≡◌, ◌∙◌, ap, subst}
use Rattle.config_diff.specs.Lead.{LeadTo}
use Rattle.config_diff.specs.Words.{words_config, words_of_commands}
use Rattle.control_rules.specs.Text.{changes_text}
use Rattle.control_rules.proofs.FoundLemmas.{some_holds}
use Rattle.control_rules.proofs.LearnLemmas.{learns_weaker}
use Rattle.control_rules.specs.Failing.{StopsAsking}
use Rattle.control_rules.specs.History.{IsReadLine}
use Rattle.control_rules.specs.declared.ask_failure.AskFailure.{AskFailure}
use Rattle.control_rules.specs.declared.ask_failure.AskFailure.TheVariants.{OutOfMemory}
use Rattle.control_rules.proofs.StopLemmas.{if_failed, stops_unstored}
use Rattle.control_rules.proofs.loading.differences.Goals as goal

pub returns : goal.returns
returns g c = record {
  read = learns_weaker c.args.client.now c.read_running.new.client _ _
      (λ history are has. record {
        version = c.in-Some.now.version;
        commands = words_of_commands c.in_ok-changes.changes.items;
        lead = subst (λ from. LeadTo (words_of_commands c.in_ok-changes.changes.items) from (words_config c.args.config.now))
            (some_holds (λ running. words_config running.config ≡ words_config (history running.version)) _ c.in-Some.now has c.in-Some.is)
            c.in_ok-changes.ensures.leads;
        lines = c.in_ok-changes_text.ensures ∙ ap (λ changes. changes_text (words_of_commands changes)) c.deref.ensures.value;
      })
      c.in_ok-now.ensures;
  failed = tt;
}

pub returns-in_err-now-clause-failed : goal.returns-in_err-now-clause-failed
returns-in_err-now-clause-failed g c =
    if_failed c.from_residual.result c.in_err-now.field-0.0 (λ (failure : AskFailure). StopsAsking IsReadLine failure c.args.client.now c.read_running.new.client) c.from_residual.ensures.1
    (c.in_err-now.ensures)

pub returns-in_err-changes-clause-failed : goal.returns-in_err-changes-clause-failed
returns-in_err-changes-clause-failed g c =
    if_failed c.from_residual-in_err-changes.result OutOfMemory (λ (failure : AskFailure). StopsAsking IsReadLine failure c.args.client.now c.read_running.new.client) c.from_residual-in_err-changes.ensures.1
    (stops_unstored c.args.client.now c.read_running.new.client _ c.in_ok-now.ensures)

pub returns-in_err-changes_text-clause-failed : goal.returns-in_err-changes_text-clause-failed
returns-in_err-changes_text-clause-failed g c =
    if_failed c.from_residual-in_err-changes_text.result OutOfMemory (λ (failure : AskFailure). StopsAsking IsReadLine failure c.args.client.now c.read_running.new.client) c.from_residual-in_err-changes_text.ensures.1
    (stops_unstored c.args.client.now c.read_running.new.client _ c.in_ok-now.ensures)
