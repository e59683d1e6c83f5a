use Rattle.std.proofs.Common.{◌≡◌, ◌∙◌, subst}
use Rattle.config_diff.specs.Words.{words_config}
use Rattle.control_client.specs.Exchange.{Asks}
use Rattle.control_rules.specs.Asked.{AskEndsBy}
use Rattle.control_rules.specs.Drain.{DrainIn, IsDrainRefusal}
use Rattle.control_rules.specs.body.Draining.{IsPlan}
use Rattle.control_rules.proofs.DrainingLemmas.{drain_attempt_read}
use Rattle.control_rules.proofs.FoundLemmas.{some_holds}
use Rattle.control_rules.proofs.LearnLemmas.{learns_weaker}
use Rattle.control_rules.specs.Drain.{drain_reading_failed, drain_send_failed}
use Rattle.control_rules.specs.declared.ask_failure.AskFailure.TheVariants.{OutOfMemory}
use Rattle.control_rules.proofs.DrainingLemmas.{unmade_drain}
use Rattle.control_rules.proofs.StopLemmas.{err_is, stops_unstored}
use Rattle.control_rules.proofs.draining.try_drain.Goals as goal

pub returns-in-Refused : goal.returns-in-Refused
returns-in-Refused g c =
    let refused = subst (IsPlan (words_config c.in-Some.now.config) c.args.key c.args.id) c.in-Refused.is c.in_ok-refusal.ensures in
    learns_weaker c.args.client.now c.read_running.new.client _ _
    (λ history are has. (
      c.in-Some.now.version,
      subst (λ config. IsDrainRefusal config c.args.key c.args.id c.in-Refused.refusal)
          (some_holds (λ running. words_config running.config ≡ words_config (history running.version)) _ c.in-Some.now has c.in-Some.is) refused,
    ))
    c.in_ok-now.ensures

pub returns : goal.returns
returns g c =
    let (commands, drains, text) = subst (IsPlan (words_config c.in-Some.now.config) c.args.key c.args.id) c.in-Lines.is c.in_ok-refusal.ensures in
    drain_attempt_read c.args.key c.args.id c.args.client.now c.ask.new.self c.in_ok-reply.reply.items c.attempt_of.result (c.attempt_of.ensures c.in_ok-reply.reply.items c.read_reply.ensures) (record {
      version = c.in-Some.now.version;
      mid = c.read_running.new.client;
      commands = commands;
      request = c.in_ok-request.request.items;
      learns = learns_weaker c.args.client.now c.read_running.new.client _ _
          (λ history are has. subst (λ config. DrainIn config c.args.key c.args.id commands)
          (some_holds (λ running. words_config running.config ≡ words_config (history running.version)) _ c.in-Some.now has c.in-Some.is) drains)
          c.in_ok-now.ensures;
      is_request = c.in_ok-request.ensures commands (c.deref.ensures.value ∙ text);
      asked = subst (λ line. Asks c.read_running.new.client.switch line c.in_ok-reply.reply.items c.read_running.new.client.log c.ask.new.self.log) c.deref-2.ensures.value c.in_ok-reply.ensures.asked;
      same_switch = c.ask.ensures.switch;
    })

pub returns-in_err-now : goal.returns-in_err-now
returns-in_err-now g c =
    rw (err_is c.from_residual.result c.in_err-now.field-0.0 c.from_residual.ensures.1)
    (drain_reading_failed c.in_err-now.ensures)

pub returns-in_err-refusal : goal.returns-in_err-refusal
returns-in_err-refusal g c =
    rw (err_is c.from_residual-in_err-refusal.result OutOfMemory c.from_residual-in_err-refusal.ensures.1)
    (drain_reading_failed (stops_unstored c.args.client.now c.read_running.new.client _ c.in_ok-now.ensures))

pub returns-in_err-request : goal.returns-in_err-request
returns-in_err-request g c =
    rw (err_is c.from_residual-in_err-request.result c.in_err-request.field-0.0 c.from_residual-in_err-request.ensures.1)
    (unmade_drain c.args.key c.args.id c.in_err-request.field-0.0 c.args.client.now c.read_running.new.client _ c.in_err-request.ensures c.in_ok-now.ensures)

pub returns-in_err-reply : goal.returns-in_err-reply
returns-in_err-reply g c =
    let (commands, drains, text) = subst (IsPlan (words_config c.in-Some.now.config) c.args.key c.args.id) c.in-Lines.is c.in_ok-refusal.ensures in
    rw (err_is c.from_residual-in_err-reply.result c.in_err-reply.field-0.0 c.from_residual-in_err-reply.ensures.1)
    (drain_send_failed (record {
      version = c.in-Some.now.version;
      mid = c.read_running.new.client;
      commands = commands;
      request = c.in_ok-request.request.items;
      learns = learns_weaker c.args.client.now c.read_running.new.client _ _
          (λ history are has. subst (λ config. DrainIn config c.args.key c.args.id commands)
          (some_holds (λ running. words_config running.config ≡ words_config (history running.version)) _ c.in-Some.now has c.in-Some.is) drains)
          c.in_ok-now.ensures;
      is_request = c.in_ok-request.ensures commands (c.deref.ensures.value ∙ text);
      stopped = subst (λ line. AskEndsBy c.in_err-reply.field-0.0 c.read_running.new.client.switch line c.read_running.new.client.log c.ask.new.self.log) c.deref-2.ensures.value c.in_err-reply.ensures.unasked;
      same_switch = c.ask.ensures.switch;
    }))
