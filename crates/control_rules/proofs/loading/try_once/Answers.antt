use Rattle.std.proofs.Common.{◌≡◌, ◌∙◌, subst, sym}
use Rattle.std.proofs.lemmas.Bool.{false≢true}
use Rattle.config_diff.specs.Words.{words_config}
use Rattle.control_client.specs.Exchange.{Asks}
use Rattle.control_rules.specs.Asked.{AskEndsBy}
use Rattle.control_rules.proofs.AttemptLemmas.{attempt_read}
use Rattle.control_rules.proofs.FoundLemmas.{some_holds}
use Rattle.control_rules.proofs.LearnLemmas.{learns_weaker}
use Rattle.control_rules.specs.Load.{reading_failed, send_failed}
use Rattle.control_rules.specs.declared.ask_failure.AskFailure.TheVariants.{OutOfMemory}
use Rattle.control_rules.proofs.AttemptLemmas.{unmade_request}
use Rattle.control_rules.proofs.StopLemmas.{err_is, stops_unstored}
use Rattle.control_rules.proofs.loading.try_once.Goals as goal

pub returns-then-branch : goal.returns-then-branch
returns-then-branch g c =
    learns_weaker c.args.client.now c.read_running.new.client _ _
    (λ history are has.
    sym (some_holds (λ running. words_config running.config ≡ words_config (history running.version)) _ c.in-Some.now has c.in-Some.is)
    ∙ c.in_ok-is_same.ensures.0 c.if-branch.true)
    c.in_ok-now.ensures

pub returns : goal.returns
returns g c =
    attempt_read c.args.file.now (words_config c.args.config.now) c.args.client.now c.ask.new.self c.in_ok-reply.reply.items c.read_reply.result c.read_reply.ensures (record {
      version = c.in-Some.now.version;
      mid = c.read_running.new.client;
      request = c.in_ok-request.request.items;
      learns = learns_weaker c.args.client.now c.read_running.new.client _ _
          (λ history are has same. false≢true (sym c.if-branch.false ∙ c.in_ok-is_same.ensures.1
          (some_holds (λ running. words_config running.config ≡ words_config (history running.version)) _ c.in-Some.now has c.in-Some.is ∙ same)))
          c.in_ok-now.ensures;
      is_request = c.in_ok-request.ensures;
      asked = subst (λ line. Asks c.read_running.new.client.switch line c.in_ok-reply.reply.items c.read_running.new.client.log c.ask.new.self.log) c.deref.ensures.value c.in_ok-reply.ensures.asked;
      same_switch = c.ask.ensures.switch;
    })

pub returns-in_err-now : goal.returns-in_err-now
returns-in_err-now g c =
    rw (err_is c.from_residual.result c.in_err-now.field-0.0 c.from_residual.ensures.1)
    (reading_failed c.in_err-now.ensures)

pub returns-in_err-is_same : goal.returns-in_err-is_same
returns-in_err-is_same g c =
    rw (err_is c.from_residual-in_err-is_same.result OutOfMemory c.from_residual-in_err-is_same.ensures.1)
    (reading_failed (stops_unstored c.args.client.now c.read_running.new.client _ c.in_ok-now.ensures))

pub returns-in_err-request : goal.returns-in_err-request
returns-in_err-request g c =
    rw (err_is c.from_residual-in_err-request.result c.in_err-request.field-0.0 c.from_residual-in_err-request.ensures.1)
    (unmade_request c.args.file.now (words_config c.args.config.now) c.in_err-request.field-0.0 c.args.client.now c.read_running.new.client _ c.in_err-request.ensures c.in_ok-now.ensures)

pub returns-in_err-reply : goal.returns-in_err-reply
returns-in_err-reply g c =
    rw (err_is c.from_residual-in_err-reply.result c.in_err-reply.field-0.0 c.from_residual-in_err-reply.ensures.1)
    (send_failed (record {
      version = c.in-Some.now.version;
      mid = c.read_running.new.client;
      request = c.in_ok-request.request.items;
      learns = learns_weaker c.args.client.now c.read_running.new.client _ _
          (λ history are has same. false≢true (sym c.if-branch.false ∙ c.in_ok-is_same.ensures.1
          (some_holds (λ running. words_config running.config ≡ words_config (history running.version)) _ c.in-Some.now has c.in-Some.is ∙ same)))
          c.in_ok-now.ensures;
      is_request = c.in_ok-request.ensures;
      stopped = subst (λ line. AskEndsBy c.in_err-reply.field-0.0 c.read_running.new.client.switch line c.read_running.new.client.log c.ask.new.self.log) c.deref.ensures.value c.in_err-reply.ensures.unasked;
      same_switch = c.ask.ensures.switch;
    }))
