use Rattle.std.proofs.Common.{◌≡◌, ◌∙◌, ◌++◌, List, ap, rules, true, ℕ}
use Rattle.serve_control.specs.Log.{is_logged, log_text}
use Rattle.serve_control.proofs.log.Log.tell_request.Goals as goal

pub tell-requires : goal.tell-requires
tell-requires g c =
    let is : is_logged c.args.reply.now ≡ true = search rules in
    record {
      peer = c.args.peer;
      request = c.args.request.now;
      reply = c.args.reply.now;
      logged = is;
      is_line = c.deref.ensures.value ∙ (c.in_ok-push_line.ensures.appended
          ∙ ap (λ (text : List ℕ). text ++ log_text c.args.peer c.args.request.now c.args.reply.now) c.clear.ensures.items);
    }
