use Rattle.std.proofs.Common.{◌∙◌, ◌++◌, List, ap, ℕ}
use Rattle.serve_control.specs.Answer.{bytes_of}
use Rattle.serve_udp.proofs.TurnLemmas.{not_sent, sent_back}
use Rattle.serve_udp.proofs.control_turn.send_totals.Goals as goal

pub returns-in-Ok : goal.returns-in-Ok
returns-in-Ok g c =
    sent_back _ _ c.args.to c.args.answer.now c.deref.result.now
    (c.deref.ensures.value ∙ (c.in-Ok.ensures.appended ∙ ap (λ (b : List ℕ). b ++ bytes_of c.args.answer.now) c.clear.ensures.items))
    c.reply.ensures.logged

pub returns-in-Err : goal.returns-in-Err
returns-in-Err g c = not_sent _ c.args.to c.args.answer.now c.requires
