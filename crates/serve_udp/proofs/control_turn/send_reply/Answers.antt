use Rattle.std.proofs.Common.{◌∙◌, ap, sym}
use Rattle.serve_control.specs.Answer.{bytes_of}
use Rattle.serve_udp.proofs.TurnLemmas.{sent_back}
use Rattle.serve_udp.proofs.control_turn.send_reply.Goals as goal

pub returns-in-Stop : goal.returns-in-Stop
returns-in-Stop g c = sent_back _ _ c.args.to c.args.answer.now c.as_slice.result.now (c.as_slice.ensures ∙ sym (ap bytes_of c.in-Stop.is)) c.reply.ensures.logged

pub returns-in-Line : goal.returns-in-Line
returns-in-Line g c =
    sent_back _ _ c.args.to c.args.answer.now c.bytes.result.now (c.bytes.ensures.line ∙ sym (ap bytes_of c.in-Line.is)) c.reply-in-Line.ensures.logged
