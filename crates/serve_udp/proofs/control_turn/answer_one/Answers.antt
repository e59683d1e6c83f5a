use Rattle.std.proofs.Common.{None, [], refl}
use Rattle.dispatch.proofs.DeviceLemmas.{takes_nothing}
use Rattle.serve_udp.specs.Control.{ignored}
use Rattle.serve_udp.proofs.control_turn.answer_one.Goals as goal

pub returns-in_default : goal.returns-in_default
returns-in_default g c = record {
  answer = None;
  replies = [];
  answered = c.in_default.ensures.answered;
  logged = takes_nothing (g.C.ControlWire.log c.args.wire.now);
  replied_to = ignored;
  stopped = refl;
}
