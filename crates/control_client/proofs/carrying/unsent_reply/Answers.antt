use Rattle.std.proofs.Common.{subst, sym}
use Rattle.control_client.specs.Carried.{IsTooLong, too_long}
use Rattle.control_client.specs.declared.device.Peer.{Peer}
use Rattle.control_client.proofs.carrying.unsent_reply.Goals as goal

pub returns-then-text-gt-LONGEST_LINE : goal.returns-then-text-gt-LONGEST_LINE
returns-then-text-gt-LONGEST_LINE c =
    too_long (subst (λ (peer : Peer). IsTooLong peer c.args.text.now) (sym c.in-Udp.is) c.if-text-gt-LONGEST_LINE.true)
