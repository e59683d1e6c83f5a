use Rattle.packet_udp.proofs.PayloadLemmas.{flow_is}
use Rattle.packet_udp.proofs.packed_is_dispatched.Goals as goal

pub returns : goal.returns
returns c = flow_is c.args.from c.args.to c.args.payload.now c.args.packet.now c.requires
