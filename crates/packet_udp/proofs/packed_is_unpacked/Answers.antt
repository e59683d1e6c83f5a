use Rattle.packet_udp.proofs.PayloadLemmas.{opened}
use Rattle.packet_udp.proofs.packed_is_unpacked.Goals as goal

pub returns : goal.returns
returns c = opened c.args.from c.args.to c.args.payload.now c.args.packet.now c.requires
