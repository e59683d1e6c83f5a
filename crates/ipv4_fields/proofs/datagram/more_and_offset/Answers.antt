use Rattle.ipv4_fields.proofs.FragmentLemmas.{more_and_offset}
use Rattle.ipv4_fields.proofs.datagram.more_and_offset.Goals as goal

pub returns : goal.returns
returns c = more_and_offset c.args.packet.now c.read_u16.result c.requires c.type_inv.packet c.read_u16.ensures
