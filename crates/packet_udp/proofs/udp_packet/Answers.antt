use Rattle.std.proofs.Common.{arith, rules}
use Rattle.ipv4_fields.specs.Endpoint.{IsEndpoint}
use Rattle.packet_udp.proofs.PacketLemmas.{joined}
use Rattle.packet_udp.proofs.SumLemmas.{are_bytes}
use Rattle.packet_udp.proofs.udp_packet.Goals as goal

pub returns : goal.returns
returns c =
    let source : IsEndpoint c.args.from = search rules in
    let destination : IsEndpoint c.args.to = search rules in
    record {
      packet = joined c.args.from c.args.to c.args.payload.now c.extend_from_slice-3.new.self.items c.ipv4_header.result c.udp_header.result _ _ source destination c.requires
          (are_bytes c.args.payload.now c.type_inv.payload) (omega arith) (omega arith) c.ipv4_header.ensures c.udp_header.ensures (grind arith);
    }
