-- The rule that a malformed packet breaks (docs/SWITCH.md, "Which packets are dispatched").
use Rattle.std.specs.Prelude.{◌==◌, ◌&&◌, ◌+◌, Bool, List, None, Option, Some, false, length, nat_le, true, ℕ}
use Rattle.ipv4_fields.specs.declared.header.Field.TheVariants.{FragmentOffset, Ihl, MoreFragments, Protocol, TotalLength, UdpLength, Version}
use Rattle.ipv4_fields.specs.Dispatchable.{field_value, header_length}
use Rattle.packet_verdict.specs.declared.malformed.Malformation.{Malformation}
use Rattle.packet_verdict.specs.declared.malformed.Malformation.TheVariants as broken

-- the total length is the number of bytes, and has room for a UDP header
unfoldable pub lengths_fit : List ℕ → Bool
lengths_fit packet =
    (field_value TotalLength packet == length packet) && nat_le (header_length packet + 8) (field_value TotalLength packet)

-- no fragment: none follows, and none came before
unfoldable pub is_no_fragment : List ℕ → Bool
is_no_fragment packet = (field_value MoreFragments packet == 0) && (field_value FragmentOffset packet == 0)

-- the UDP length has room for its header, and is no more than the total length leaves
unfoldable pub udp_length_fits : List ℕ → Bool
udp_length_fits packet =
    nat_le 8 (field_value UdpLength packet)
    && nat_le (header_length packet + field_value UdpLength packet) (field_value TotalLength packet)

-- a rule comes before others: if the packet breaks it, they are not tested
abbrev pub rule : Bool → Malformation → Option Malformation → Option Malformation
rule true name others = others
rule false name others = Some name

-- the first rule that a packet breaks, in this order
unfoldable pub malformation_of : List ℕ → Option Malformation
malformation_of packet =
    rule (nat_le 20 (length packet)) broken.Short
    (rule (field_value Version packet == 4) broken.Version
    (rule (nat_le 5 (field_value Ihl packet)) broken.Header
    (rule (lengths_fit packet) broken.Length
    (rule (field_value Protocol packet == 17) broken.Protocol
    (rule (is_no_fragment packet) broken.Fragment
    (rule (udp_length_fits packet) broken.UdpLength None))))))
