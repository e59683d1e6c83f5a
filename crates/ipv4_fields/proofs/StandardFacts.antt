-- Worked packets, so that a slip in a definition does not check.
use Rattle.std.specs.Fmt.{digits}
use Rattle.std.specs.Prelude.{◌≡◌, ◌∷◌, List, None, Some, [], codes, refl, take, ℕ}
use Rattle.ipv4_fields.specs.declared.header.Field.TheVariants.{DestinationPort, FragmentOffset, Ihl, MoreFragments, Protocol, Source, TotalLength, UdpLength, Version}
use Rattle.ipv4_fields.specs.Endpoint.{endpoint_number, endpoint_text}
use Rattle.ipv4_fields.specs.Field.{field_of, number_at}
use Rattle.ipv4_fields.specs.Dispatchable.{flow_of, is_dispatchable}

-- UDP from 10.0.0.1:5000 to 10.0.0.2:53 with one byte of data
abbrev sample : List ℕ
sample =
    0x45 ∷ 0x00 ∷ 0x00 ∷ 0x1d ∷ 0x00 ∷ 0x00 ∷ 0x00 ∷ 0x00 ∷ 0x40 ∷ 0x11 ∷ 0x00 ∷ 0x00 ∷ 0x0a ∷ 0x00 ∷ 0x00 ∷ 0x01
    ∷ 0x0a ∷ 0x00 ∷ 0x00 ∷ 0x02 ∷ 0x13 ∷ 0x88 ∷ 0x00 ∷ 0x35 ∷ 0x00 ∷ 0x09 ∷ 0x00 ∷ 0x00 ∷ 0x61 ∷ []

big_endian : number_at 4 (0x0a ∷ 0x00 ∷ 0x00 ∷ 0x01 ∷ []) 0 ≡ Some 167772161
big_endian = refl

missing_byte : number_at 4 (0x0a ∷ 0x00 ∷ 0x00 ∷ 0x01 ∷ []) 1 ≡ None
missing_byte = refl

version_4 : field_of Version sample ≡ Some 4
unfolding field_of
version_4 = refl

header_of_five_words : field_of Ihl sample ≡ Some 5
unfolding field_of
header_of_five_words = refl

length_29 : field_of TotalLength sample ≡ Some 29
unfolding field_of
length_29 = refl

protocol_udp : field_of Protocol sample ≡ Some 17
unfolding field_of
protocol_udp = refl

from_10_0_0_1 : field_of Source sample ≡ Some 0x0a000001
unfolding field_of
from_10_0_0_1 = refl

to_port_53 : field_of DestinationPort sample ≡ Some 53
unfolding field_of
to_port_53 = refl

nine_bytes_of_udp : field_of UdpLength sample ≡ Some 9
unfolding field_of
nine_bytes_of_udp = refl

no_protocol_in_nine_bytes : field_of Protocol (take 9 sample) ≡ None
unfolding field_of
no_protocol_in_nine_bytes = refl

-- RFC 791, appendix A, example 2: the two fragments' second words
first_fragment : field_of MoreFragments (0x45 ∷ 0x00 ∷ 0x01 ∷ 0x14 ∷ 0x00 ∷ 0x6f ∷ 0x20 ∷ 0x00 ∷ []) ≡ Some 1
unfolding field_of
first_fragment = refl

second_fragment : field_of FragmentOffset (0x45 ∷ 0x00 ∷ 0x00 ∷ 0xd8 ∷ 0x00 ∷ 0x6f ∷ 0x00 ∷ 0x20 ∷ []) ≡ Some 32
unfolding field_of
second_fragment = refl

-- an IHL of 0 puts the ports at the packet's beginning
ports_behind_no_header : field_of DestinationPort (0x40 ∷ 0x01 ∷ 0x02 ∷ 0x03 ∷ []) ≡ Some 0x0203
unfolding field_of
ports_behind_no_header = refl

sample_flow : flow_of sample ≡ Some (record {
  source = record { address = 0x0a000001; port = 5000 };
  destination = record { address = 0x0a000002; port = 53 };
})
unfolding is_dispatchable field_of
sample_flow = refl

cut_sample : flow_of (take 28 sample) ≡ None
unfolding is_dispatchable field_of
cut_sample = refl

port_0_of_the_next_address : endpoint_number (record { address = 1; port = 0 }) ≡ 65536
port_0_of_the_next_address = refl

-- ---- endpoints as texts

sample_text : endpoint_text (record { address = 167772162; port = 53 }) ≡ codes "10.0.0.2:53"
unfolding digits
sample_text = refl

greatest_text : endpoint_text (record { address = 4294967295; port = 65535 }) ≡ codes "255.255.255.255:65535"
unfolding digits
greatest_text = refl
