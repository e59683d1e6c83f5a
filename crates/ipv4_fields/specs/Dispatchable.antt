-- The packets that are dispatched, and their endpoints (RFC 791, section 3.1; RFC 768, "Format").
use Rattle.std.specs.Prelude.{◌≡◌, ◌==◌, ◌&&◌, ◌*◌, ◌+◌, ◌≤◌, if◌then◌else◌, Bool, List, None, Option, Some, length, nat_le, unwrap_or, ℕ}
use Rattle.ipv4_fields.specs.declared.header.Field.{Field}
use Rattle.ipv4_fields.specs.declared.header.Field.TheVariants.{Destination, DestinationPort, FragmentOffset, Ihl, MoreFragments, Protocol, Source, SourcePort, TotalLength, UdpLength, Version}
use Rattle.ipv4_fields.specs.declared.endpoint.Flow.{Flow}
use Rattle.ipv4_fields.specs.Field.{field_of}

-- a field's value, 0 if the packet lacks a byte of it
abbrev pub field_value : Field → List ℕ → ℕ
field_value name packet = unwrap_or (field_of name packet) 0

-- the number of bytes of the IPv4 header: the IHL counts words of four bytes
abbrev pub header_length : List ℕ → ℕ
header_length packet = 4 * field_value Ihl packet

-- one whole UDP datagram over IPv4, by its own length fields
pub record IsDispatchable (packet : List ℕ) : Type 0 where
  pub has_header : 20 ≤ length packet
  pub version : field_value Version packet ≡ 4
  pub ihl : 5 ≤ field_value Ihl packet
  pub whole : field_value TotalLength packet ≡ length packet
  pub has_udp_header : header_length packet + 8 ≤ field_value TotalLength packet
  pub last_fragment : field_value MoreFragments packet ≡ 0
  pub first_fragment : field_value FragmentOffset packet ≡ 0
  pub protocol : field_value Protocol packet ≡ 17
  pub udp_length_least : 8 ≤ field_value UdpLength packet
  pub udp_length_most : header_length packet + field_value UdpLength packet ≤ field_value TotalLength packet

-- the source and the destination of a packet
pub record IsFlowOf (packet : List ℕ) (flow : Flow) : Type 0 where
  pub source_address : field_of Source packet ≡ Some flow.source.address
  pub destination_address : field_of Destination packet ≡ Some flow.destination.address
  pub source_port : field_of SourcePort packet ≡ Some flow.source.port
  pub destination_port : field_of DestinationPort packet ≡ Some flow.destination.port

-- the same rules as a test, for definitions that go by cases on it
unfoldable pub is_dispatchable : List ℕ → Bool
is_dispatchable packet =
    nat_le 20 (length packet)
    && (field_value Version packet == 4)
    && nat_le 5 (field_value Ihl packet)
    && (field_value TotalLength packet == length packet)
    && nat_le (header_length packet + 8) (field_value TotalLength packet)
    && (field_value MoreFragments packet == 0)
    && (field_value FragmentOffset packet == 0)
    && (field_value Protocol packet == 17)
    && nat_le 8 (field_value UdpLength packet)
    && nat_le (header_length packet + field_value UdpLength packet) (field_value TotalLength packet)

-- the endpoints that the header fields name
abbrev pub ends_of : List ℕ → Flow
ends_of packet = record {
  source = record { address = field_value Source packet; port = field_value SourcePort packet };
  destination = record { address = field_value Destination packet; port = field_value DestinationPort packet };
}

-- the flow of a packet, none if it is not dispatchable
abbrev pub flow_of : List ℕ → Option Flow
flow_of packet = if is_dispatchable packet then Some (ends_of packet) else None
