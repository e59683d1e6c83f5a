-- A packet of UDP over IPv4, field by field (RFC 791, section 3.1; RFC 768, "Format"; RFC 6864, section 4.1).
use Rattle.std.specs.Prelude.{◌≡◌, ◌≢◌, ◌+◌, ◌<◌, ◌∷◌, ◌++◌, IfSome, List, Some, drop, length, take, ℕ}
use Rattle.ipv4_fields.specs.Field.{field_of, number_at}
use Rattle.ipv4_fields.specs.declared.header.Field.TheVariants.{Destination, DestinationPort, FragmentOffset, Ihl, Protocol, Source, SourcePort, TotalLength, UdpLength, Version}
use Rattle.ipv4_fields.specs.declared.endpoint.Endpoint.{Endpoint}
use Rattle.packet_udp.specs.Checksum.{ones_complement_sum}

-- the pseudo header of a packet: its source and destination address, a zero byte, the protocol and the UDP length
abbrev pub pseudo_header : List ℕ → List ℕ
pseudo_header packet = take 8 (drop 12 packet) ++ (0 ∷ (take 1 (drop 9 packet) ++ take 2 (drop 24 packet)))

-- a packet of UDP that carries the payload from one endpoint to the other, with an IPv4 header of 20 bytes
pub record IsUdpPacket (from to : Endpoint) (payload packet : List ℕ) : Type 0 where
  pub version : field_of Version packet ≡ Some 4
  pub ihl : field_of Ihl packet ≡ Some 5
  pub type_of_service : number_at 1 packet 1 ≡ Some 0
  pub total_length : field_of TotalLength packet ≡ Some (28 + length payload)
  pub identification : number_at 2 packet 4 ≡ Some 0
  -- DF alone is set of the three flags, which are the highest bits of this byte
  pub flags : number_at 1 packet 6 ≡ Some 0x40
  pub fragment_offset : field_of FragmentOffset packet ≡ Some 0
  pub time_to_live : number_at 1 packet 8 ≡ Some 64
  pub protocol : field_of Protocol packet ≡ Some 17
  pub header_sum : ones_complement_sum (take 20 packet) ≡ 0xffff
  -- the complement of a sum that is not 0
  pub header_checksum : IfSome (number_at 2 packet 10) (λ checksum. checksum < 0xffff)
  pub source : field_of Source packet ≡ Some from.address
  pub destination : field_of Destination packet ≡ Some to.address
  pub source_port : field_of SourcePort packet ≡ Some from.port
  pub destination_port : field_of DestinationPort packet ≡ Some to.port
  pub udp_length : field_of UdpLength packet ≡ Some (8 + length payload)
  pub udp_sum : ones_complement_sum (pseudo_header packet ++ drop 20 packet) ≡ 0xffff
  -- 0 would say that there is no checksum
  pub udp_checksum : number_at 2 packet 26 ≢ Some 0
  pub payload_is : drop 28 packet ≡ payload
  pub whole : length packet ≡ 28 + length payload
