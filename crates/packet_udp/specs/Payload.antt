-- The payload of a UDP datagram (RFC 768, "Format").
use Rattle.std.specs.Prelude.{◌+◌, ◌-◌, ◌==◌, ◌&&◌, List, None, Option, Some, drop, if◌then◌else◌, take, ℕ}
use Rattle.ipv4_fields.specs.Dispatchable.{field_value, header_length, is_dispatchable}
use Rattle.ipv4_fields.specs.declared.header.Field.TheVariants.{DestinationPort, UdpLength}

-- the bytes after the UDP header, up to the UDP length; bytes after that are padding
abbrev pub payload_of : List ℕ → List ℕ
payload_of packet = take (field_value UdpLength packet - 8) (drop (header_length packet + 8) packet)

-- the payload of a packet that is one whole UDP datagram to the port, none of another packet; a fragment is no whole datagram
abbrev pub payload_to : ℕ → List ℕ → Option (List ℕ)
payload_to port packet =
    if is_dispatchable packet && (field_value DestinationPort packet == port) then Some (payload_of packet) else None
