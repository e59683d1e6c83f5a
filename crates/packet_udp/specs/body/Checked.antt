-- Which numbers complete the sums of the two headers.
use Rattle.std.specs.Prelude.{◌≡◌, ◌+◌, ◌%◌, ◌<◌, ◌≤◌, List, ℕ}
use Rattle.ipv4_fields.specs.declared.endpoint.Endpoint.{Endpoint}
use Rattle.packet_udp.specs.body.Bytes.{address_sum, word_sum}

-- 0x4500, 0x4000 and 0x4011 are the words of the header that are constant
pub record IsIpv4Checksum (source destination total checksum : ℕ) : Type 0 where
  pub completes : (0x4500 + total + 0x4000 + 0x4011 + address_sum source + address_sum destination + checksum) % 65535 ≡ 0
  pub most : checksum < 65535

-- the plain sum of the words of the pseudo header, the header without its checksum, and the payload
abbrev pub udp_sum : Endpoint → Endpoint → ℕ → List ℕ → ℕ
udp_sum from to datagram payload =
    address_sum from.address + address_sum to.address + 17 + datagram + (from.port + to.port + datagram) + word_sum payload

pub record IsUdpChecksum (from to : Endpoint) (datagram : ℕ) (payload : List ℕ) (checksum : ℕ) : Type 0 where
  pub completes : (udp_sum from to datagram payload + checksum) % 65535 ≡ 0
  pub least : 1 ≤ checksum
  pub most : checksum ≤ 65535
