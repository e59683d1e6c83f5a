-- The bytes of the headers, and the plain sums that the checksums are made of.
use Rattle.std.specs.Prelude.{◌+◌, ◌*◌, ◌/◌, ◌%◌, ◌^◌, ◌∷◌, ◌++◌, List, [], ℕ}
use Rattle.std.specs.Int.{to_be_bytes, w16, w32}

-- the sum of the 16-bit words of bytes; an odd last byte is padded by a zero byte
abbrev pub word_sum : List ℕ → ℕ
word_sum [] = 0
word_sum (high ∷ []) = high * 256
word_sum (high ∷ low ∷ bytes) = high * 256 + low + word_sum bytes

-- the two words of an address
abbrev pub address_sum : ℕ → ℕ
address_sum address = address / 2 ^ 16 + address % 2 ^ 16

-- the IPv4 header of a packet with this total length
abbrev pub ipv4_header : (source destination total checksum : ℕ) → List ℕ
ipv4_header source destination total checksum =
    0x45 ∷ (0 ∷ (to_be_bytes w16 total ++ (0 ∷ (0 ∷ (0x40 ∷ (0 ∷ (64 ∷ (17 ∷ (to_be_bytes w16 checksum ++ (to_be_bytes w32 source ++ to_be_bytes w32 destination))))))))))

-- the UDP header of a datagram with this length
abbrev pub udp_header : (source destination datagram checksum : ℕ) → List ℕ
udp_header source destination datagram checksum =
    to_be_bytes w16 source ++ (to_be_bytes w16 destination ++ (to_be_bytes w16 datagram ++ to_be_bytes w16 checksum))
