-- The header fields of a UDP datagram over IPv4, by their bytes (RFC 791, section 3.1; RFC 768, "Format").
use Rattle.std.specs.Prelude.{◌*◌, ◌+◌, ◌/◌, ◌%◌, ◌^◌, ◌∷◌, if◌then◌else◌, List, None, Option, Some, [], drop, length, nat_le, option_and_then, option_map, take, ℕ}
use Rattle.ipv4_fields.specs.declared.header.Field.{Field}
use Rattle.ipv4_fields.specs.declared.header.Field.TheVariants.{Destination, DestinationPort, FragmentOffset, Ihl, MoreFragments, Protocol, Source, SourcePort, TotalLength, UdpLength, Version}

-- the big-endian number of n and then some bytes
abbrev pub big_endian_after : ℕ → List ℕ → ℕ
big_endian_after n [] = n
big_endian_after n (byte ∷ bytes) = big_endian_after (n * 256 + byte) bytes

-- the big-endian number of the n bytes from a place on, none if the packet lacks one of them
abbrev pub number_at : ℕ → List ℕ → ℕ → Option ℕ
number_at n packet place =
    if nat_le (place + n) (length packet) then Some (big_endian_after 0 (take n (drop place packet))) else None

-- this many bits of a number, from a bit on, the lowest being bit 0
abbrev pub bits_from : ℕ → ℕ → ℕ → ℕ
bits_from bit count n = n / 2 ^ bit % 2 ^ count

-- the number of words of four bytes of the IPv4 header
abbrev pub ihl_of : List ℕ → Option ℕ
ihl_of packet = option_map (bits_from 0 4) (number_at 1 packet 0)

-- the number of two bytes at an offset from the end of the IPv4 header, whatever the IHL is
abbrev pub behind_header : List ℕ → ℕ → Option ℕ
behind_header packet offset = option_and_then (λ ihl. number_at 2 packet (4 * ihl + offset)) (ihl_of packet)

-- a field's value, none if the packet lacks a byte of it
unfoldable pub field_of : Field → List ℕ → Option ℕ
field_of Version packet = option_map (bits_from 4 4) (number_at 1 packet 0)
field_of Ihl packet = ihl_of packet
field_of TotalLength packet = number_at 2 packet 2
field_of MoreFragments packet = option_map (bits_from 5 1) (number_at 1 packet 6)
field_of FragmentOffset packet = option_map (bits_from 0 13) (number_at 2 packet 6)
field_of Protocol packet = number_at 1 packet 9
field_of Source packet = number_at 4 packet 12
field_of Destination packet = number_at 4 packet 16
field_of SourcePort packet = behind_header packet 0
field_of DestinationPort packet = behind_header packet 2
field_of UdpLength packet = behind_header packet 4
