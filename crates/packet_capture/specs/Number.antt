-- Numbers in a capture file, in one of the two byte orders (draft-ietf-opsawg-pcap, section 4).
use Rattle.std.specs.Prelude.{◌+◌, List, None, Option, Some, drop, if◌then◌else◌, length, nat_le, ℕ}
use Rattle.byteorder.specs.Endian.{big_number, little_number}
use Rattle.packet_capture.specs.declared.order.Order.{Order}
use Rattle.packet_capture.specs.declared.order.Order.TheVariants.{Big, Little}

-- the number of the n bytes from a place on
unfoldable pub number_at : Order → ℕ → List ℕ → ℕ → ℕ
number_at Big n bytes place = big_number n (drop place bytes)
number_at Little n bytes place = little_number n (drop place bytes)

-- the same, none if a byte of it is missing
abbrev pub field_at : Order → ℕ → List ℕ → ℕ → Option ℕ
field_at order n bytes place = if nat_le (place + n) (length bytes) then Some (number_at order n bytes place) else None
