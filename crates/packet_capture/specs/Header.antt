-- The header of a capture file (draft-ietf-opsawg-pcap, section 4).
use Rattle.std.specs.Prelude.{◌≡◌, ◌≤◌, ◌==◌, ◌%◌, ◌^◌, ◌||◌, List, None, Option, Some, if◌then◌else◌, length, ℕ}
use Rattle.packet_capture.specs.declared.header.FileHeader.{FileHeader}
use Rattle.packet_capture.specs.declared.link_type.LinkType.{LinkType}
use Rattle.packet_capture.specs.declared.link_type.LinkType.TheVariants.{Ethernet, LinuxCooked, LinuxCookedV2, Loop, Null, Raw}
use Rattle.packet_capture.specs.declared.order.Order.{Order}
use Rattle.packet_capture.specs.declared.order.Order.TheVariants.{Big, Little}
use Rattle.packet_capture.specs.Number.{number_at}

-- the byte order of the first four bytes, high byte first: the magic number is a1b2c3d4 if times are in microseconds, and
-- a1b23c4d if they are in nanoseconds
abbrev pub order_of : ℕ → Option Order
order_of magic =
    if (magic == 0xa1b2_c3d4) || (magic == 0xa1b2_3c4d)
    then Some Big
    else if (magic == 0xd4c3_b2a1) || (magic == 0x4d3c_b2a1)
    then Some Little
    else None

-- the supported link types, by their numbers (tcpdump.org/linktypes.html); 12 and 14 are numbers of DLT_RAW
abbrev pub link_type_of : ℕ → Option LinkType
link_type_of number =
    if number == 0
    then Some Null
    else if number == 1
    then Some Ethernet
    else if (number == 12) || (number == 14) || (number == 101) || (number == 228)
    then Some Raw
    else if number == 108
    then Some Loop
    else if number == 113
    then Some LinuxCooked
    else if number == 276
    then Some LinuxCookedV2
    else None

-- the number of the link type: the low 16 bits of the last four bytes
abbrev pub link_number : Order → List ℕ → ℕ
link_number order bytes = number_at order 4 bytes 20 % 2 ^ 16

-- the first 24 bytes are the header of a capture file of version 2.4, with a link type that is supported
pub record IsFileHeader (bytes : List ℕ) (header : FileHeader) : Type 0 where
  pub complete : 24 ≤ length bytes
  pub magic : order_of (number_at Big 4 bytes 0) ≡ Some header.order
  pub major : number_at header.order 2 bytes 4 ≡ 2
  pub minor : number_at header.order 2 bytes 6 ≡ 4
  pub link_type : link_type_of (link_number header.order bytes) ≡ Some header.link_type
