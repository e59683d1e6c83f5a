-- The bytes before the packet of a record, by link type (tcpdump.org/linktypes.html).
use Rattle.std.specs.Prelude.{◌≡◌, ◌==◌, ◌+◌, ◌*◌, ◌||◌, Bool, IfSome, List, None, Option, Some, drop, false, if◌then◌else◌, ℕ}
use Rattle.packet_capture.specs.declared.link_type.LinkType.{LinkType}
use Rattle.packet_capture.specs.declared.link_type.LinkType.TheVariants.{Ethernet, LinuxCooked, LinuxCookedV2, Loop, Null, Raw}
use Rattle.packet_capture.specs.declared.order.Order.{Order}
use Rattle.packet_capture.specs.declared.order.Order.TheVariants.{Big}
use Rattle.packet_capture.specs.Number.{field_at}

-- the type of a frame is that of a tag (IEEE 802.1Q; 0x9100 was used before 802.1ad)
abbrev pub is_tag : Option ℕ → Bool
is_tag None = false
is_tag (Some number) = (number == 0x8100) || (number == 0x88a8) || (number == 0x9100)

-- the number of tags of four bytes after the addresses of a frame; at most two are read
abbrev pub tags_of : List ℕ → ℕ
tags_of frame = if is_tag (field_at Big 2 frame 12) then if is_tag (field_at Big 2 frame 16) then 2 else 1 else 0

-- the number of bytes before the packet
unfoldable pub header_length : LinkType → List ℕ → ℕ
header_length Null captured = 4
header_length Ethernet captured = 14 + 4 * tags_of captured
header_length Raw captured = 0
header_length Loop captured = 4
header_length LinuxCooked captured = 16
header_length LinuxCookedV2 captured = 20

-- the protocol that the link header names, none if a byte of the field is missing; raw IP is IPv4 by its version
unfoldable pub protocol_of : LinkType → Order → List ℕ → Option ℕ
protocol_of Null order captured = field_at order 4 captured 0
protocol_of Ethernet order captured = field_at Big 2 captured (12 + 4 * tags_of captured)
protocol_of Raw order captured = None
protocol_of Loop order captured = field_at Big 4 captured 0
protocol_of LinuxCooked order captured = field_at Big 2 captured 14
protocol_of LinuxCookedV2 order captured = field_at Big 2 captured 0

-- the number that such a field has for IPv4: a protocol family, or an EtherType
unfoldable pub ipv4_number : LinkType → ℕ
ipv4_number Null = 2
ipv4_number Ethernet = 0x0800
ipv4_number Raw = 0x0800
ipv4_number Loop = 2
ipv4_number LinuxCooked = 0x0800
ipv4_number LinuxCookedV2 = 0x0800

-- the link header names no other protocol than IPv4
abbrev pub MayHoldIpv4 : LinkType → Order → List ℕ → Type 0
MayHoldIpv4 link_type order captured = IfSome (protocol_of link_type order captured) (λ number. number ≡ ipv4_number link_type)

-- the bytes after the link header
abbrev pub behind_link_header : LinkType → List ℕ → List ℕ
behind_link_header link_type captured = drop (header_length link_type captured) captured
