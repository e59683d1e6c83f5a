-- Worked headers and records, so that a slip in a definition does not check.
use Rattle.std.specs.Prelude.{◌≡◌, ◌∷◌, ◌++◌, List, None, Some, [], refl, ℕ}
use Rattle.packet_capture.specs.declared.link_type.LinkType.TheVariants.{Ethernet, LinuxCooked, LinuxCookedV2, Loop, Null, Raw}
use Rattle.packet_capture.specs.declared.order.Order.TheVariants.{Big, Little}
use Rattle.packet_capture.specs.Header.{link_number, link_type_of, order_of}
use Rattle.packet_capture.specs.LinkLayer.{behind_link_header, header_length, protocol_of, tags_of}
use Rattle.packet_capture.specs.Number.{number_at}

-- the header that tcpdump writes on x86 with `-y RAW`
abbrev raw_file : List ℕ
raw_file =
    0xd4 ∷ 0xc3 ∷ 0xb2 ∷ 0xa1 ∷ 0x02 ∷ 0x00 ∷ 0x04 ∷ 0x00 ∷ 0x00 ∷ 0x00 ∷ 0x00 ∷ 0x00
    ∷ 0x00 ∷ 0x00 ∷ 0x00 ∷ 0x00 ∷ 0x00 ∷ 0x00 ∷ 0x04 ∷ 0x00 ∷ 0x65 ∷ 0x00 ∷ 0x00 ∷ 0x00 ∷ []

low_byte_first : order_of (number_at Big 4 raw_file 0) ≡ Some Little
unfolding number_at
low_byte_first = refl

major_2 : number_at Little 2 raw_file 4 ≡ 2
unfolding number_at
major_2 = refl

minor_4 : number_at Little 2 raw_file 6 ≡ 4
unfolding number_at
minor_4 = refl

raw_ip : link_type_of (link_number Little raw_file) ≡ Some Raw
unfolding number_at
raw_ip = refl

-- the addresses and the types of frames
abbrev addresses : List ℕ
addresses = 2 ∷ 0 ∷ 0 ∷ 0 ∷ 0 ∷ 1 ∷ 2 ∷ 0 ∷ 0 ∷ 0 ∷ 0 ∷ 2 ∷ []

abbrev tagged_twice : List ℕ
tagged_twice = addresses ++ (0x88 ∷ 0xa8 ∷ 0 ∷ 7 ∷ 0x81 ∷ 0x00 ∷ 0 ∷ 8 ∷ 0x08 ∷ 0x00 ∷ 0x45 ∷ [])

untagged : protocol_of Ethernet Little (addresses ++ 0x08 ∷ 0x00 ∷ []) ≡ Some 0x0800
unfolding number_at protocol_of
untagged = refl

two_tags : tags_of tagged_twice ≡ 2
unfolding number_at
two_tags = refl

type_behind_two_tags : protocol_of Ethernet Little tagged_twice ≡ Some 0x0800
unfolding number_at protocol_of
type_behind_two_tags = refl

packet_behind_two_tags : behind_link_header Ethernet tagged_twice ≡ 0x45 ∷ []
unfolding number_at header_length
packet_behind_two_tags = refl

family_of_the_file : protocol_of Null Little (2 ∷ 0 ∷ 0 ∷ 0 ∷ []) ≡ Some 2
unfolding number_at protocol_of
family_of_the_file = refl

family_in_network_order : protocol_of Loop Little (0 ∷ 0 ∷ 0 ∷ 2 ∷ []) ≡ Some 2
unfolding number_at protocol_of
family_in_network_order = refl

-- LINKTYPE_LINUX_SLL: packet type, ARPHRD type, address length, address, protocol
cooked : protocol_of LinuxCooked Little (0 ∷ 0 ∷ 3 ∷ 4 ∷ 0 ∷ 6 ∷ 0 ∷ 0 ∷ 0 ∷ 0 ∷ 0 ∷ 0 ∷ 0 ∷ 0 ∷ 8 ∷ 0 ∷ []) ≡ Some 0x0800
unfolding number_at protocol_of
cooked = refl

-- LINKTYPE_LINUX_SLL2: protocol, reserved, interface, ARPHRD type, packet type, address length, address
cooked_v2 : protocol_of LinuxCookedV2 Little (8 ∷ 0 ∷ 0 ∷ 0 ∷ []) ≡ Some 0x0800
unfolding number_at protocol_of
cooked_v2 = refl

no_type_in_thirteen_bytes : protocol_of Ethernet Little (addresses ++ 0x08 ∷ []) ≡ None
unfolding number_at protocol_of
no_type_in_thirteen_bytes = refl
