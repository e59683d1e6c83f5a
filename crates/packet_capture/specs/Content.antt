-- The content of a record: an IPv4 packet, a packet that was cut, or something else (docs/COMMANDS.md, "packets").
use Rattle.std.specs.Prelude.{◌≡◌, List, ℕ}
use Rattle.packet_capture.specs.declared.content.Content.{Content}
use Rattle.packet_capture.specs.declared.content.Content.TheVariants.{Cut, Other, Packet}
use Rattle.packet_capture.specs.declared.link_type.LinkType.{LinkType}
use Rattle.packet_capture.specs.declared.order.Order.{Order}
use Rattle.packet_capture.specs.LinkLayer.{MayHoldIpv4, behind_link_header}
use Rattle.packet_capture.specs.Packet.{BeginsWithPacket, IsCutPacket, IsIpv4SoFar}

-- the packet comes after a link header that names IPv4
pub record HoldsPacket (link_type : LinkType) (order : Order) (captured packet : List ℕ) : Type 0 where
  pub protocol : MayHoldIpv4 link_type order captured
  pub begins : BeginsWithPacket (behind_link_header link_type captured) packet

-- the record ends before the field that names the protocol, or before the packet's end
pub record IsCut (link_type : LinkType) (order : Order) (captured : List ℕ) : Type 0 where
  pub protocol : MayHoldIpv4 link_type order captured
  pub ends : IsCutPacket (behind_link_header link_type captured)

-- the link header names another protocol, or a field of the IP header is not IPv4's
abbrev pub IsOther : LinkType → Order → List ℕ → Type 0
IsOther link_type order captured =
    MayHoldIpv4 link_type order captured → IsIpv4SoFar (behind_link_header link_type captured) → ⊥

abbrev pub IsContent : LinkType → Order → List ℕ → Content → Type 0
IsContent link_type order captured (Packet packet) = HoldsPacket link_type order captured packet.now
IsContent link_type order captured Cut = IsCut link_type order captured
IsContent link_type order captured Other = IsOther link_type order captured

-- a record has at most one of them
pub record HasOneContent (link_type : LinkType) (order : Order) (captured : List ℕ) : Type 0 where
  pub one_packet : (a b : List ℕ) → HoldsPacket link_type order captured a → HoldsPacket link_type order captured b → a ≡ b
  pub packet_not_cut : (packet : List ℕ) → HoldsPacket link_type order captured packet → IsCut link_type order captured → ⊥
  pub packet_not_other : (packet : List ℕ) → HoldsPacket link_type order captured packet → IsOther link_type order captured → ⊥
  pub cut_not_other : IsCut link_type order captured → IsOther link_type order captured → ⊥
