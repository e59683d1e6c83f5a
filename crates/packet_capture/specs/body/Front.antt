-- What stands behind a link header.
use Rattle.std.specs.Prelude.{List, ℕ}
use Rattle.packet_capture.specs.declared.content.Content.{Content}
use Rattle.packet_capture.specs.declared.content.Content.TheVariants.{Cut, Other, Packet}
use Rattle.packet_capture.specs.Packet.{BeginsWithPacket, IsCutPacket, IsIpv4SoFar}

abbrev pub IsFront : List ℕ → Content → Type 0
IsFront bytes (Packet packet) = BeginsWithPacket bytes packet.now
IsFront bytes Cut = IsCutPacket bytes
IsFront bytes Other = IsIpv4SoFar bytes → ⊥
