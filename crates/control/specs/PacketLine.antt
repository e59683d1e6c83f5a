-- The lines of a script that have a packet (docs/COMMANDS.md, "replay").
use Rattle.std.specs.Prelude.{◌≡◌, ◌<◌, ◌≤◌, ◌++◌, List, codes, length, ℕ}
use Rattle.control_line.specs.Packet.{IsHex, SpellsPacket, SpellsTooMuch}
use Rattle.control_line.specs.declared.TheConstants.{LINE_LIMIT}
use Rattle.control.specs.declared.packet_line.PacketLine.{PacketLine}
use Rattle.control.specs.declared.packet_line.PacketLine.TheVariants.{Packet, TooLong}

-- the line is `packet `, and then these bytes
abbrev pub IsPacketLine : List ℕ → List ℕ → Type 0
IsPacketLine line digits = line ≡ codes "packet " ++ digits

-- the line has no good digits, or is too long
abbrev pub HasNoPacket : List ℕ → Type 0
HasNoPacket line = (digits : List ℕ) → IsPacketLine line digits → IsHex digits → LINE_LIMIT < length line

-- the line was read as its digits say
abbrev pub IsPacketRead : List ℕ → PacketLine → Type 0
IsPacketRead line (Packet packet) = (digits : List ℕ) × (length line ≤ LINE_LIMIT) × IsPacketLine line digits × SpellsPacket digits packet.items
IsPacketRead line TooLong = (digits : List ℕ) × (length line ≤ LINE_LIMIT) × IsPacketLine line digits × SpellsTooMuch digits
