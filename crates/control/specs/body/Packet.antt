-- A packet that was read into a buffer.
use Rattle.std.specs.Prelude.{◌≤◌, List, length, ℕ}
use Rattle.control_line.specs.Packet.{SpellsPacket, SpellsTooMuch}
use Rattle.control_line.specs.declared.TheConstants.{LINE_LIMIT}
use Rattle.control.specs.PacketLine.{IsPacketLine}
use Rattle.control.specs.declared.packet_line.PacketSize.{PacketSize}
use Rattle.control.specs.declared.packet_line.PacketSize.TheVariants.{TooLong, Whole}

-- the line was read as its digits say, and the buffer has the packet
abbrev pub IsReadInto : List ℕ → List ℕ → PacketSize → Type 0
IsReadInto line packet Whole = (digits : List ℕ) × (length line ≤ LINE_LIMIT) × IsPacketLine line digits × SpellsPacket digits packet
IsReadInto line packet TooLong = (digits : List ℕ) × (length line ≤ LINE_LIMIT) × IsPacketLine line digits × SpellsTooMuch digits
