use Rattle.std.proofs.Common.{◌≡◌, length}
use Rattle.control_line.proofs.PacketLemmas.{AreRead}
use Rattle.control_line.proofs.packet.read_rest.Given as goal

abbrev pub invariant-loop-i : goal.invariant-loop-i
invariant-loop-i l = AreRead l.digits l.packet l.i l.bits × (length l.packet ≡ length l.fn.packet)
