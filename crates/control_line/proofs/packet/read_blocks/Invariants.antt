use Rattle.std.proofs.Common.{◌≡◌, ◌*◌, length}
use Rattle.control_line.specs.body.Pairs.{ArePairs}
use Rattle.control_line.specs.declared.packet.TheConstants.{BLOCK}
use Rattle.control_line.proofs.packet.read_blocks.Given as goal

abbrev pub invariant-loop-block : goal.invariant-loop-block
invariant-loop-block l = ArePairs l.digits l.packet (l.block * BLOCK) × (length l.packet ≡ length l.fn.packet)
