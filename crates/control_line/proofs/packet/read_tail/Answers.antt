use Rattle.std.proofs.Common.{arith}
use Rattle.control_line.proofs.packet.read_tail.Goals as goal

-- the last block ends where the packet does
pub read_rest-requires-then-read_block-clause-read : goal.read_rest-requires-then-read_block-clause-read
read_rest-requires-then-read_block-clause-read c = λ k inside.
    c.read_block.ensures.pairs c.if-read_block.true (λ j low. c.requires.read j (omega (arith, low))) k (omega (arith, inside))
