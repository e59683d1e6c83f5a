use Rattle.std.proofs.Common.{◌≡◌, ◌<◌, List, arith, refl, slice_index, true, ℕ}
use Rattle.control_line.specs.Packet.{digit_worth}
use Rattle.control_line.specs.declared.packet.TheConstants.{DIGITS}
use Rattle.control_line.proofs.PacketLemmas.{agree_at, agree_below}
use Rattle.control_line.proofs.packet.worth_of.Goals as goal

from_table : (table : List ℕ) (b : ℕ) → b < 256 → agree_below (slice_index table) 256 ≡ true → slice_index table b ≡ digit_worth b
from_table table b low agree = agree_at (slice_index table) 256 b agree low

-- the table is held against the definition at each of the 256 bytes, by computing
pub returns : goal.returns
unfolding agree_below
returns c = from_table DIGITS c.args.byte (omega arith) refl
