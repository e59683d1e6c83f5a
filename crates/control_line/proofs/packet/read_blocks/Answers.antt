use Rattle.std.proofs.Common.{rules}
use Rattle.control_line.proofs.packet.read_blocks.Goals as goal

pub returns-clause-bad_digit : goal.returns-clause-bad_digit
returns-clause-bad_digit c = search rules

pub returns-clause-len : goal.returns-clause-len
returns-clause-len c = search rules

pub returns-clause-pairs : goal.returns-clause-pairs
returns-clause-pairs c = search rules

pub returns-then-not-read_block-clause-bad_digit : goal.returns-then-not-read_block-clause-bad_digit
returns-then-not-read_block-clause-bad_digit c = search rules

pub returns-then-not-read_block-clause-len : goal.returns-then-not-read_block-clause-len
returns-then-not-read_block-clause-len c = search rules

pub returns-then-not-read_block-clause-pairs : goal.returns-then-not-read_block-clause-pairs
returns-then-not-read_block-clause-pairs c = search rules
