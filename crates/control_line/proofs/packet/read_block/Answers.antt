use Rattle.std.proofs.Common.{rules}
use Rattle.control_line.proofs.LaneLemmas.{block_read, block_refused}
use Rattle.control_line.proofs.packet.read_block.Goals as goal

pub returns-clause-pairs : goal.returns-clause-pairs
returns-clause-pairs c =
    block_read c.args.digits.now c.args.packet.now c.args.at c.requires.pairs c.requires.inside c.worths_of-high.result c.worths_of-low.result c.worths_of-high.ensures c.worths_of-low.ensures

pub returns-clause-bad_digit : goal.returns-clause-bad_digit
returns-clause-bad_digit c =
    block_refused c.args.digits.now c.args.packet.now c.args.at c.requires.pairs c.requires.inside c.worths_of-high.result c.worths_of-low.result c.worths_of-high.ensures c.worths_of-low.ensures

pub returns-clause-len : goal.returns-clause-len
returns-clause-len c = search rules
