use Rattle.std.proofs.Common.{◌∙◌, arith, length-set, rules}
use Rattle.control_line.proofs.PacketLemmas.{all_read, pair_added}
use Rattle.control_line.proofs.packet.read_rest.Goals as goal

pub loop-i-preserved : goal.loop-i-preserved
loop-i-preserved c = (
  pair_added c.args.digits.now c.loop-i.packet c.loop-i.i c.loop-i.bits c.loop-i.invariant.0 (omega arith) (omega arith)
      c.worth_of-high.result c.worth_of-low.result c.worth_of-high.ensures c.worth_of-low.ensures,
  length-set c.loop-i.packet c.loop-i.i _ ∙ c.loop-i.invariant.1,
)

pub returns-clause-packet : goal.returns-clause-packet
returns-clause-packet c = λ below.
    all_read c.args.digits.now c.loop-i.packet c.loop-i.i c.loop-i.bits c.loop-i.invariant.0 (omega arith) (omega arith) below

pub returns-clause-bad_digit : goal.returns-clause-bad_digit
returns-clause-bad_digit c = search rules
