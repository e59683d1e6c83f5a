use Rattle.std.proofs.Common.{arith}
use Rattle.std.proofs.lemmas.Fmt.{length-decimal-le}
use Rattle.control_line.proofs.DigitLemmas.{four_digits_less}
use Rattle.control_line.proofs.reply.digit_count.Goals as goal

pub overflow_add-count : goal.overflow_add-count
overflow_add-count c =
    let range = c.ranges.number in
    omega (arith, c.loop-left.invariant, length-decimal-le 20 c.args.number (omega arith) (omega arith) (omega arith))

pub loop-left-preserved : goal.loop-left-preserved
loop-left-preserved c =
    omega (arith, c.loop-left.invariant, four_digits_less c.loop-left.left (omega arith) (omega arith))

pub overflow_add-result : goal.overflow_add-result
overflow_add-result c =
    let range = c.ranges.number in
    omega (arith, c.loop-left.invariant, c.few_digits.ensures, length-decimal-le 20 c.args.number (omega arith) (omega arith) (omega arith))
