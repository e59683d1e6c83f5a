use Rattle.std.proofs.Common.{arith, sym}
use Rattle.control_line.proofs.DigitLemmas.{four_digits, one_digit, three_digits, two_digits}
use Rattle.control_line.proofs.reply.few_digits.Goals as goal

pub returns-then-number-lt10 : goal.returns-then-number-lt10
returns-then-number-lt10 c = sym (one_digit c.args.number (omega arith))

pub returns-else-number-lt10 : goal.returns-else-number-lt10
returns-else-number-lt10 c = sym (two_digits c.args.number (omega arith) (omega arith))

pub returns-then-number-lt1000 : goal.returns-then-number-lt1000
returns-then-number-lt1000 c = sym (three_digits c.args.number (omega arith) (omega arith))

pub returns-else-number-lt1000 : goal.returns-else-number-lt1000
returns-else-number-lt1000 c = sym (four_digits c.args.number (omega arith) c.requires)
