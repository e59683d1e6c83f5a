use Rattle.std.proofs.Common.{arith, decimal, length-append}
use Rattle.std.proofs.lemmas.Fmt.{length-decimal-le}
use Rattle.control_line.proofs.reply.Reply.push_number.Goals as goal

pub push_digits-requires : goal.push_digits-requires
push_digits-requires c = let range = c.ranges.number in omega (arith, length-decimal-le 20 c.args.number (omega arith) (omega arith) (omega arith))

pub returns-clause-len : goal.returns-clause-len
returns-clause-len c =
    let range = c.ranges.number in
    rw c.push_digits.ensures (omega (arith, length-decimal-le 20 c.args.number (omega arith) (omega arith) (omega arith), length-append c.args.self.now (decimal c.args.number)))
