use Rattle.std.proofs.Common.{arith, decimal, length-append}
use Rattle.std.proofs.lemmas.Fmt.{length-decimal-le}
use Rattle.control_line.proofs.reply.Reply.push_below.Goals as goal

pub push_digits-requires : goal.push_digits-requires
push_digits-requires g c = let range = c.ranges.number in omega (arith, c.requires.room, length-decimal-le _ c.args.number c.requires.digits c.requires.below (omega arith))

pub returns-clause-len : goal.returns-clause-len
returns-clause-len g c =
    let range = c.ranges.number in
    rw c.push_digits.ensures (omega (arith, length-decimal-le _ c.args.number c.requires.digits c.requires.below (omega arith), length-append c.args.self.now (decimal c.args.number)))
