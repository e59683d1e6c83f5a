use Rattle.std.proofs.Common.{◌++◌, arith, decimal, length-append}
use Rattle.std.proofs.lemmas.Fmt.{length-decimal-le}
use Rattle.ipv4_fields.proofs.text.append_part.Goals as goal

pub append_number-requires : goal.append_number-requires
append_number-requires g c =
    let range = c.ranges.part in
    record { room = omega (arith, c.requires.room, length-decimal-le 3 c.args.part (omega arith) (omega arith) (omega arith)) }

pub append-requires : goal.append-requires
append-requires g c =
    let range = c.ranges.part in
    let digits = length-decimal-le 3 c.args.part (omega arith) (omega arith) (omega arith) in
    record { room = rw c.append_number.ensures.appended (omega (arith, c.requires.room, digits, length-append (g.T.TextBuffer.text c.args.text.now) (decimal c.args.part))) }

pub returns-clause-len : goal.returns-clause-len
returns-clause-len g c =
    let range = c.ranges.part in
    let digits = length-decimal-le 3 c.args.part (omega arith) (omega arith) (omega arith) in
    let before = g.T.TextBuffer.text c.args.text.now in
    rw (c.append.ensures.appended, c.append_number.ensures.appended) (omega (arith, digits, length-append (before ++ decimal c.args.part) c.args.separator.now, length-append before (decimal c.args.part)))
