use Rattle.std.proofs.Common.{arith, drop}
use Rattle.control_line.proofs.ColumnLemmas.{first_place}
use Rattle.control_line.proofs.column.part_from.Goals as goal

pub returns-then-left-le1-clause-place : goal.returns-then-left-le1-clause-place
returns-then-left-le1-clause-place c =
    let whole = c.loop-place.invariant in
    let none = first_place c.loop-place.left (drop c.loop-place.place c.args.text.now) c.if-left-le1.true in
    omega arith
