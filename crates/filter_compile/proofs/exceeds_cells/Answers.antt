use Rattle.std.proofs.Common.{arith, rules}
use Rattle.filter_tree.specs.View.{tree_of}
use Rattle.filter_compile.proofs.CellLemmas.{few}
use Rattle.filter_compile.proofs.exceeds_cells.Goals as goal

pub returns-else-size-gt-FEW-clause-within : goal.returns-else-size-gt-FEW-clause-within
returns-else-size-gt-FEW-clause-within g c small_is =
    let size = c.requires.size in let small = c.if-size-gt-FEW.false in let fewer = few (tree_of c.args.expr.now) in omega arith

pub returns-then-size-gt-FEW-clause-exceeds : goal.returns-then-size-gt-FEW-clause-exceeds
returns-then-size-gt-FEW-clause-exceeds g c = search rules
