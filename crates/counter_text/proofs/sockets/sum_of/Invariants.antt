use Rattle.std.proofs.Common.{map, take}
use Rattle.counter_text.proofs.DropLemmas.{AreSummed}
use Rattle.counter_text.proofs.sockets.sum_of.Given as goal

abbrev pub invariant-loop-column : goal.invariant-loop-column
invariant-loop-column l = AreSummed (map (λ column. column.now) (take l.column-index l.columns)) l.sum
