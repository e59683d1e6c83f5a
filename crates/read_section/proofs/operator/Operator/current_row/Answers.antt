use Rattle.std.proofs.Common.{arith}
use Rattle.read_section.proofs.CurrentRowLemmas.{row_there}
use Rattle.read_section.proofs.operator.Operator.current_row.Goals as goal

pub unreachable-requires : goal.unreachable-requires
unreachable-requires c = let t = row_there _ _ _ _ _ _ _ c.self.invariant in let end = c.loop-row-test.false in let low = t.0 in c.loop-row.invariant _ (omega arith) t.1
