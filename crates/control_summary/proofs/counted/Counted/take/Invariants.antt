use Rattle.std.proofs.Common.{length}
use Rattle.control_summary.proofs.LineLemmas.{IsTakenUpTo}
use Rattle.control_summary.proofs.counted.Counted.take.Given as goal

abbrev pub invariant-loop-front : goal.invariant-loop-front
invariant-loop-front l = IsTakenUpTo l.bytes l.left l.fn.self.held.items l.fn.self.rows.items l.self.held.items l.self.rows.items

abbrev pub decreases-loop-front : goal.decreases-loop-front
decreases-loop-front l = length l.left
