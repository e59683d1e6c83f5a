use Rattle.retire.proofs.RowReuseLemmas.{Copied}
use Rattle.retire.proofs.row_reuse.copy_front.Given as goal

abbrev pub invariant-loop-place : goal.invariant-loop-place
invariant-loop-place l = Copied l.fn.operator l.operator l.row l.from l.count l.place
