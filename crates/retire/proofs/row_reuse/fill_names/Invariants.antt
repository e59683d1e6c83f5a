use Rattle.retire.proofs.RowReuseLemmas.{Named}
use Rattle.retire.proofs.row_reuse.fill_names.Given as goal

abbrev pub invariant-loop-index : goal.invariant-loop-index
invariant-loop-index l = Named l.fn.operator l.operator l.row l.from l.begin l.pages l.index
