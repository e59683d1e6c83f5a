use Rattle.retire.proofs.PublishLemmas.{ScansSome}
use Rattle.retire.proofs.row.scan_each.Given as goal

abbrev pub invariant-loop-worker : goal.invariant-loop-worker
invariant-loop-worker l = ScansSome l.fn.operator l.operator l.worker
