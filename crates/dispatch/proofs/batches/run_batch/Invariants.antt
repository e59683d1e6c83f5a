use Rattle.std.proofs.Common.{length}
use Rattle.dispatch.proofs.BatchLemmas.{IsToldRunOf}
use Rattle.dispatch.proofs.batches.run_batch.Given as goal

abbrev pub invariant-loop-judged : goal.invariant-loop-judged
invariant-loop-judged g l = IsToldRunOf (length l.fn.buf)
    (record { worker = l.fn.worker; counter = l.fn.counter; source = g.S.Source.state l.fn.source; outbox = g.O.VerdictOutbox.state l.fn.outbox })
    (record { worker = l.worker; counter = l.counter; source = g.S.Source.state l.source; outbox = g.O.VerdictOutbox.state l.outbox })
    (g.O.VerdictOutbox.told l.fn.outbox) (g.O.VerdictOutbox.told l.outbox) l.judged
