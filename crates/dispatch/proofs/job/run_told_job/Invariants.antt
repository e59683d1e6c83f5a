use Rattle.std.proofs.Common.{length}
use Rattle.dispatch.proofs.JobLemmas.{HasGoneOn}
use Rattle.dispatch.proofs.job.run_told_job.Given as goal

abbrev pub invariant-loop : goal.invariant-loop
invariant-loop g l = HasGoneOn (length l.fn.buf) l.limit l.step l.fn.numbers.0 l.number (g.G.WorkerGate.log l.fn.gate) (g.G.WorkerGate.log l.gate)
    (g.G.WorkerGate.called l.fn.gate) (g.G.WorkerGate.called l.gate)
    (record { worker = l.fn.worker; counter = l.fn.counter; source = g.S.Source.state l.fn.source; outbox = g.O.Outbox.state l.fn.outbox })
    (record { worker = l.worker; counter = l.counter; source = g.S.Source.state l.source; outbox = g.O.Outbox.state l.outbox })
