use Rattle.std.proofs.Common.{Some, [], arith, refl}
use Rattle.serve_udp.proofs.JobsLemmas.{no_source, one_source}
use Rattle.serve_udp.proofs.intake.queued_intake.Goals as goal

pub loop-worker-init : goal.loop-worker-init
loop-worker-init g c = (no_source (Some []) _ c.new-sources.ensures.items, c.new-queues.ensures.len)

pub loop-worker-preserved : goal.loop-worker-preserved
loop-worker-preserved g c =
    let queued = c.loop-worker.invariant.1 in
    let pushed = c.in_ok-add_queue.ensures.queued in
    (one_source (Some []) _ _ _ _ c.in_ok-add_queue.ensures.added refl c.loop-worker.invariant.0, omega (arith, queued, pushed))
