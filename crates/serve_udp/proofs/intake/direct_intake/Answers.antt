use Rattle.std.proofs.Common.{None, refl}
use Rattle.serve_udp.proofs.JobsLemmas.{no_source, one_source}
use Rattle.serve_udp.proofs.intake.direct_intake.Goals as goal

pub loop-worker-init : goal.loop-worker-init
loop-worker-init g c = no_source None _ c.new-sources.ensures.items

pub loop-worker-preserved : goal.loop-worker-preserved
loop-worker-preserved g c = one_source None _ _ _ _ c.in_ok-add_source.ensures.added refl c.loop-worker.invariant
