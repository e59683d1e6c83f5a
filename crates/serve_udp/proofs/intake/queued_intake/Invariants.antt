use Rattle.std.proofs.Common.{◌≡◌, Some, [], vec_len}
use Rattle.serve_udp.specs.body.Jobs.{AreNewSources}
use Rattle.serve_udp.proofs.intake.queued_intake.Given as goal

abbrev pub invariant-loop-worker : goal.invariant-loop-worker
invariant-loop-worker g l = AreNewSources (Some []) l._worker l.sources.items × (vec_len l.queues ≡ l._worker)
