use Rattle.std.proofs.Common.{None}
use Rattle.serve_udp.specs.body.Jobs.{AreNewSources}
use Rattle.serve_udp.proofs.intake.direct_intake.Given as goal

abbrev pub invariant-loop-worker : goal.invariant-loop-worker
invariant-loop-worker g l = AreNewSources None l.worker l.sources.items
