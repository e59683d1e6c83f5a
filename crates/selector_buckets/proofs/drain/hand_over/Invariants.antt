use Rattle.std.proofs.Common.{◌≡◌}
use Rattle.selector_buckets.specs.Drained.{handed_over}
use Rattle.selector_buckets.proofs.drain.hand_over.Given as goal

abbrev pub invariant-loop-bucket : goal.invariant-loop-bucket
invariant-loop-bucket l = l.members ≡ handed_over l.count l.gone l.bucket l.initial.members
