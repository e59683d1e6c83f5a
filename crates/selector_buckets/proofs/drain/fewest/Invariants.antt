use Rattle.std.proofs.Common.{◌≡◌}
use Rattle.selector_buckets.specs.Drained.{fewest}
use Rattle.selector_buckets.proofs.drain.fewest.Given as goal

abbrev pub invariant-loop-other : goal.invariant-loop-other
invariant-loop-other l = l.taker ≡ fewest l.members l.gone l.other
