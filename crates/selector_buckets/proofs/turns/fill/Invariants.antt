use Rattle.std.proofs.Common.{◌≡◌}
use Rattle.selector_buckets.specs.Turns.{rounds}
use Rattle.selector_buckets.proofs.turns.fill.Given as goal

abbrev pub invariant-loop-round : goal.invariant-loop-round
invariant-loop-round l = l.table ≡ rounds l.ids l.quotas l.round l.initial.table
