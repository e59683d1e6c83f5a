use Rattle.std.proofs.Common.{◌≡◌}
use Rattle.selector_buckets.specs.Turns.{turns}
use Rattle.selector_buckets.proofs.turns.take_turns.Given as goal

abbrev pub invariant-loop-member : goal.invariant-loop-member
invariant-loop-member l = l.table ≡ turns l.ids l.quotas l.round l.member l.initial.table
