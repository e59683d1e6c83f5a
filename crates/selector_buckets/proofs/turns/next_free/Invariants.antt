use Rattle.std.proofs.Common.{◌≡◌, ◌-◌, ◌<◌, length}
use Rattle.selector_buckets.specs.Turns.{free_from}
use Rattle.selector_buckets.proofs.turns.next_free.Given as goal

abbrev pub invariant-loop-tried : goal.invariant-loop-tried
invariant-loop-tried l =
    (free_from l.table l.skip (length l.table - l._tried) l.bucket ≡ free_from l.table l.skip (length l.table) l.initial.bucket)
    × (l.bucket < length l.table)
