use Rattle.std.proofs.Common.{◌≡◌, ◌+◌, length}
use Rattle.std.specs.List.{All}
use Rattle.atomic_table.specs.Seated.{TableId}
use Rattle.dispatch.specs.Tally.{CounterValue}
use Rattle.test_dispatch.proofs.tests.tallies.count_each.Given as goal

abbrev pub invariant-loop-counter : goal.invariant-loop-counter
invariant-loop-counter l =
    (goal.iterator-loop-counter).can_next l.counter-iterator × (goal.iterator-loop-counter).is_finite l.counter-iterator
    × (length l.back.items + l.counter-iterator.rest.len ≡ length l.fn.counters.items)
    × ((table : TableId) → All (λ (counter : CounterValue). counter.table ≡ table) l.fn.counters.items
    → All (λ (counter : CounterValue). counter.table ≡ table) l.back.items × All (λ (counter : CounterValue). counter.table ≡ table) l.counter-iterator.rest.items)
