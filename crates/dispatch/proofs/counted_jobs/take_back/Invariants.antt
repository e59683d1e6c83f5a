use Rattle.std.proofs.Common.{◌≡◌, ◌+◌, ◌≤◌, ◌++◌, map, vec_capacity, vec_len}
use Rattle.dispatch.proofs.counted_jobs.take_back.Given as goal

abbrev pub invariant-loop-done : goal.invariant-loop-done
invariant-loop-done g l =
    (goal.iterator-loop-done g).can_next l.done-iterator × (goal.iterator-loop-done g).is_finite l.done-iterator
    × (l.counters.items ≡ l.fn.counters.items ++ map (λ done. done.counter) l.yielded)
    × (vec_len l.counters + l.done-iterator.rest.len ≡ vec_len l.fn.counters + vec_len l.fn.dones)
    × (vec_len l.fn.counters + vec_len l.fn.dones ≤ vec_capacity l.counters)
