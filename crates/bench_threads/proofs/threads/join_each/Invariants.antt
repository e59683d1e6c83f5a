use Rattle.std.proofs.Common.{◌≡◌, ◌+◌, ◌≤◌, map, vec_capacity, vec_len}
use Rattle.bench_threads.specs.Made.{AreMade}
use Rattle.bench_threads.proofs.threads.join_each.Given as goal

abbrev pub invariant-loop-handle : goal.invariant-loop-handle
invariant-loop-handle g l =
    (goal.iterator-loop-handle g).can_next l.handle-iterator × (goal.iterator-loop-handle g).is_finite l.handle-iterator
    × AreMade (map (λ h. h.promise.0.value) l.yielded) l.workers.items
    × (vec_len l.workers + l.handle-iterator.rest.len ≡ vec_len l.fn.handles)
    × (vec_len l.fn.handles ≤ vec_capacity l.workers)
