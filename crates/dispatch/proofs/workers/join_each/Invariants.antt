use Rattle.std.proofs.Common.{◌≡◌, ◌+◌, ◌≤◌, map, vec_capacity, vec_len}
use Rattle.dispatch.specs.body.Starts.{AreEach}
use Rattle.dispatch.proofs.workers.join_each.Given as goal

abbrev pub invariant-loop-handle : goal.invariant-loop-handle
invariant-loop-handle g l =
    (goal.iterator-loop-handle g).can_next l.handle-iterator × (goal.iterator-loop-handle g).is_finite l.handle-iterator
    × AreEach g.P.Promise.kept_by (map (λ h. h.promise) l.yielded) l.results.items
    × (vec_len l.results + l.handle-iterator.rest.len ≡ vec_len l.fn.handles)
    × (vec_len l.fn.handles ≤ vec_capacity l.results)
