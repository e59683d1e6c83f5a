use Rattle.std.proofs.Common.{◌≡◌, ◌+◌, ◌≤◌, map, vec_capacity, vec_len}
use Rattle.bench_threads.proofs.threads.start_each.Given as goal

abbrev pub invariant-loop-job : goal.invariant-loop-job
invariant-loop-job g l =
    (goal.iterator-loop-job g).can_next l.job-iterator × (goal.iterator-loop-job g).is_finite l.job-iterator
    × (map (λ h. h.promise.0.value) l.handles.items ≡ l.yielded)
    × (vec_len l.handles + l.job-iterator.rest.len ≡ vec_len l.fn.jobs)
    × (vec_len l.fn.jobs ≤ vec_capacity l.handles)
