use Rattle.std.proofs.Common.{◌≡◌, ◌+◌, ◌≤◌, map, vec_capacity, vec_len}
use Rattle.dispatch.specs.body.Starts.{begun, numbered}
use Rattle.dispatch.proofs.WorkerLemmas.{number_after}
use Rattle.dispatch.proofs.workers.start_each.Given as goal

abbrev pub invariant-loop-job : goal.invariant-loop-job
invariant-loop-job g l =
    (goal.iterator-loop-job g).can_next l.job-iterator × (goal.iterator-loop-job g).is_finite l.job-iterator
    × (map (λ h. begun h.promise.job.value h.promise.numbers.0 h.promise.numbers.1 h.promise.gate.value) l.handles.items ≡ numbered (λ job number. begun job number l.step l.gate) 1 l.yielded)
    × (l.number ≡ number_after 1 l.yielded)
    × (vec_len l.handles + l.job-iterator.rest.len ≡ vec_len l.fn.jobs)
    × (vec_len l.fn.jobs ≤ vec_capacity l.handles)
