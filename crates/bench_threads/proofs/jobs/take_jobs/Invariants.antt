use Rattle.std.proofs.Common.{◌≡◌, ◌+◌, ◌-◌, ◌*◌, ◌<◌, ◌≤◌, vec_len, ℕ}
use Rattle.std.specs.List.{slice_get}
use Rattle.bench_threads.specs.Jobs.{AreTaken}
use Rattle.bench_threads.specs.Placing.{distance, passed_over}
use Rattle.bench_threads.proofs.jobs.take_jobs.Given as goal
use Rattle.versions.specs.declared.layout.TheConstants.{WORKERS}

abbrev pub invariant-loop-thread : goal.invariant-loop-thread
invariant-loop-thread l =
    (l.above ≡ passed_over l.fn.placing l.threads + distance l.fn.placing l.threads * (l.threads - l._thread))
    × (l.above + l._thread ≤ WORKERS)
    × (vec_len l.workers + l._thread ≡ WORKERS)
    × (vec_len l.jobs ≡ l._thread)
    × ((k : ℕ) → k < l.above → slice_get l.workers.items k ≡ slice_get l.fn.workers.items k)
    × AreTaken l.fn.placing l.threads l.rounds l.fn.workers.items l._thread l.jobs.items
