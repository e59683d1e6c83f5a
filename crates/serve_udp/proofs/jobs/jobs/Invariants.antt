use Rattle.std.proofs.Common.{◌≡◌, ◌≤◌, ◌+◌, ◌++◌, length, reverse, vec_capacity, vec_len}
use Rattle.serve_udp.specs.body.Jobs.{AreMade, sources_of}
use Rattle.serve_udp.proofs.jobs.jobs.Given as goal

abbrev pub invariant-loop-job : goal.invariant-loop-job
invariant-loop-job g l =
    (l.workers ≤ vec_capacity l.jobs)
    × (l._job + length l.sources.items ≡ l.workers)
    × (l.fn.sources.items ≡ l.sources.items ++ reverse (sources_of l.jobs.items))
    × (l.workers ≤ l._job + vec_len l.outlets)
    × AreMade l._job l.fn.seats.items l.seats.items l.fn.counters.items l.counters.items l.jobs.items
