use Rattle.std.proofs.Common.{◌≡◌, ◌+◌, length, map, vec_len}
use Rattle.std.specs.List.{All}
use Rattle.atomic_table.specs.Seated.{TableId}
use Rattle.dispatch.specs.Counted.{IsNew, IsNewWorker}
use Rattle.command_flood.specs.Flood.{AreStartsOf, HasRoom, parts_of}
use Rattle.command_flood.specs.FloodVersions.{opening_version}
use Rattle.command_flood.proofs.flood_jobs.jobs.Given as goal

abbrev pub invariant-loop-place : goal.invariant-loop-place
invariant-loop-place l =
    (vec_len l.jobs ≡ l.place)
    × (vec_len l.seats + l.place ≡ vec_len l.fn.seats)
    × (vec_len l.counters + l.place ≡ vec_len l.fn.counters)
    × All (λ job. HasRoom (length job.buffer.items) job.limit) l.jobs.items
    × AreStartsOf l.workers l.datagrams l.place (map (λ job. parts_of job.worker job.counter job.source job.outbox) l.jobs.items)
    × ((table : TableId) → All (IsNew table) l.fn.counters.items → All (IsNew table) l.counters.items
    × All (λ job. IsNew table job.counter) l.jobs.items)
    × ((versions : TableId) → All (IsNewWorker opening_version versions) l.fn.seats.items → All (IsNewWorker opening_version versions) l.seats.items
    × All (λ job. IsNewWorker opening_version versions job.worker) l.jobs.items)
