-- The data that the threads start with.
use Rattle.std.specs.Prelude.{◌≡◌, ◌<◌, List, Some, [], length, slice_get, ℕ}
use Rattle.atomic_table.specs.Seated.{TableId}
use Rattle.read_section.specs.Worker.{WorkerValue}
use Rattle.bench_threads.specs.declared.placing.Placing.{Placing}
use Rattle.bench_threads.specs.declared.threads.Job.{Job}
use Rattle.bench_threads.specs.Placing.{number_at}
use Rattle.versions.specs.Layout.{pages_named}
use Rattle.versions.specs.Table.{the_shape}
use Rattle.versions.specs.View.{new_worker}
use Rattle.versions.specs.World.{opening_stored}

-- a thread has the worker at its number, and this many rounds
abbrev pub IsJobOf : Placing → ℕ → ℕ → List WorkerValue → List Job → ℕ → Type 0
IsJobOf placing threads rounds workers jobs thread =
    (worker : WorkerValue) × (slice_get workers (number_at placing threads thread) ≡ Some worker)
    × (slice_get jobs thread ≡ Some (record { worker = worker; rounds = rounds }))

-- this is true of each of the first `count` threads
abbrev pub AreTaken : Placing → ℕ → ℕ → List WorkerValue → ℕ → List Job → Type 0
AreTaken placing threads rounds workers count jobs = (thread : ℕ) → thread < count → IsJobOf placing threads rounds workers jobs thread

-- a worker of a table that was opened without groups, which has made no step yet
abbrev pub opened_worker : TableId → ℕ → WorkerValue
opened_worker table number = record { table = table; view = new_worker [] (pages_named the_shape (opening_stored []) 0) number }

-- a job for each thread: the worker of its number, of one new table, and this many rounds
pub record AreJobs (placing : Placing) (threads rounds : ℕ) (jobs : List Job) : Type 0 where
  pub table : TableId
  pub count : length jobs ≡ threads
  pub each : (thread : ℕ) → thread < threads
      → slice_get jobs thread ≡ Some (record { worker = opened_worker table (number_at placing threads thread); rounds = rounds })
