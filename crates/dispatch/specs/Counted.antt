-- The jobs that totals count, and the counters that come back (docs/SWITCH.md, "Workers", "Tallies").
use Rattle.std.specs.Prelude.{◌≡◌, ◌%◌, ◌+◌, ◌++◌, ◌^◌, ◌∷◌, List, [], length, map, ℕ}
use Rattle.std.specs.List.{All}
use Rattle.atomic_table.specs.Seated.{TableId}
use Rattle.config_image.specs.Image.{Group}
use Rattle.packet_verdict.specs.declared.kind.Kind.{Kind}
use Rattle.dispatch.specs.declared.device.Outbox as Outbox
use Rattle.dispatch.specs.declared.device.Source as Source
use Rattle.dispatch.specs.declared.kind.Totals.{Totals}
use Rattle.dispatch.specs.declared.worker_job.Job.{Job}
use Rattle.dispatch.specs.Batch.{Parts}
use Rattle.dispatch.specs.Job.{GateEvent, IsGatedJob, IsJob}
use Rattle.dispatch.specs.Tally.{CounterValue, sum_of_counts, total_of}
use Rattle.dispatch.specs.Workers.{parts_of_job}
use Rattle.read_section.specs.Worker.{WorkerValue}
use Rattle.versions.specs.Layout.{pages_named}
use Rattle.versions.specs.View.{new_worker}
use Rattle.versions.specs.Table.{the_shape}
use Rattle.versions.specs.World.{opening_stored}

-- a counter of a tally that counted nothing yet
abbrev pub IsNew : TableId → CounterValue → Type 0
IsNew table counter = counter ≡ record { table = table; log = [] }

-- a worker of a table that was opened with a version, which has made no step yet
abbrev pub IsNewWorker : List Group → TableId → WorkerValue → Type 0
IsNewWorker opening table worker = (w : ℕ) × (worker ≡ record { table = table; view = new_worker opening (pages_named the_shape (opening_stored opening) 0) w })

abbrev pub counters_of : List Parts → List CounterValue
counters_of ends = map (λ (end : Parts). end.counter) ends

-- each of these jobs was run to its end by batches of at most so many datagrams, received into so much room
abbrev pub AreRun : ℕ → ℕ → List Parts → List Parts → Type 0
AreRun room limit [] [] = Unit {0}
AreRun room limit [] (end ∷ ends) = ⊥
AreRun room limit (start ∷ starts) [] = ⊥
AreRun room limit (start ∷ starts) (end ∷ ends) = IsJob room limit start end × AreRun room limit starts ends

-- the totals are what jobs counted in all that were run to their ends: jobs of new workers of one table and with new counters of one
-- tally, which started so
pub record IsCounted (opening : List Group) (room limit : ℕ) (AreStarts : List Parts → Type 0) (totals : Totals) : Type 0 where
  pub versions : TableId
  pub table : TableId
  pub starts : List Parts
  pub ends : List Parts
  pub new_workers : All (λ (start : Parts). IsNewWorker opening versions start.worker) starts
  pub new_counters : All (λ (start : Parts). IsNew table start.counter) starts
  pub are_starts : AreStarts starts
  pub run_to_the_end : AreRun room limit starts ends
  pub sum_exact : (kind : Kind) → total_of totals kind ≡ sum_of_counts kind (counters_of ends)

module _ {S O : Type 0} (source : Source.Ghosts S) (outbox : Outbox.Ghosts O) where
  -- each job was run to its end by batches, and there is one end a job, in their order
  abbrev pub AreEnded : List (Job S O source outbox) → List Parts → Type 0
  AreEnded [] [] = Unit {0}
  AreEnded [] (end ∷ ends) = ⊥
  AreEnded (job ∷ jobs) [] = ⊥
  AreEnded (job ∷ jobs) (end ∷ ends) = IsJob (length job.buffer.items) job.limit (parts_of_job source outbox job) end × AreEnded jobs ends

  -- the counters are the spare ones, and then those of the jobs as they ended
  pub record AreCountersBack (jobs : List (Job S O source outbox)) (spare counters : List CounterValue) : Type 0 where
    pub ends : List Parts
    pub run_to_the_end : AreEnded jobs ends
    pub counters_back : counters ≡ spare ++ counters_of ends

  -- the same, and for each batch of a job the gate was called. The first job begins with this number, and each further one with the next
  abbrev pub AreGatedEnded : (GateEvent → Type 0) → ℕ → ℕ → List (Job S O source outbox) → List Parts → Type 0
  AreGatedEnded called step number [] [] = Unit {0}
  AreGatedEnded called step number [] (end ∷ ends) = ⊥
  AreGatedEnded called step number (job ∷ jobs) [] = ⊥
  AreGatedEnded called step number (job ∷ jobs) (end ∷ ends) =
      IsGatedJob called (length job.buffer.items) job.limit step number (parts_of_job source outbox job) end × AreGatedEnded called step ((number + 1) % 2 ^ 64) jobs ends

  -- the counters are the spare ones, and then those of such jobs as they ended; the first job begins with number 1
  pub record AreGatedBack (called : GateEvent → Type 0) (step : ℕ) (jobs : List (Job S O source outbox)) (spare counters : List CounterValue) : Type 0 where
    pub ends : List Parts
    pub gate_called : AreGatedEnded called step 1 jobs ends
    pub counters_back : counters ≡ spare ++ counters_of ends
