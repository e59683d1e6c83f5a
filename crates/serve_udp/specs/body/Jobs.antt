-- The jobs of the service, as they are made and when it opens.
use Rattle.std.specs.Prelude.{◌≡◌, ◌+◌, List, None, Option, length, map, reverse, ℕ}
use Rattle.std.specs.List.{All}
use Rattle.atomic_table.specs.Seated.{TableId}
use Rattle.config_image.specs.Image.{Group}
use Rattle.dispatch.specs.Batch.{Parts}
use Rattle.dispatch.specs.Tally.{CounterValue, sum_of_counts, total_of}
use Rattle.dispatch.specs.declared.device.Outbox as Outbox
use Rattle.dispatch.specs.declared.device.Source as Source
use Rattle.dispatch.specs.declared.kind.Totals.{Totals}
use Rattle.dispatch.specs.declared.tally.TheConstants.{COUNTERS}
use Rattle.dispatch.specs.declared.worker_job.Job.{Job}
use Rattle.dispatch.specs.Counted.{AreEnded, IsNew, IsNewWorker, counters_of}
use Rattle.packet_verdict.specs.declared.kind.Kind.{Kind}
use Rattle.read_section.specs.Worker.{WorkerValue}
use Rattle.serve_devices.specs.Devices.{MemberOutboxValue, WorkerSourceValue, new_outbox, new_source}
use Rattle.serve_devices.specs.Ingress.{Receive}
use Rattle.serve_udp.specs.Service.{HasRoom}
use Rattle.serve_udp.specs.declared.sockets.TheConstants.{LONGEST_DATAGRAM}

-- a new source: its datagrams to come are not known, and these were given before, if that is known
abbrev pub IsNewSource : Option (List Receive) → WorkerSourceValue → Type 0
IsNewSource past source = source ≡ new_source LONGEST_DATAGRAM None past

-- so many of them
abbrev pub AreNewSources : Option (List Receive) → ℕ → List WorkerSourceValue → Type 0
AreNewSources past many sources = (length sources ≡ many) × All (IsNewSource past) sources

module _ {source : Source.Ghosts WorkerSourceValue} {outbox : Outbox.Ghosts MemberOutboxValue} where
  -- jobs with new counters of one tally, whose other counters are spare
  pub record HaveNewCounters (table : TableId) (spare : List CounterValue) (jobs : List (Job WorkerSourceValue MemberOutboxValue source outbox)) : Type 0 where
    pub all_counters : length spare + length jobs ≡ COUNTERS
    pub new_spare : All (IsNew table) spare
    pub new_counters : All (λ (job : Job WorkerSourceValue MemberOutboxValue source outbox). IsNew table job.counter) jobs

  -- the totals are what these jobs counted in all, each of which was run to its end
  pub record AreTotalsOf (jobs : List (Job WorkerSourceValue MemberOutboxValue source outbox)) (totals : Totals) : Type 0 where
    pub ends : List Parts
    pub run_to_the_end : AreEnded source outbox jobs ends
    pub sum_exact : (kind : Kind) → total_of totals kind ≡ sum_of_counts kind (counters_of ends)

  -- the jobs have new workers of a table, whose version 0 is the configuration
  abbrev pub HaveNewWorkers : List Group → TableId → List (Job WorkerSourceValue MemberOutboxValue source outbox) → Type 0
  HaveNewWorkers opening versions jobs = All (λ (job : Job WorkerSourceValue MemberOutboxValue source outbox). IsNewWorker opening versions job.worker) jobs

  -- the jobs have new outboxes
  abbrev pub HaveNewOutboxes : List (Job WorkerSourceValue MemberOutboxValue source outbox) → Type 0
  HaveNewOutboxes jobs = All (λ (job : Job WorkerSourceValue MemberOutboxValue source outbox). job.outbox ≡ new_outbox None) jobs

  abbrev pub sources_of : List (Job WorkerSourceValue MemberOutboxValue source outbox) → List WorkerSourceValue
  sources_of jobs = map (λ (job : Job WorkerSourceValue MemberOutboxValue source outbox). job.source) jobs

  -- so many jobs with new outboxes were made, of workers and counters from the ends of two lists
  pub record AreMade (many : ℕ) (workers workers_left : List WorkerValue) (counters counters_left : List CounterValue)
      (jobs : List (Job WorkerSourceValue MemberOutboxValue source outbox)) : Type 0 where
    pub job_count : length jobs ≡ many
    pub worker_each : length workers_left + many ≡ length workers
    pub counter_each : length counters_left + many ≡ length counters
    pub new_outboxes : HaveNewOutboxes jobs
    pub rooms : All (λ (job : Job WorkerSourceValue MemberOutboxValue source outbox). HasRoom (length job.buffer.items) job.limit) jobs
    pub new_workers : (opening : List Group) (versions : TableId) → All (IsNewWorker opening versions) workers
        → All (IsNewWorker opening versions) workers_left × HaveNewWorkers opening versions jobs
    pub new_counters : (table : TableId) → All (IsNew table) counters
        → All (IsNew table) counters_left × All (λ (job : Job WorkerSourceValue MemberOutboxValue source outbox). IsNew table job.counter) jobs

  -- jobs with these sources, the last one first, with new outboxes, and with new counters of one tally
  pub record AreOpened (table : TableId) (spare : List CounterValue) (sources : List WorkerSourceValue)
      (jobs : List (Job WorkerSourceValue MemberOutboxValue source outbox)) : Type 0 where
    pub counters : HaveNewCounters table spare jobs
    pub their_sources : sources_of jobs ≡ reverse sources
    pub new_outboxes : HaveNewOutboxes jobs
    pub rooms : All (λ (job : Job WorkerSourceValue MemberOutboxValue source outbox). HasRoom (length job.buffer.items) job.limit) jobs
