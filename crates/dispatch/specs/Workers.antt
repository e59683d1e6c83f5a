-- The results of the threads of several jobs (docs/SWITCH.md, "Workers").
use Rattle.std.specs.Prelude.{◌≡◌, ◌+◌, ◌%◌, ◌^◌, ◌∷◌, List, [], length, ℕ}
use Rattle.dispatch.specs.declared.device.Outbox as Outbox
use Rattle.dispatch.specs.declared.device.Source as Source
use Rattle.dispatch.specs.declared.worker_job.Done.{Done}
use Rattle.dispatch.specs.declared.worker_job.Job.{Job}
use Rattle.dispatch.specs.Batch.{Parts}
use Rattle.dispatch.specs.Job.{GateEvent, IsGatedJob, IsJob}

module _ {S O : Type 0} (source : Source.Ghosts S) (outbox : Outbox.Ghosts O) where
  -- the start and the end of a job
  abbrev pub parts_of_job : Job S O source outbox → Parts
  parts_of_job job = record { worker = job.worker; counter = job.counter; source = source.state job.source; outbox = outbox.state job.outbox }

  abbrev pub parts_of_done : Done S O → Parts
  parts_of_done done = record { worker = done.worker; counter = done.counter; source = source.state done.source; outbox = outbox.state done.outbox }

  -- the job was run to its end by batches, and its buffer came back with the room that it had
  pub record IsDone (job : Job S O source outbox) (done : Done S O) : Type 0 where
    pub run_to_its_end : IsJob (length job.buffer.items) job.limit (parts_of_job job) (parts_of_done done)
    pub same_room : length done.buffer.items ≡ length job.buffer.items

  -- each job was run to its end, and there is one result a job, in their order
  abbrev pub AreDone : List (Job S O source outbox) → List (Done S O) → Type 0
  AreDone [] [] = Unit {0}
  AreDone [] (done ∷ dones) = ⊥
  AreDone (job ∷ jobs) [] = ⊥
  AreDone (job ∷ jobs) (done ∷ dones) = IsDone job done × AreDone jobs dones

  -- for each batch of the job, which have the numbers `number`, `number + step` and so on, the gate was called
  abbrev pub IsGatedDone : (GateEvent → Type 0) → ℕ → ℕ → Job S O source outbox → Done S O → Type 0
  IsGatedDone called step number job done = IsGatedJob called (length job.buffer.items) job.limit step number (parts_of_job job) (parts_of_done done)

  -- the same of each job: the first one begins with this number, and each further one with the next
  abbrev pub AreGatedDone : (GateEvent → Type 0) → ℕ → ℕ → List (Job S O source outbox) → List (Done S O) → Type 0
  AreGatedDone called step number [] [] = Unit {0}
  AreGatedDone called step number [] (done ∷ dones) = ⊥
  AreGatedDone called step number (job ∷ jobs) [] = ⊥
  AreGatedDone called step number (job ∷ jobs) (done ∷ dones) = IsGatedDone called step number job done × AreGatedDone called step ((number + 1) % 2 ^ 64) jobs dones
