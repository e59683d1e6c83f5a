-- Jobs that were run to their ends: their counters stay those of one tally, and totals are their sums.
use Rattle.std.proofs.Common.{◌≡◌, ◌∙◌, ◌%◌, ◌+◌, ◌++◌, ◌^◌, ◌∷◌, Bool, Err, List, Ok, Result, [], ap, ap₂, arith, false, inl, inr, length, length-append, map, refl, subst, suc, true, zero-add, ℕ}
use Rattle.std.proofs.lemmas.List.{length-map}
use Rattle.std.proofs.lemmas.List.Elements.{All-append, All-cons, All-from_get_or, All-head, All-map, All-nil, All-same, All-tail, All-weaker}
use Rattle.std.proofs.lemmas.Option.{get_or_from_slice_get}
use Rattle.std.specs.List.{All}
use Rattle.atomic_table.specs.Seated.{TableId}
use Rattle.config_image.specs.Image.{Group}
use Rattle.dispatch.specs.declared.batches.BatchDone.{BatchDone}
use Rattle.dispatch.specs.declared.batches.BatchFault.{BatchFault}
use Rattle.dispatch.specs.declared.batches.BatchFault.TheVariants as fault
use Rattle.dispatch.specs.declared.device.Outbox as Outbox
use Rattle.dispatch.specs.declared.device.Source as Source
use Rattle.packet_verdict.specs.declared.kind.Kind.{Kind}
use Rattle.packet_verdict.specs.declared.kind.Kind.TheVariants as kind
use Rattle.dispatch.specs.declared.kind.Totals.{Totals}
use Rattle.dispatch.specs.declared.tally.TheConstants.{COUNTERS}
use Rattle.dispatch.specs.declared.worker_job.Done.{Done}
use Rattle.dispatch.specs.declared.worker_job.Job.{Job}
use Rattle.dispatch.specs.Batch.{IsBatch, IsEnd, Judged, Parts, all_counted_for, counted_as, counted_for, counted_if, kind_of}
use Rattle.dispatch.specs.Job.{GateEvent, IsJob, runs_to_the_end, then_goes_on}
use Rattle.dispatch.specs.Tally.{AreCountersOf, CounterValue, place_of, sum_of_counts, times, total_of}
use Rattle.dispatch.specs.Workers.{AreDone, AreGatedDone, parts_of_done, parts_of_job}
use Rattle.read_section.specs.Operator.{AreOpenedWorkers}
use Rattle.read_section.specs.Worker.{WorkerValue}
use Rattle.versions.specs.Layout.{pages_named}
use Rattle.versions.specs.View.{new_worker}
use Rattle.versions.specs.Table.{the_shape}
use Rattle.versions.specs.World.{opening_stored}
use Rattle.dispatch.specs.Counted.{AreCountersBack, AreEnded, AreGatedEnded, AreRun, IsCounted, IsNew, IsNewWorker, counters_of}

-- ---- a job's counter stays one of its tally

counted_if_table : (counts : Bool) (kind : Kind) (counter : CounterValue) → (counted_if counts kind counter).table ≡ counter.table
counted_if_table true kind counter = refl
counted_if_table false kind counter = refl

all_counted_table : (judged : List Judged) (counter : CounterValue) → (all_counted_for judged counter).table ≡ counter.table
all_counted_table [] counter = refl
all_counted_table (one ∷ rest) counter =
    all_counted_table rest (counted_for one counter) ∙ counted_if_table one.failed kind.SendFailed (counted_as (kind_of one.verdict) counter)

end_table : (room limit judged : ℕ) (before after : Parts) (answer : Result BatchDone BatchFault) → IsEnd room limit judged before after answer
    → after.counter.table ≡ before.counter.table
end_table room limit judged before after (Ok done) end = ap (λ (p : Parts). p.counter.table) end.0
end_table room limit judged before after (Err fault.ReceiveFailed) end = ap (λ (c : CounterValue). c.table) end.2
end_table room limit judged before after (Err fault.CountFull) end = elim end.2 [
  | inl received ↦ ap (λ (c : CounterValue). c.table) received.1
  | inr cut ↦ ap (λ (c : CounterValue). c.table) cut.1.counted_before ∙ counted_if_table cut.0.failed (kind_of cut.0.verdict) before.counter
]

batch_table : (room limit : ℕ) (before after : Parts) (answer : Result BatchDone BatchFault) → IsBatch room limit before after answer
    → after.counter.table ≡ before.counter.table
batch_table room limit before after answer batch =
    end_table room limit (length batch.judged) batch.last after answer batch.end
    ∙ (ap (λ (c : CounterValue). c.table) batch.run.counted_once ∙ all_counted_table batch.judged before.counter)

job_table : (room limit : ℕ) (before after : Parts) → IsJob room limit before after → after.counter.table ≡ before.counter.table
job_table room limit before after (runs_to_the_end first last answer batch ends) = batch_table room limit before after answer batch
job_table room limit before after (then_goes_on first mid last answer batch on rest) =
    job_table room limit mid after rest ∙ batch_table room limit before mid answer batch

-- ---- counters that counted nothing

module _ (table : TableId) where
  new_table : (counters : List CounterValue) → All (IsNew table) counters → All (λ (c : CounterValue). c.table ≡ table) counters
  new_table counters all = All-weaker (IsNew table) _ (λ counter new. ap (λ (c : CounterValue). c.table) new) counters all

  -- they add nothing
  sum_after_new : (kind : Kind) (new later : List CounterValue) → All (IsNew table) new → sum_of_counts kind (new ++ later) ≡ sum_of_counts kind later
  sum_after_new kind [] later all = refl
  sum_after_new kind (counter ∷ rest) later all =
      ap₂ (λ (n m : ℕ). n + m) (ap (λ (c : CounterValue). times (place_of kind) c.log) (All-head (IsNew table) counter rest all))
      (sum_after_new kind rest later (All-tail (IsNew table) counter rest all))
      ∙ zero-add (sum_of_counts kind later)

-- ---- workers of a new table

pub opened_workers : (config : List Group) (table : TableId) (workers : List WorkerValue) → AreOpenedWorkers table config workers
    → All (IsNewWorker config table) workers
opened_workers config table workers opened =
    let at_first : WorkerValue = record { table = table; view = new_worker config (pages_named the_shape (opening_stored config) 0) 0 } in
    All-from_get_or (IsNewWorker config table) workers at_first
    (λ k inside. (k, get_or_from_slice_get workers k _ at_first (opened.each k (omega (arith, opened.count)))))

-- ---- jobs and their ends

module _ {S O : Type 0} (source : Source.Ghosts S) (outbox : Outbox.Ghosts O) where
  pub ends_of : (jobs : List (Job S O source outbox)) (dones : List (Done S O)) → AreDone source outbox jobs dones
      → AreEnded source outbox jobs (map (parts_of_done source outbox) dones)
  ends_of [] [] done = tt
  ends_of [] (d ∷ dones) done = absurd done
  ends_of (job ∷ jobs) [] done = absurd done
  ends_of (job ∷ jobs) (d ∷ dones) done = (done.0.run_to_its_end, ends_of jobs dones done.1)

  pub gated_of : (called : GateEvent → Type 0) (step number : ℕ) (jobs : List (Job S O source outbox)) (dones : List (Done S O))
      → AreGatedDone source outbox called step number jobs dones → AreGatedEnded source outbox called step number jobs (map (parts_of_done source outbox) dones)
  gated_of called step number [] [] gated = tt
  gated_of called step number [] (d ∷ dones) gated = absurd gated
  gated_of called step number (job ∷ jobs) [] gated = absurd gated
  gated_of called step number (job ∷ jobs) (d ∷ dones) gated = (gated.0, gated_of called step ((number + 1) % 2 ^ 64) jobs dones gated.1)

  pub counters_of_ends : (dones : List (Done S O)) → counters_of (map (parts_of_done source outbox) dones) ≡ map (λ (done : Done S O). done.counter) dones
  counters_of_ends [] = refl
  counters_of_ends (done ∷ dones) = ap (λ (rest : List CounterValue). done.counter ∷ rest) (counters_of_ends dones)

  ends_count : (jobs : List (Job S O source outbox)) (ends : List Parts) → AreEnded source outbox jobs ends → length ends ≡ length jobs
  ends_count [] [] ended = refl
  ends_count [] (end ∷ ends) ended = absurd ended
  ends_count (job ∷ jobs) [] ended = absurd ended
  ends_count (job ∷ jobs) (end ∷ ends) ended = ap (λ (n : ℕ). suc n) (ends_count jobs ends ended.1)

  ends_table : (table : TableId) (jobs : List (Job S O source outbox)) (ends : List Parts) → AreEnded source outbox jobs ends
      → All (λ (job : Job S O source outbox). IsNew table job.counter) jobs → All (λ (c : CounterValue). c.table ≡ table) (counters_of ends)
  ends_table table [] [] ended new = All-nil _
  ends_table table [] (end ∷ ends) ended new = absurd ended
  ends_table table (job ∷ jobs) [] ended new = absurd ended
  ends_table table (job ∷ jobs) (end ∷ ends) ended new =
      All-cons (λ (c : CounterValue). c.table ≡ table) end.counter (counters_of ends)
      (job_table (length job.buffer.items) job.limit (parts_of_job source outbox job) end ended.0
      ∙ ap (λ (c : CounterValue). c.table) (All-head (λ (job : Job S O source outbox). IsNew table job.counter) job jobs new))
      (ends_table table jobs ends ended.1 (All-tail (λ (job : Job S O source outbox). IsNew table job.counter) job jobs new))

  -- jobs with one room and one limit
  run_of : (room limit : ℕ) (jobs : List (Job S O source outbox)) (ends : List Parts) → AreEnded source outbox jobs ends
      → All (λ (job : Job S O source outbox). (length job.buffer.items ≡ room) × (job.limit ≡ limit)) jobs
      → AreRun room limit (map (parts_of_job source outbox) jobs) ends
  run_of room limit [] [] ended has = tt
  run_of room limit [] (end ∷ ends) ended has = absurd ended
  run_of room limit (job ∷ jobs) [] ended has = absurd ended
  run_of room limit (job ∷ jobs) (end ∷ ends) ended has =
      let here = All-head (λ (job : Job S O source outbox). (length job.buffer.items ≡ room) × (job.limit ≡ limit)) job jobs has in (
        subst (λ (most : ℕ). IsJob room most (parts_of_job source outbox job) end) here.1
            (subst (λ (size : ℕ). IsJob size job.limit (parts_of_job source outbox job) end) here.0 ended.0),
        run_of room limit jobs ends ended.1
            (All-tail (λ (job : Job S O source outbox). (length job.buffer.items ≡ room) × (job.limit ≡ limit)) job jobs has),
      )

-- ---- all counters of a tally, of which the spare ones counted nothing

module _ {S O : Type 0} (source : Source.Ghosts S) (outbox : Outbox.Ghosts O) (table : TableId) (jobs : List (Job S O source outbox)) (spare counters : List CounterValue)
    (back : AreCountersBack source outbox jobs spare counters) (new_spare : All (IsNew table) spare) (new_counters : All (λ (job : Job S O source outbox). IsNew table job.counter) jobs) where
  pub all_counters : length spare + length jobs ≡ COUNTERS → AreCountersOf table counters
  all_counters many = record {
    count = ap length back.counters_back ∙ (length-append spare (counters_of back.ends)
        ∙ (ap (λ (n : ℕ). length spare + n) (length-map back.ends (λ (end : Parts). end.counter) ∙ ends_count source outbox jobs back.ends back.run_to_the_end) ∙ many));
    same_table = All-same (λ (c : CounterValue). c.table ≡ table) counters (spare ++ counters_of back.ends) back.counters_back
        (All-append (λ (c : CounterValue). c.table ≡ table) spare (counters_of back.ends) (new_table table spare new_spare)
        (ends_table source outbox table jobs back.ends back.run_to_the_end new_counters));
  }

  pub sum_of_ends : (kind : Kind) → sum_of_counts kind counters ≡ sum_of_counts kind (counters_of back.ends)
  sum_of_ends kind = ap (sum_of_counts kind) back.counters_back ∙ sum_after_new table kind spare (counters_of back.ends) new_spare

  -- totals that are the sums of all counters
  pub counted : (opening : List Group) (versions : TableId) (room limit : ℕ) (AreStarts : List Parts → Type 0)
      → All (λ (job : Job S O source outbox). IsNewWorker opening versions job.worker) jobs
      → All (λ (job : Job S O source outbox). (length job.buffer.items ≡ room) × (job.limit ≡ limit)) jobs
      → AreStarts (map (parts_of_job source outbox) jobs)
      → (totals : Totals) → ((kind : Kind) → total_of totals kind ≡ sum_of_counts kind counters)
      → IsCounted opening room limit AreStarts totals
  counted opening versions room limit AreStarts new_workers has are_starts totals sums = record {
    versions = versions;
    table = table;
    starts = map (parts_of_job source outbox) jobs;
    ends = back.ends;
    new_workers = All-map (λ (start : Parts). IsNewWorker opening versions start.worker) (parts_of_job source outbox) jobs new_workers;
    new_counters = All-map (λ (start : Parts). IsNew table start.counter) (parts_of_job source outbox) jobs new_counters;
    are_starts = are_starts;
    run_to_the_end = run_of source outbox room limit jobs back.ends back.run_to_the_end has;
    sum_exact = λ kind. sums kind ∙ sum_of_ends kind;
  }
