-- The jobs of `flood`, one more at a time.
use Rattle.std.proofs.Common.{◌≡◌, ◌∙◌, ◌+◌, ◌++◌, ◌∷◌, Err, IfOk, List, Ok, Result, [], ap₂, length, map, refl, sym, ℕ}
use Rattle.std.proofs.lemmas.List.{map-append}
use Rattle.std.proofs.lemmas.List.Elements.{All-nil, All-push}
use Rattle.std.specs.List.{All}
use Rattle.atomic_table.specs.Seated.{TableId}
use Rattle.command_line.specs.declared.ending.Failure.{Failure}
use Rattle.dispatch.specs.contracts.memory.DatagramsSource.TheImpl.{ghosts as datagrams_source}
use Rattle.dispatch.specs.contracts.memory.SendsOutbox.TheImpl.{ghosts as sends_outbox}
use Rattle.dispatch.specs.declared.kind.Totals.{Totals}
use Rattle.dispatch.specs.Counted.{IsNew, IsNewWorker, counters_of}
use Rattle.dispatch.proofs.CountedLemmas.{counted}
use Rattle.dispatch.specs.Batch.{Parts}
use Rattle.dispatch.specs.Device.{SourceValue}
use Rattle.command_flood.specs.declared.flood_jobs.TheConstants.{BUFFER, LIMIT}
use Rattle.command_flood.specs.Flood.{AreStarts, AreStartsOf, HasRoom, IsFlooded, empty_outbox, parts_of, shared_source}
use Rattle.command_flood.specs.FloodVersions.{opening_version}
use Rattle.command_flood.specs.body.Jobs.{AreTotalsOf, FloodJob}
use Rattle.command_flood.proofs.TrafficLemmas.{map_more}

module _ (workers datagrams count : ℕ) (starts : List Parts) (start : Parts) where
  pub starts_more : AreStartsOf workers datagrams count starts → start.source ≡ shared_source workers datagrams count → start.outbox ≡ empty_outbox
      → AreStartsOf workers datagrams (count + 1) (starts ++ start ∷ [])
  starts_more before share empty = record {
    shares = map-append (λ (p : Parts). p.source) starts (start ∷ [])
        ∙ (ap₂ (λ (xs : List SourceValue) (x : SourceValue). xs ++ x ∷ []) before.shares share ∙ sym (map_more (shared_source workers datagrams) count));
    empty_outboxes = All-push (λ (p : Parts). p.outbox ≡ empty_outbox) starts start before.empty_outboxes empty;
  }

abbrev pub start_of : FloodJob → Parts
start_of job = parts_of job.worker job.counter job.source job.outbox

-- what jobs counted, as the totals of `flood`
pub is_flooded : (ended : Result Totals Failure) (table : TableId) (jobs : List FloodJob) (versions : TableId) (workers datagrams : ℕ)
    → All (λ (job : FloodJob). IsNew table job.counter) jobs → All (λ (job : FloodJob). IsNewWorker opening_version versions job.worker) jobs
    → All (λ (job : FloodJob). HasRoom (length job.buffer.items) job.limit) jobs → AreStarts workers datagrams (map start_of jobs)
    → IfOk ended (AreTotalsOf jobs) → IfOk ended (IsFlooded workers datagrams)
is_flooded (Ok totals) table jobs versions workers datagrams new_counters new_workers rooms starts are =
    counted datagrams_source sends_outbox table jobs [] (counters_of are.ends) (record { ends = are.ends; run_to_the_end = are.run_to_the_end; counters_back = refl })
    (All-nil (IsNew table)) new_counters opening_version versions BUFFER LIMIT (AreStarts workers datagrams) new_workers rooms starts totals are.sum_exact
is_flooded (Err failure) table jobs versions workers datagrams new_counters new_workers rooms starts are = tt
