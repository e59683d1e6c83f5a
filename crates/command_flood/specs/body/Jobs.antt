-- The jobs of `flood`, and what they counted.
use Rattle.std.specs.Prelude.{◌≡◌, ◌+◌, List, length}
use Rattle.std.specs.List.{All}
use Rattle.atomic_table.specs.Seated.{TableId}
use Rattle.dispatch.specs.contracts.memory.DatagramsSource.TheImpl.{ghosts as datagrams_source}
use Rattle.dispatch.specs.contracts.memory.SendsOutbox.TheImpl.{ghosts as sends_outbox}
use Rattle.dispatch.specs.Batch.{Parts}
use Rattle.dispatch.specs.Counted.{AreEnded, IsNew, counters_of}
use Rattle.dispatch.specs.Tally.{CounterValue, sum_of_counts, total_of}
use Rattle.dispatch.specs.declared.kind.Totals.{Totals}
use Rattle.dispatch.specs.declared.memory.Datagrams.{Datagrams}
use Rattle.dispatch.specs.declared.memory.Sends.{Sends}
use Rattle.dispatch.specs.declared.tally.TheConstants.{COUNTERS}
use Rattle.dispatch.specs.declared.worker_job.Job.{Job}
use Rattle.packet_verdict.specs.declared.kind.Kind.{Kind}

abbrev pub FloodJob : Type 0
FloodJob = Job Datagrams Sends datagrams_source sends_outbox

-- jobs with new counters of one tally, whose other counters are spare
pub record HaveNewCounters (table : TableId) (spare : List CounterValue) (jobs : List FloodJob) : Type 0 where
  pub all_counters : length spare + length jobs ≡ COUNTERS
  pub new_spare : All (IsNew table) spare
  pub new_counters : All (λ (job : FloodJob). IsNew table job.counter) jobs

-- the totals are what these jobs counted in all, each of which was run to its end
pub record AreTotalsOf (jobs : List FloodJob) (totals : Totals) : Type 0 where
  pub ends : List Parts
  pub run_to_the_end : AreEnded datagrams_source sends_outbox jobs ends
  pub sum_exact : (kind : Kind) → total_of totals kind ≡ sum_of_counts kind (counters_of ends)
