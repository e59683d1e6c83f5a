-- The jobs whose totals `flood` writes, and the line of them (docs/COMMANDS.md, "flood").
use Rattle.std.specs.Prelude.{◌≡◌, List, None, Option, Some, [], map, ℕ}
use Rattle.std.specs.List.{All}
use Rattle.dispatch.specs.declared.kind.Totals.{Totals}
use Rattle.dispatch.specs.Batch.{Parts}
use Rattle.dispatch.specs.Device.{OutboxValue, SourceValue}
use Rattle.dispatch.specs.Memory.{SendsValue, outbox_of}
use Rattle.dispatch.specs.Tally.{CounterValue}
use Rattle.read_section.specs.Worker.{WorkerValue}
use Rattle.command_flood.specs.declared.flood_jobs.TheConstants.{BUFFER, LIMIT}
use Rattle.command_flood.specs.FloodVersions.{opening_version}
use Rattle.command_flood.specs.Traffic.{numbers_below, share_of}
use Rattle.dispatch.specs.Counted.{IsCounted}
use Rattle.dispatch.specs.Totals.{WritesTotals}
use Rattle.command_totals.specs.Beginning.{BeginsTotals}

-- the parts of a job over memory
abbrev pub parts_of : WorkerValue → CounterValue → List (List ℕ) → SendsValue → Parts
parts_of worker counter datagrams sends =
    record { worker = worker; counter = counter; source = record { failures = 0; coming = Some datagrams; given = None }; outbox = outbox_of sends }

-- the source of a worker's share, and an outbox that was sent nothing
abbrev pub shared_source : ℕ → ℕ → ℕ → SourceValue
shared_source workers datagrams worker = record { failures = 0; coming = Some (share_of worker workers datagrams); given = None }

abbrev pub empty_outbox : OutboxValue
empty_outbox = record { failures = 0; taken = Some [] }

-- the starts of the jobs of the first `count` of so many workers
pub record AreStartsOf (workers datagrams count : ℕ) (starts : List Parts) : Type 0 where
  pub shares : map (λ (start : Parts). start.source) starts ≡ map (shared_source workers datagrams) (numbers_below count)
  pub empty_outboxes : All (λ (start : Parts). start.outbox ≡ empty_outbox) starts

-- the starts of the jobs of all of them
abbrev pub AreStarts : ℕ → ℕ → List Parts → Type 0
AreStarts workers datagrams starts = AreStartsOf workers datagrams workers starts

-- the room for a datagram, and how many a batch judges at most
abbrev pub HasRoom : ℕ → ℕ → Type 0
HasRoom room limit = (room ≡ BUFFER) × (limit ≡ LIMIT)

-- the totals are what such jobs of workers of one table counted in all
abbrev pub IsFlooded : ℕ → ℕ → Totals → Type 0
IsFlooded workers datagrams totals = IsCounted opening_version BUFFER LIMIT (AreStarts workers datagrams) totals

-- the line of such totals was written, and nothing else
abbrev pub WritesFlood : ℕ → ℕ → Option (List ℕ) → Option (List ℕ) → Type 0
WritesFlood workers datagrams before after = (totals : Totals) × IsFlooded workers datagrams totals × WritesTotals totals before after

-- a beginning of such a line was, possibly none of it or the whole
abbrev pub BeginsFlood : ℕ → ℕ → Option (List ℕ) → Option (List ℕ) → Type 0
BeginsFlood workers datagrams before after = (totals : Totals) × IsFlooded workers datagrams totals × BeginsTotals totals before after
