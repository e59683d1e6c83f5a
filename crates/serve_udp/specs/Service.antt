-- The output of `serve`, and the jobs that its totals count (docs/COMMANDS.md, "serve").
use Rattle.std.specs.Prelude.{◌≡◌, ◌≢◌, ◌++◌, ◌⊎◌, List, None, Option, Some, [], codes, length, map, reverse, ℕ}
use Rattle.std.specs.Io.KnownBytes.{Appends}
use Rattle.std.specs.List.{All}
use Rattle.command_line.specs.Ending.{AppendsBeginning}
use Rattle.command_line.specs.declared.ending.Failure.{Failure}
use Rattle.command_line.specs.declared.ending.Failure.TheVariants.{NoAnswer, ReadFailed, RulesChanged}
use Rattle.command_line.specs.ControlAddress.{address_text}
use Rattle.command_line.specs.declared.control_address.ControlAddress.{ControlAddress}
use Rattle.config_image.specs.Image.{Group}
use Rattle.dispatch.specs.Batch.{Parts}
use Rattle.dispatch.specs.Device.{SourceValue}
use Rattle.dispatch.specs.declared.kind.Totals.{Totals}
use Rattle.ipv4_fields.specs.Endpoint.{endpoint_text}
use Rattle.ipv4_fields.specs.declared.endpoint.Endpoint.{Endpoint}
use Rattle.serve_devices.specs.Devices.{WorkerSourceValue, source_of}
use Rattle.dispatch.specs.Counted.{IsCounted}
use Rattle.dispatch.specs.Totals.{WritesTotals}
use Rattle.command_totals.specs.Beginning.{BeginsTotals}
use Rattle.serve_udp.specs.declared.jobs.TheConstants.{LIMIT}
use Rattle.serve_udp.specs.declared.sockets.TheConstants.{LONGEST_DATAGRAM}

-- the room for a datagram, and the most datagrams that a batch judges
abbrev pub HasRoom : ℕ → ℕ → Type 0
HasRoom room limit = (room ≡ LONGEST_DATAGRAM) × (limit ≡ LIMIT)

-- an outbox that has not failed yet, and shows nothing of its sends
abbrev pub HasSilentOutbox : Parts → Type 0
HasSilentOutbox start = start.outbox ≡ record { failures = 0; taken = None }

-- it has given no datagram, as far as it shows
abbrev pub HasGivenNone : Option (List (List ℕ)) → Type 0
HasGivenNone None = Unit {0}
HasGivenNone (Some given) = given ≡ []

-- a source that has not failed yet and, as far as it shows, has given no datagram; it shows nothing of those to come
pub record IsSilentSource (source : SourceValue) : Type 0 where
  pub failures : source.failures ≡ 0
  pub coming : source.coming ≡ None
  pub given : HasGivenNone source.given

-- such a source, and an outbox that has not failed yet and shows nothing of its sends
abbrev pub HasSilentDevices : Parts → Type 0
HasSilentDevices start = IsSilentSource start.source × HasSilentOutbox start

-- the starts of the jobs of this many workers
abbrev pub AreServiceStarts : ℕ → List Parts → Type 0
AreServiceStarts workers starts = (length starts ≡ workers) × All HasSilentDevices starts

-- the starts of the jobs with these sources; the first job has the last source
pub record AreStartsOf (sources : List WorkerSourceValue) (starts : List Parts) : Type 0 where
  pub their_sources : map (λ (start : Parts). start.source) starts ≡ map source_of (reverse sources)
  pub silent_outboxes : All HasSilentOutbox starts

-- `serve` reads no input, waits for no reply, and reads no rules of a switch
abbrev pub IsServeFailure : Failure → Type 0
IsServeFailure failure = (failure ≢ ReadFailed) × (failure ≢ NoAnswer) × (failure ≢ RulesChanged)

-- the line that says that the service is ready
abbrev pub ready_front : Endpoint → List ℕ
ready_front front = codes "ready " ++ endpoint_text front ++ codes " "

abbrev pub ready_text : Endpoint → ControlAddress → List ℕ
ready_text front control = ready_front front ++ (address_text control ++ codes "\n")

abbrev pub WritesReady : Endpoint → ControlAddress → Option (List ℕ) → Option (List ℕ) → Type 0
WritesReady front control before after = Appends before after (ready_text front control)

-- that line, for some two addresses, or nothing
abbrev pub WritesReadyOrNothing : Option (List ℕ) → Option (List ℕ) → Type 0
WritesReadyOrNothing before after = (after ≡ before) ⊎ ((front : Endpoint) × (control : ControlAddress) × WritesReady front control before after)

-- that line, whole, for these two addresses, and then maybe more
abbrev pub HasReady : Endpoint → ControlAddress → Option (List ℕ) → Option (List ℕ) → Type 0
HasReady front control before after = (between : Option (List ℕ)) × (more : List ℕ) × WritesReady front control before between × Appends between after more

-- that line, then the line of the totals of jobs that started so, and nothing else; version 0 of their table is this
-- configuration
pub record WritesCounted (control : ControlAddress) (opening : List Group) (AreStarts : List Parts → Type 0) (before after : Option (List ℕ)) : Type 0 where
  pub front : Endpoint
  pub totals : Totals
  pub between : Option (List ℕ)
  pub ready : WritesReady front control before between
  pub is_counted : IsCounted opening LONGEST_DATAGRAM LIMIT AreStarts totals
  pub totals_line : WritesTotals totals between after

-- a beginning of the line `ready` was written; or that line, and a beginning of the line of such totals
pub data BeginsCounted (control : ControlAddress) (opening : List Group) (AreStarts : List Parts → Type 0) (before after : Option (List ℕ)) : Type 0 where
  ready_begun : (front : Endpoint) → AppendsBeginning before after (ready_text front control) → BeginsCounted control opening AreStarts before after
  totals_begun : (front : Endpoint) (totals : Totals) (between : Option (List ℕ)) → WritesReady front control before between →
      IsCounted opening LONGEST_DATAGRAM LIMIT AreStarts totals → BeginsTotals totals between after → BeginsCounted control opening AreStarts before after

-- for the jobs of this many workers
abbrev pub WritesServedAt : ControlAddress → List Group → ℕ → Option (List ℕ) → Option (List ℕ) → Type 0
WritesServedAt control opening workers before after = WritesCounted control opening (AreServiceStarts workers) before after

abbrev pub BeginsServedAt : ControlAddress → List Group → ℕ → Option (List ℕ) → Option (List ℕ) → Type 0
BeginsServedAt control opening workers before after = BeginsCounted control opening (AreServiceStarts workers) before after

-- for some address of control
abbrev pub WritesServedFrom : List Group → ℕ → Option (List ℕ) → Option (List ℕ) → Type 0
WritesServedFrom opening workers before after = (control : ControlAddress) × WritesServedAt control opening workers before after

abbrev pub BeginsServedFrom : List Group → ℕ → Option (List ℕ) → Option (List ℕ) → Type 0
BeginsServedFrom opening workers before after = (control : ControlAddress) × BeginsServedAt control opening workers before after

-- as a switch does that begins without groups
abbrev pub WritesServed : ℕ → Option (List ℕ) → Option (List ℕ) → Type 0
WritesServed workers before after = WritesServedFrom [] workers before after

abbrev pub BeginsServed : ℕ → Option (List ℕ) → Option (List ℕ) → Type 0
BeginsServed workers before after = BeginsServedFrom [] workers before after
