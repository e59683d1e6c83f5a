-- The output of the commands that may wait (docs/COMMANDS.md, "flood", "serve", "tell", "rules", "load", "drain", "metrics", "top").
use Rattle.std.specs.Prelude.{◌≡◌, ◌≢◌, ◌⊎◌, Bool, List, None, Option, Some, codes, false, ℕ}
use Rattle.std.specs.Io.KnownBytes.{Appends}
use Rattle.clap.specs.Words.{Text}
use Rattle.config_image.specs.Image.{Group}
use Rattle.command_line.specs.declared.ending.Failure.{Failure}
use Rattle.command_line.specs.declared.ending.Failure.TheVariants.{BindFailed, NoAnswer, OutOfMemory, ReadFailed, RulesChanged, WriteFailed}
use Rattle.command_line.specs.CommandLine.{WaitingRequest, drain, flood, load, metrics, rules, serve, tell, top}
use Rattle.command_line.specs.ControlAddress.{IsNoControlAddress, SpellsControlAddress}
use Rattle.command_line.specs.declared.control_address.ControlAddress.{ControlAddress}
use Rattle.ipv4_fields.specs.Endpoint.{IsEndpoint, endpoint_text}
use Rattle.ipv4_fields.specs.declared.endpoint.Endpoint.{Endpoint}
use Rattle.serve_udp.specs.Service.{BeginsServedFrom, WritesReadyOrNothing, WritesServedFrom}
use Rattle.command_flood.specs.Failing.{EndsInFloodFailure}
use Rattle.command_flood.specs.Flood.{WritesFlood}
use Rattle.command_operating.specs.Draining.{MayFailDraining, PrintsDrain, RefusesDrain, WritesDrain}
use Rattle.command_operating.specs.Files.{KnownFiles}
use Rattle.command_operating.specs.Measured.{EndsInTopFailure, IsNoFront, MayFailMeasuring, PrintsMetrics, WritesMetrics, WritesTop, sockets_file}
use Rattle.command_operating.specs.Opening.{IsOpening, RefusesOpening}
use Rattle.command_operating.specs.Printing.{Begins, EndsInPrintFailure, MayFailAsking}
use Rattle.command_waiting.specs.Serving.{IsServeTold}
use Rattle.command_operating.specs.Showing.{MayFailLoading, PrintsLoad, PrintsRules, RefusesLoad, WritesLoad, WritesRules}
use Rattle.command_operating.specs.Telling.{EndsInTellFailure, IsToldRefusal, WritesReplies}

-- the text is an endpoint's, or none's
abbrev pub IsAddress : Text → Type 0
IsAddress text = (endpoint : Endpoint) × IsEndpoint endpoint × (text ≡ endpoint_text endpoint)

abbrev pub IsNoAddress : Text → Type 0
IsNoAddress text = (endpoint : Endpoint) → IsEndpoint endpoint → text ≢ endpoint_text endpoint

-- the text is an address of control
abbrev pub IsControl : Text → Type 0
IsControl text = (address : ControlAddress) × SpellsControlAddress text address

-- `serve` wrote what it writes, as a switch that begins with the rules of the file, or without groups
pub record WritesService (files : KnownFiles) (front control : Text) (workers : ℕ) (file : Option Text) (before after : Option (List ℕ)) : Type 0 where
  pub is_front : IsAddress front
  pub is_control : IsControl control
  pub config : List Group
  pub opening : IsOpening files file config
  pub served : WritesServedFrom config workers before after

-- the output of the command was written; `files` are the bytes of files, if they are known
abbrev pub WritesFor : (files : KnownFiles) (terminal : Bool) → WaitingRequest → (input before after told_before told_after : Option (List ℕ)) → Type 0
WritesFor files terminal (flood workers datagrams) input before after told_before told_after = WritesFlood workers datagrams before after
WritesFor files terminal (serve front control workers file logs receive buffer) input before after told_before told_after =
    WritesService files front control workers file before after
WritesFor files terminal (tell control timeout all words) input before after told_before told_after =
    WritesReplies control all words input before after told_before told_after false
WritesFor files terminal (rules control timeout) input before after told_before told_after = WritesRules control before after
WritesFor files terminal (load control timeout file only_check only_diff) input before after told_before told_after =
    WritesLoad control (files file) before after only_check only_diff
WritesFor files terminal (drain control timeout key member) input before after told_before told_after = WritesDrain control key member before after
WritesFor files terminal (metrics control front timeout) input before after told_before told_after = WritesMetrics control (files sockets_file) front before after
WritesFor files terminal (top control interval count timeout) input before after told_before told_after = WritesTop control terminal count before after

-- `serve` is given a text for a socket that is no address, or a rules file that is refused, and the refusal was written
pub data RefusesService (files : KnownFiles) (front control : Text) (file : Option Text) (before after : Option (List ℕ)) : Type 0 where
  no_address : IsNoAddress front ⊎ IsNoControlAddress control → Appends before after (codes "refused C1\n") →
      RefusesService files front control file before after
  no_rules : IsAddress front → IsControl control → RefusesOpening files file before after → RefusesService files front control file before after

-- a refusal of the command is not shown on standard error: it has no rules file, and no line was sent
abbrev pub ShowsNoRefusal : WaitingRequest → Type 0
ShowsNoRefusal (flood workers datagrams) = Unit {0}
ShowsNoRefusal (serve front control workers file logs receive buffer) = file ≡ None
ShowsNoRefusal (tell control timeout all words) = IsNoControlAddress control
ShowsNoRefusal (rules control timeout) = Unit {0}
ShowsNoRefusal (load control timeout file only_check only_diff) = ⊥
ShowsNoRefusal (drain control timeout key member) = Unit {0}
ShowsNoRefusal (metrics control front timeout) = Unit {0}
ShowsNoRefusal (top control interval count timeout) = Unit {0}

-- the refusal is written
abbrev pub WritesRefusal : (files : KnownFiles) → WaitingRequest → (input before after told_before told_after : Option (List ℕ)) → Type 0
WritesRefusal files (flood workers datagrams) input before after told_before told_after = ⊥
WritesRefusal files (serve front control workers file logs receive buffer) input before after told_before told_after =
    RefusesService files front control file before after
WritesRefusal files (tell control timeout all words) input before after told_before told_after =
    IsToldRefusal control all words input before after told_before told_after
WritesRefusal files (rules control timeout) input before after told_before told_after = IsNoControlAddress control × Appends before after (codes "refused C1\n")
WritesRefusal files (load control timeout file only_check only_diff) input before after told_before told_after =
    RefusesLoad control (files file) before after only_check only_diff
WritesRefusal files (drain control timeout key member) input before after told_before told_after = RefusesDrain control key member before after
WritesRefusal files (metrics control front timeout) input before after told_before told_after =
    (IsNoControlAddress control ⊎ IsNoFront front) × Appends before after (codes "refused C1\n")
WritesRefusal files (top control interval count timeout) input before after told_before told_after =
    IsNoControlAddress control × Appends before after (codes "refused C1\n")

-- a beginning of a refusal of `serve` was written, or of what a switch writes that begins with the rules of the file, or without groups
pub data BeginsService (files : KnownFiles) (front control : Text) (workers : ℕ) (file : Option Text) (before after : Option (List ℕ)) : Type 0 where
  refusal_begun : Begins (RefusesService files front control file) before after → BeginsService files front control workers file before after
  service_begun : IsAddress front → IsControl control → (config : List Group) → IsOpening files file config → BeginsServedFrom config workers before after →
      BeginsService files front control workers file before after

-- `serve` for these addresses failed so; if no write failed the line `ready` was written or nothing, and nothing if a socket was
-- not bound or the rules file could not be read; if one failed, a beginning of what it writes; but for writes and memory it fails only if both
-- texts are addresses
pub record ServeFails (files : KnownFiles) (front control : Text) (workers : ℕ) (file : Option Text) (before after told_before told_after : Option (List ℕ))
    (failure : Failure) : Type 0 where
  pub no_read : file ≡ None → failure ≢ ReadFailed
  pub no_silence : failure ≢ NoAnswer
  pub no_rules_read : failure ≢ RulesChanged
  pub written : failure ≢ WriteFailed → WritesReadyOrNothing before after
  pub begun : failure ≡ WriteFailed → BeginsService files front control workers file before after
  pub not_bound : failure ≡ BindFailed → after ≡ before
  pub not_read : failure ≡ ReadFailed → after ≡ before
  pub are_addresses : failure ≢ WriteFailed → failure ≢ OutOfMemory → IsAddress front × IsControl control
  pub told : IsServeTold failure told_before told_after

abbrev pub EndsInServeFailure : KnownFiles → (front control : Text) → ℕ → Option Text → (before after told_before told_after : Option (List ℕ)) → Type 0
EndsInServeFailure files front control workers file before after told_before told_after =
    (failure : Failure) × ServeFails files front control workers file before after told_before told_after failure

-- the command failed
abbrev pub EndsInWaitingFailure : (files : KnownFiles) (terminal : Bool) → WaitingRequest → (input before after told_before told_after : Option (List ℕ)) → Type 0
EndsInWaitingFailure files terminal (flood workers datagrams) input before after told_before told_after =
    EndsInFloodFailure workers datagrams before after told_before told_after
EndsInWaitingFailure files terminal (serve front control workers file logs receive buffer) input before after told_before told_after =
    EndsInServeFailure files front control workers file before after told_before told_after
EndsInWaitingFailure files terminal (tell control timeout all lines) input before after told_before told_after =
    EndsInTellFailure control all lines input before after told_before told_after
EndsInWaitingFailure files terminal (rules control timeout) input before after told_before told_after =
    EndsInPrintFailure (PrintsRules control) (MayFailAsking ⊥ control) (Some control) before after told_before told_after
EndsInWaitingFailure files terminal (load control timeout file only_check only_diff) input before after told_before told_after =
    EndsInPrintFailure (PrintsLoad control (files file) only_check only_diff) (MayFailLoading control only_check) control before after told_before told_after
EndsInWaitingFailure files terminal (drain control timeout key member) input before after told_before told_after =
    EndsInPrintFailure (PrintsDrain control key member) (MayFailDraining control key member) (Some control) before after told_before told_after
EndsInWaitingFailure files terminal (metrics control front timeout) input before after told_before told_after =
    EndsInPrintFailure (PrintsMetrics control (files sockets_file) front) (MayFailMeasuring control front) (Some control) before after told_before told_after
EndsInWaitingFailure files terminal (top control interval count timeout) input before after told_before told_after =
    EndsInTopFailure control terminal count before after told_before told_after
