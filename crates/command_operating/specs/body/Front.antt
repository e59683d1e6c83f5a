-- The front of `metrics`.
use Rattle.std.specs.Prelude.{◌≡◌, ◌⊎◌, Err, List, None, Option, Result, Some, ℕ}
use Rattle.std.specs.Io.KnownBytes.{Appends}
use Rattle.clap.specs.Words.{Text}
use Rattle.ipv4_fields.specs.Endpoint.{IsEndpoint, endpoint_text}
use Rattle.ipv4_fields.specs.declared.endpoint.Endpoint.{Endpoint}
use Rattle.control_client.specs.declared.device.Peer.{Peer}
use Rattle.control_counters.specs.Reading.{AreCountersOf}
use Rattle.counter_text.specs.Metrics.{metrics_text}
use Rattle.counter_text.specs.declared.counters.Counters.{Counters}
use Rattle.counter_text.specs.declared.counters.FrontDrops.{FrontDrops}
use Rattle.command_line.specs.declared.ending.Failure.{Failure}
use Rattle.command_line.specs.declared.ending.Failure.TheVariants.{ReadFailed}
use Rattle.command_streams.specs.Failures.{InputFails}
use Rattle.command_operating.specs.Measured.{AreDropsBy, HasNoDrops, WatchesOf}

-- the endpoint of the text, if one is given
abbrev pub IsGivenFront : Option Text → Option Endpoint → Type 0
IsGivenFront None None = Unit {0}
IsGivenFront None (Some endpoint) = ⊥
IsGivenFront (Some text) None = ⊥
IsGivenFront (Some text) (Some endpoint) = IsEndpoint endpoint × (text ≡ endpoint_text endpoint)

-- the drops at an endpoint, if there is one
abbrev pub IsFrontOf : Option (List ℕ) → Option Endpoint → Option FrontDrops → Type 0
IsFrontOf known None None = Unit {0}
IsFrontOf known None (Some it) = ⊥
IsFrontOf known (Some front) None = ⊥
IsFrontOf known (Some front) (Some it) = (it.front ≡ front) × AreDropsBy known it

pub record WritesCounters (switch : Peer) (known : Option (List ℕ)) (front : Option Endpoint) (before after : Option (List ℕ)) : Type 0 where
  pub counters : Counters
  pub drops : Option FrontDrops
  pub are_counters : WatchesOf switch (λ history told. AreCountersOf history told counters)
  pub are_drops : IsFrontOf known front drops
  pub written : Appends before after (metrics_text counters drops)

-- a table, if it is known, has no drops of the front that is given
abbrev pub IsDropless : Option (List ℕ) → Option Endpoint → Type 0
IsDropless known None = ⊥
IsDropless known (Some front) = HasNoDrops known front

-- a call failed to read only if one read failed, or if the table was read and has no drops of the front; and then no read failed
abbrev pub FailsByTable : {A : Type 0} → Result A Failure → Option (List ℕ) → Option Endpoint → ℕ → ℕ → Type 0
FailsByTable result known front before after =
    InputFails result before after ⊎ ((result ≡ Err ReadFailed) × IsDropless known front × (after ≡ before))
