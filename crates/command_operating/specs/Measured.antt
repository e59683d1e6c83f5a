-- The output of the commands `metrics` and `top`, by the counters of a switch (docs/COMMANDS.md, "metrics", "top").
use Rattle.std.specs.Prelude.{◌≡◌, ◌≢◌, ◌≤◌, ◌<◌, ◌+◌, ◌⊎◌, ◌++◌, ◌∷◌, Bool, List, None, Option, Some, [], codes, false, true, ℕ}
use Rattle.std.specs.Io.KnownBytes.{Appends}
use Rattle.std.specs.List.{All}
use Rattle.clap.specs.Words.{Text}
use Rattle.ipv4_fields.specs.Endpoint.{IsEndpoint, endpoint_text}
use Rattle.ipv4_fields.specs.declared.endpoint.Endpoint.{Endpoint}
use Rattle.command_line.specs.ControlAddress.{IsNoControlAddress, SpellsControlAddress}
use Rattle.command_line.specs.declared.control_address.ControlAddress.{ControlAddress}
use Rattle.command_line.specs.declared.ending.Failure.{Failure}
use Rattle.command_line.specs.declared.ending.Failure.TheVariants.{ReadFailed, WriteFailed}
use Rattle.command_line.specs.Input.{IsInput}
use Rattle.command_line.specs.declared.ending.Status.{Status}
use Rattle.command_line.specs.declared.ending.Status.TheVariants.{Failed}
use Rattle.command_streams.specs.Endings.{EndsByOneCause}
use Rattle.command_streams.specs.Failures.{FailuresValue}
use Rattle.control_client.specs.Exchange.{AreExchanged, Exchange}
use Rattle.control_client.specs.Wire.{Event, peer_of}
use Rattle.control_client.specs.declared.device.Peer.{Peer}
use Rattle.control_rules.specs.History.{AreConfigs, History, IsTrueTo}
use Rattle.control_counters.specs.Reading.{AreCountersOf}
use Rattle.counter_text.specs.Metrics.{metrics_text}
use Rattle.counter_text.specs.Screen.{screen_text}
use Rattle.counter_text.specs.Sockets.{AreDropsAt}
use Rattle.counter_text.specs.declared.counters.Counters.{Counters}
use Rattle.counter_text.specs.declared.counters.FrontDrops.{FrontDrops}
use Rattle.command_operating.specs.Printing.{Begins, MayFailAsking}
use Rattle.command_operating.specs.Reported.{IsTold}

-- lines were exchanged with a switch, and this is so of them and of each switch of which all their replies are true
pub record WatchesOf (switch : Peer) (Holds : History → List Exchange → Type 0) : Type 0 where
  pub told : List Exchange
  pub events : List Event
  pub are_exchanged : AreExchanged switch told events
  pub holds : (history : History) → AreConfigs history → All (IsTrueTo history) told → Holds history told

-- ---- `metrics`

-- the drops at a front, by a table of sockets
abbrev pub AreDropsBy : Option (List ℕ) → FrontDrops → Type 0
AreDropsBy known it = (table : List ℕ) × IsInput known table × AreDropsAt it.front table it.drops

-- the drops at the front that is given; none if no front is given
abbrev pub AreFrontDrops : Option (List ℕ) → Option Text → Option FrontDrops → Type 0
AreFrontDrops known None None = Unit {0}
AreFrontDrops known None (Some it) = ⊥
AreFrontDrops known (Some front) None = ⊥
AreFrontDrops known (Some front) (Some it) = IsEndpoint it.front × (front ≡ endpoint_text it.front) × AreDropsBy known it

-- the counters of the switch at the address were read, and written with the drops at the front by a table of sockets
pub record WritesMetrics (control : Text) (known : Option (List ℕ)) (front : Option Text) (before after : Option (List ℕ)) : Type 0 where
  pub address : ControlAddress
  pub is_address : SpellsControlAddress control address
  pub counters : Counters
  pub drops : Option FrontDrops
  pub are_counters : WatchesOf (peer_of address) (λ history told. AreCountersOf history told counters)
  pub are_drops : AreFrontDrops known front drops
  pub written : Appends before after (metrics_text counters drops)

-- a front is given, and is no endpoint
abbrev pub IsNoFront : Option Text → Type 0
IsNoFront None = ⊥
IsNoFront (Some front) = (endpoint : Endpoint) → IsEndpoint endpoint → front ≢ endpoint_text endpoint

-- what `metrics` writes: the counters, or that it is given no address or no front
abbrev pub PrintsMetrics : Text → Option (List ℕ) → Option Text → (before after : Option (List ℕ)) → Type 0
PrintsMetrics control known front before after =
    WritesMetrics control known front before after ⊎ ((IsNoControlAddress control ⊎ IsNoFront front) × Appends before after (codes "refused C1\n"))

-- why it may fail: it is given an address and no bad front, and reads a file only for a front
abbrev pub MayFailMeasuring : Text → Option Text → Failure → Type 0
MayFailMeasuring control front failure = (IsNoFront front → ⊥) × MayFailAsking (front ≢ None) control failure

-- the file that is the kernel's table of UDP sockets
abbrev pub sockets_file : List ℕ
sockets_file = codes "/proc/net/udp"

-- a table, if it is known, has no socket at the front, or tells no sum of what was dropped there
abbrev pub HasNoDrops : Option (List ℕ) → Endpoint → Type 0
HasNoDrops known front = (table : List ℕ) × IsInput known table × ((n : ℕ) → AreDropsAt front table n → ⊥)

-- the same of the front of a text, if one is given
abbrev pub ShowsNoDrops : Option (List ℕ) → Option Text → Type 0
ShowsNoDrops known None = ⊥
ShowsNoDrops known (Some text) = (front : Endpoint) × IsEndpoint front × (text ≡ endpoint_text front) × HasNoDrops known front

-- `metrics` ended by one cause as other commands do; or it reported that it could not read, since the table was read and has no drops of
-- the front, and then no read, write or flush failed
abbrev pub EndsByCauseOrTable :
    (Failure → Type 0) → Option (List ℕ) → Option Text → Status → (read read' : ℕ) → (written written' : FailuresValue) → Type 0
EndsByCauseOrTable Reports known front status read read' written written' =
    EndsByOneCause Reports status read read' written written'
    ⊎ ((status ≡ Failed) × Reports ReadFailed × ShowsNoDrops known front × (read' ≡ read) × (written' ≡ written))

-- ---- `top`

-- the prefix of a screen on a terminal: the cursor goes to the first place, and all from there on is cleared
abbrev pub clear_text : Bool → List ℕ
clear_text true = 27 ∷ 91 ∷ 72 ∷ 27 ∷ 91 ∷ 74 ∷ []
clear_text false = []

-- so many screens, each of two readings one after the other, and the last of these readings
pub data AreScreens (history : History) (clears : Bool) : ℕ → List Exchange → Counters → List ℕ → Type 0 where
  first_reading : (told : List Exchange) (first : Counters) → AreCountersOf history told first → AreScreens history clears 0 told first []
  one_more : (count : ℕ) (told more : List Exchange) (earlier later : Counters) (text : List ℕ) (millis : ℕ) →
      AreScreens history clears count told earlier text → AreCountersOf history more later → 1000 ≤ millis →
      AreScreens history clears (count + 1) (told ++ more) later (text ++ (clear_text clears ++ screen_text earlier later millis))

-- so many screens of the switch were written
pub record WritesScreens (switch : Peer) (clears : Bool) (count : ℕ) (before after : Option (List ℕ)) : Type 0 where
  pub text : List ℕ
  pub last : Counters
  pub are_screens : WatchesOf switch (λ history told. AreScreens history clears count told last text)
  pub written : Appends before after text

pub record WritesTop (control : Text) (clears : Bool) (count : ℕ) (before after : Option (List ℕ)) : Type 0 where
  pub address : ControlAddress
  pub is_address : SpellsControlAddress control address
  pub written : WritesScreens (peer_of address) clears count before after

-- what `top` writes: at most so many screens, or that it is given no address
abbrev pub PrintsTop : Text → Bool → ℕ → Option (List ℕ) → Option (List ℕ) → Type 0
PrintsTop control clears count before after =
    ((shown : ℕ) × (shown ≤ count) × WritesTop control clears shown before after) ⊎ (IsNoControlAddress control × Appends before after (codes "refused C1\n"))

-- it failed so, and reads no file; but for writes whole screens were written, and fewer than were wanted, or nothing; if a write failed, a
-- beginning of what it writes
pub record TopFails (control : Text) (clears : Bool) (count : ℕ) (before after told_before told_after : Option (List ℕ)) (failure : Failure) : Type 0 where
  pub reason : failure ≢ WriteFailed → MayFailAsking ⊥ control failure
  pub written : failure ≢ WriteFailed → (after ≡ before) ⊎ ((shown : ℕ) × (shown < count) × WritesTop control clears shown before after)
  pub begun : failure ≡ WriteFailed → Begins (PrintsTop control clears count) before after
  pub told : IsTold (Some control) failure told_before told_after

abbrev pub EndsInTopFailure : Text → Bool → ℕ → (before after told_before told_after : Option (List ℕ)) → Type 0
EndsInTopFailure control clears count before after told_before told_after =
    (failure : Failure) × TopFails control clears count before after told_before told_after failure
