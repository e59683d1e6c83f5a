-- The screens of `top`, over a wire of any kind.
use Rattle.std.specs.Prelude.{◌≡◌, ◌≤◌, ◌<◌, ◌++◌, ◌⊎◌, Bool, List, Option, Some, ℕ}
use Rattle.std.specs.Borrow.{Bor}
use Rattle.std.specs.Io.KnownBytes.{Appends}
use Rattle.control_client.specs.declared.device.Peer.{Peer}
use Rattle.control_rules.specs.History.{ClientValue}
use Rattle.control_counters.specs.Reading.{AreCountersOf, IsKnown}
use Rattle.control_counters.specs.Watching.{Watches}
use Rattle.counter_text.specs.Screen.{screen_text}
use Rattle.counter_text.specs.declared.counters.Counters.{Counters}
use Rattle.command_operating.specs.Measured.{AreScreens, WritesScreens, clear_text}
use Rattle.command_operating.specs.Printing.{Begins}

-- one screen more
pub record ShowsMore (clears : Bool) (earlier : Bor Counters) (before after : ClientValue) (out out' : Option (List ℕ)) (later : Counters) : Type 0 where
  pub millis : ℕ
  pub long : 1000 ≤ millis
  pub watches : Watches before after (λ history told. IsKnown history (Some earlier) → AreCountersOf history told later)
  pub written : Appends out out' (clear_text clears ++ screen_text earlier.now later millis)

-- a beginning of one
abbrev pub BeginsMore : Bool → Bor Counters → ClientValue → ClientValue → Option (List ℕ) → Option (List ℕ) → Type 0
BeginsMore clears earlier before after out out' = Begins (λ start end. (later : Counters) × ShowsMore clears earlier before after start end later) out out'

-- so many screens
pub record Shows (clears : Bool) (count : ℕ) (before after : ClientValue) (out out' : Option (List ℕ)) : Type 0 where
  pub text : List ℕ
  pub last : Counters
  pub watches : Watches before after (λ history told. AreScreens history clears count told last text)
  pub written : Appends out out' text

-- fewer screens, or nothing
abbrev pub ShowsFewer : Bool → ℕ → Peer → Option (List ℕ) → Option (List ℕ) → Type 0
ShowsFewer clears count switch out out' = (out' ≡ out) ⊎ ((shown : ℕ) × (shown < count) × WritesScreens switch clears shown out out')

-- a beginning of at most so many
abbrev pub BeginsScreens : Bool → ℕ → Peer → Option (List ℕ) → Option (List ℕ) → Type 0
BeginsScreens clears count switch out out' = Begins (λ start end. (shown : ℕ) × (shown ≤ count) × WritesScreens switch clears shown start end) out out'
