-- The knowledge of a switch from lines that change nothing: its configurations, and how often each event was counted.
use Rattle.std.specs.Prelude.{◌≡◌, ◌⊎◌, List, codes, ℕ}
use Rattle.std.specs.List.{All}
use Rattle.ipv4_fields.specs.declared.endpoint.Endpoint.{Endpoint}
use Rattle.control_client.specs.Exchange.{AreExchanged, Exchange}
use Rattle.control_client.specs.Wire.{Event, Logs}
use Rattle.control_rules.specs.History.{AreConfigs, ClientValue, History, IsReadLine, IsTrueTo}
use Rattle.control_counters.specs.Counts.{group_line, member_line}

-- a line that asks for counts
abbrev pub IsCountLine : List ℕ → Type 0
IsCountLine line =
    (line ≡ codes "totals") ⊎ (((key : Endpoint) × (line ≡ group_line key)) ⊎ ((key : Endpoint) × (id : ℕ) × (line ≡ member_line key id)))

-- a line that changes nothing: `show`, one that reads a part, or one that asks for counts
abbrev pub IsWatchLine : List ℕ → Type 0
IsWatchLine line = IsReadLine line ⊎ IsCountLine line

-- lines that change nothing were exchanged, and no others, and this is true of them for each history that their replies are true to
pub record Watches (before after : ClientValue) (Holds : History → List Exchange → Type 0) : Type 0 where
  pub told : List Exchange
  pub events : List Event
  pub are_exchanged : AreExchanged before.switch told events
  pub logged : Logs before.log after.log events
  pub same_switch : after.switch ≡ before.switch
  pub watches_only : All (λ one. IsWatchLine one.line) told
  pub holds : (history : History) → AreConfigs history → All (IsTrueTo history) told → Holds history told
