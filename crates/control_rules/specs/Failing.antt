-- How a call fails that asks a switch: lines were exchanged, and then one more failed, or memory was refused.
use Rattle.std.specs.Prelude.{◌≡◌, List, Option, ℕ}
use Rattle.std.specs.List.{All}
use Rattle.control_client.specs.Exchange.{AreExchanged, Exchange}
use Rattle.control_client.specs.Wire.{Event, Logs}
use Rattle.control_client.specs.declared.device.Peer.{Peer}
use Rattle.control_rules.specs.Asked.{AskEndsBy}
use Rattle.control_rules.specs.History.{ClientValue}
use Rattle.control_rules.specs.declared.ask_failure.AskFailure.{AskFailure}
use Rattle.control_rules.specs.declared.ask_failure.AskFailure.TheVariants.{OutOfMemory}

-- a line of this kind failed so, or memory was refused and no line was sent
pub data StopsBy (IsLine : List ℕ → Type 0) (failure : AskFailure) (switch : Peer) (log log' : Option (List Event)) : Type 0 where
  line_failed : (line : List ℕ) → IsLine line → AskEndsBy failure switch line log log' → StopsBy IsLine failure switch log log'
  no_memory : failure ≡ OutOfMemory → log' ≡ log → StopsBy IsLine failure switch log log'

-- lines of this kind were exchanged, and no others; then one more failed so, or memory was refused. Nothing happened after that
pub record StopsAsking (IsLine : List ℕ → Type 0) (failure : AskFailure) (before after : ClientValue) : Type 0 where
  pub told : List Exchange
  pub events : List Event
  pub log_then : Option (List Event)
  pub are_exchanged : AreExchanged before.switch told events
  pub logged : Logs before.log log_then events
  pub only : All (λ one. IsLine one.line) told
  pub stopped : StopsBy IsLine failure before.switch log_then after.log
  pub same_switch : after.switch ≡ before.switch
