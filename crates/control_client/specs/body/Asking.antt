-- The replies that come while a line waits for its own.
use Rattle.std.specs.Prelude.{◌≡◌, ◌<◌, ◌++◌, ◌∷◌, List, Option, [], length, ℕ}
use Rattle.std.specs.List.{All}
use Rattle.control_client.specs.declared.device.Peer.{Peer}
use Rattle.control_client.specs.declared.asking.TheConstants.{FOREIGN_LIMIT}
use Rattle.command_line.specs.declared.ending.Failure.{Failure}
use Rattle.command_line.specs.declared.ending.Failure.TheVariants.{NoAnswer, PollFailed}
use Rattle.control_client.specs.Exchange.{IsForeign}
use Rattle.control_client.specs.Wire.{Event, Logs, came, none_came, wait_failed}

-- replies from elsewhere came
pub record Passes (switch : Peer) (passed : List Event) (log log' : Option (List Event)) : Type 0 where
  pub are_foreign : All (IsForeign switch) passed
  pub logged : Logs log log' passed

-- then one came from the switch
pub record Hears (switch : Peer) (reply : List ℕ) (log log' : Option (List Event)) : Type 0 where
  pub passed : List Event
  pub are_foreign : All (IsForeign switch) passed
  pub few : length passed < FOREIGN_LIMIT
  pub logged : Logs log log' (passed ++ came switch reply ∷ [])

-- then none came in time, or those were too many, or waiting failed
pub data HearsNone : Failure → (switch : Peer) → (log log' : Option (List Event)) → Type 0 where
  out_of_time : (switch : Peer) (log log' : Option (List Event)) (passed : List Event) → All (IsForeign switch) passed →
      length passed < FOREIGN_LIMIT → Logs log log' (passed ++ none_came ∷ []) → HearsNone NoAnswer switch log log'
  too_many : (switch : Peer) (log log' : Option (List Event)) (passed : List Event) → All (IsForeign switch) passed →
      length passed ≡ FOREIGN_LIMIT → Logs log log' passed → HearsNone NoAnswer switch log log'
  broken : (switch : Peer) (log log' : Option (List Event)) (passed : List Event) → All (IsForeign switch) passed →
      length passed < FOREIGN_LIMIT → Logs log log' (passed ++ wait_failed ∷ []) → HearsNone PollFailed switch log log'
