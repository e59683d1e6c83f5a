-- The wire to a switch as contracts see it: what was sent, what came, when nothing came in time, and each failure.
use Rattle.std.specs.Prelude.{◌≡◌, ◌++◌, ◌∷◌, Err, List, None, Ok, Option, Result, Some, [], take, ℕ}
use Rattle.command_line.specs.declared.control_address.ControlAddress.{ControlAddress}
use Rattle.command_line.specs.declared.control_address.ControlAddress.TheVariants as address
use Rattle.control_client.specs.declared.device.Peer.{Peer}
use Rattle.control_client.specs.declared.device.Peer.TheVariants.{Udp, Unix}
use Rattle.control_client.specs.declared.device.Came.{Came}

-- the other end of a wire to this address
abbrev pub peer_of : ControlAddress → Peer
peer_of (address.Udp endpoint) = Udp endpoint
peer_of (address.Unix path) = Unix

-- one thing that happened: a request was sent, or sending it failed; a reply came, none came in time, or waiting for one failed
pub data Event : Type 0 where
  sent : (to : Peer) (bytes : List ℕ) → Event
  send_failed : (to : Peer) (bytes : List ℕ) → Event
  came : (from : Peer) (bytes : List ℕ) → Event
  none_came : Event
  wait_failed : Event

-- the log of a wire is what it was before, and then these events; a wire may have no log
abbrev pub Logs : Option (List Event) → Option (List Event) → List Event → Type 0
Logs None later events = Unit {0}
Logs (Some log) None events = ⊥
Logs (Some log) (Some later) events = later ≡ log ++ events

-- the events of a send that ended so
abbrev pub sent_by : {E : Type 0} → Result (Unit {0}) E → Peer → List ℕ → List Event
sent_by (Ok done) to bytes = sent to bytes ∷ []
sent_by (Err fault) to bytes = send_failed to bytes ∷ []

-- the events of a receive that ended so, and whose buffer then has these bytes
abbrev pub came_by : {E : Type 0} → Result (Option Came) E → List ℕ → List Event
came_by (Ok (Some one)) buffer = came one.from (take one.len buffer) ∷ []
came_by (Ok None) buffer = none_came ∷ []
came_by (Err fault) buffer = wait_failed ∷ []
