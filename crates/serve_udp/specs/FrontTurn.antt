-- What contracts see of a turn of the front: its receives, and what was handed to the workers (docs/COMMANDS.md, "serve").
use Rattle.std.specs.Prelude.{◌≡◌, ◌++◌, ◌<◌, ◌≤◌, ◌∷◌, Bool, List, None, Option, Some, [], false, length, map, take, true, ℕ}
use Rattle.dispatch.specs.Device.{Takes}
use Rattle.serve_devices.specs.Ingress.{Receive, cut_to}
use Rattle.serve_devices.specs.Queues.{HandsOn, QueuesValue, next_turn}
use Rattle.serve_udp.specs.declared.front_turn.Arrived.{Arrived}
use Rattle.serve_udp.specs.declared.front_turn.Arrived.TheVariants.{Datagram, Failed, Nothing}
use Rattle.serve_udp.specs.declared.front_turn.TheConstants.{FRONT_TURN}

-- a receive of the front: a datagram, whole, or a failure; or nothing had come
pub data FrontEvent : Type 0 where
  came : Receive → FrontEvent
  none_came : FrontEvent

-- a receive found this, and its buffer then has these bytes: of a datagram longer than the buffer, only the first
abbrev pub CameBy : Option (List FrontEvent) → Option (List FrontEvent) → Arrived → List ℕ → Type 0
CameBy log log' (Datagram size) buffer =
    (whole : List ℕ) × Takes log log' (came (Some whole) ∷ []) × (take size buffer ≡ take (length buffer) whole)
CameBy log log' Nothing buffer = Takes log log' (none_came ∷ [])
CameBy log log' Failed buffer = Takes log log' (came None ∷ [])

-- a datagram is within its buffer
abbrev pub IsWithin : ℕ → Arrived → Type 0
IsWithin room (Datagram size) = size ≤ room
IsWithin room Nothing = Unit {0}
IsWithin room Failed = Unit {0}

-- these receives were handed on, in order, each to the worker whose turn it was
pub data AreHandedOn (before : QueuesValue) : List Receive → QueuesValue → Type 0 where
  none : (after : QueuesValue) → after ≡ before → AreHandedOn before [] after
  one_more : (receives : List Receive) (receive : Receive) (mid after : QueuesValue) → AreHandedOn before receives mid → HandsOn mid after receive
      → after.turn ≡ next_turn mid → AreHandedOn before (receives ++ receive ∷ []) after

-- a turn has this many receives, or it ended before, at the first by which nothing came; `last` are the receives after those that were handed on
abbrev pub EndsFrontTurn : Bool → ℕ → List FrontEvent → Type 0
EndsFrontTurn true count last = (count ≡ FRONT_TURN) × (last ≡ [])
EndsFrontTurn false count last = (count < FRONT_TURN) × (last ≡ none_came ∷ [])

-- the receives of a turn, as far as they are known, and what was handed on: each, cut to the room for a datagram, and nothing else
pub record IsFrontTurn (room : ℕ) (log log' : Option (List FrontEvent)) (before after : QueuesValue) (is_ready : Bool) : Type 0 where
  pub receives : List Receive
  pub last : List FrontEvent
  pub logged : Takes log log' (map came receives ++ last)
  pub handed_on : AreHandedOn before (cut_to room receives) after
  pub ends : EndsFrontTurn is_ready (length receives) last
