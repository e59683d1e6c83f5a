-- What contracts see of control over datagrams: the datagrams that came, and the replies (docs/COMMANDS.md, "serve").
use Rattle.std.specs.Prelude.{◌≡◌, ◌+◌, ◌++◌, ◌∷◌, ◌≤◌, Bool, List, None, Option, Some, [], false, length, take, true, ℕ}
use Rattle.dispatch.specs.Device.{Takes}
use Rattle.ipv4_fields.specs.declared.endpoint.Endpoint.{Endpoint}
use Rattle.serve_control.specs.Answer.{AnswersDatagram, IsTotals, Service, bytes_of}
use Rattle.serve_control.specs.declared.ControlAnswer.{ControlAnswer}
use Rattle.serve_control.specs.declared.ControlAnswer.TheVariants.{Line, Stop, Totals as TotalsAnswer}
use Rattle.serve_control.specs.declared.ignored.BoundAddresses.{BoundAddresses}
use Rattle.serve_udp.specs.declared.control_turn.TheConstants.{CONTROL_TURN}
use Rattle.serve_udp.specs.declared.control_turn.Asked.{Asked}
use Rattle.serve_udp.specs.declared.control_turn.Asked.TheVariants.{Datagram, Failed, Nothing}
use Rattle.serve_udp.specs.declared.control_turn.Next.{Next}
use Rattle.serve_udp.specs.declared.control_turn.Next.TheVariants as next

-- one thing that happened: a datagram came, whole, or none, or a receive failed; or a reply was sent
pub data ControlEvent : Type 0 where
  came : (from : Endpoint) (text : List ℕ) → ControlEvent
  none_came : ControlEvent
  receive_failed : ControlEvent
  replied : (to : Endpoint) (bytes : List ℕ) → ControlEvent

-- a receive found this, and its buffer then has these bytes: of a datagram longer than the buffer, only the first
abbrev pub CameBy : Option (List ControlEvent) → Option (List ControlEvent) → Asked → List ℕ → Type 0
CameBy log log' (Datagram from len) buffer =
    (whole : List ℕ) × Takes log log' (came from whole ∷ []) × (take len buffer ≡ take (length buffer) whole)
CameBy log log' Nothing buffer = Takes log log' (none_came ∷ [])
CameBy log log' Failed buffer = Takes log log' (receive_failed ∷ [])

-- a datagram is within its buffer
abbrev pub IsWithin : ℕ → Asked → Type 0
IsWithin room (Datagram from len) = len ≤ room
IsWithin room Nothing = Unit {0}
IsWithin room Failed = Unit {0}

-- one reply is sent to a sender that is not ignored, and none to one that is; the line of the totals is not sent if memory for it
-- is refused
pub data IsRepliedTo (from : Endpoint) : Option ControlAnswer → List ControlEvent → Type 0 where
  ignored : IsRepliedTo from None []
  answered : (answer : ControlAnswer) → IsRepliedTo from (Some answer) (replied from (bytes_of answer) ∷ [])
  no_memory : (answer : ControlAnswer) → IsTotals answer → IsRepliedTo from (Some answer) []

-- the answer is that the switch stops
abbrev pub is_stop : Option ControlAnswer → Bool
is_stop None = false
is_stop (Some Stop) = true
is_stop (Some (TotalsAnswer totals)) = false
is_stop (Some (Line reply)) = false

-- This many receives were made, one after the other, with this room for a datagram. A receive that failed is ignored. Each datagram
-- that came was answered, cut to the room, and had its reply, before the next receive, and no receive was made after a datagram that
-- asked to stop. The truth value says whether the last one did.
pub data AnswersInTurn (room : ℕ) (bound : BoundAddresses) (before : Service) : ℕ → List ControlEvent → Bool → Service → Type 0 where
  none : (after : Service) → after ≡ before → AnswersInTurn room bound before 0 [] false after
  one_more : (count : ℕ) (events replies : List ControlEvent) (mid after : Service) (from : Endpoint) (whole : List ℕ) (answer : Option ControlAnswer)
      → AnswersInTurn room bound before count events false mid → AnswersDatagram bound from (take room whole) mid after answer → IsRepliedTo from answer replies
      → AnswersInTurn room bound before (count + 1) (events ++ came from whole ∷ replies) (is_stop answer) after
  one_failed : (count : ℕ) (events : List ControlEvent) (after : Service) → AnswersInTurn room bound before count events false after
      → AnswersInTurn room bound before (count + 1) (events ++ receive_failed ∷ []) false after

-- the turn ended at a request to stop
abbrev pub stops_at : Next → Bool
stops_at next.Answered = false
stops_at next.Nothing = false
stops_at next.Stop = true

-- A turn ends at a request to stop, after `CONTROL_TURN` receives, or with one by which none came. `last` is what happened after the receives
-- that were counted.
abbrev pub EndsTurn : Next → ℕ → List ControlEvent → Type 0
EndsTurn next.Answered count last = (count ≡ CONTROL_TURN) × (last ≡ [])
EndsTurn next.Nothing count last = last ≡ none_came ∷ []
EndsTurn next.Stop count last = last ≡ []

-- this happened in a turn that ended so, as far as the log is known; there is this room for a datagram
pub record IsControlTurn (room : ℕ) (bound : BoundAddresses) (log log' : Option (List ControlEvent)) (before after : Service) (ended : Next) : Type 0 where
  pub count : ℕ
  pub events : List ControlEvent
  pub last : List ControlEvent
  pub logged : Takes log log' (events ++ last)
  pub answered_each : AnswersInTurn room bound before count events (stops_at ended) after
  pub ends : EndsTurn ended count last
