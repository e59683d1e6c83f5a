-- A turn of control, one datagram after the other.
use Rattle.std.specs.Prelude.{◌≡◌, ◌+◌, ◌++◌, ◌∷◌, Bool, List, Option, Some, [], false, true, ℕ}
use Rattle.dispatch.specs.Device.{Takes}
use Rattle.serve_control.specs.Answer.{AnswersDatagram, Service}
use Rattle.serve_control.specs.declared.ignored.BoundAddresses.{BoundAddresses}
use Rattle.ipv4_fields.specs.declared.endpoint.Endpoint.{Endpoint}
use Rattle.serve_control.specs.declared.ControlAnswer.{ControlAnswer}
use Rattle.serve_udp.specs.Control.{AnswersInTurn, ControlEvent, IsRepliedTo, is_stop, none_came}
use Rattle.serve_udp.specs.declared.control_turn.Next.{Next}
use Rattle.serve_udp.specs.declared.control_turn.Next.TheVariants as next

-- so many receives of a turn were made
pub record IsBegun (room : ℕ) (bound : BoundAddresses) (count : ℕ) (log log' : Option (List ControlEvent)) (before after : Service) : Type 0 where
  pub events : List ControlEvent
  pub logged : Takes log log' events
  pub answered_each : AnswersInTurn room bound before count events false after

-- one more receive was made, whatever happened before in the turn
pub record ReceivesOne (room : ℕ) (bound : BoundAddresses) (log log' : Option (List ControlEvent)) (before after : Service) (stops : Bool) : Type 0 where
  pub events : List ControlEvent
  pub logged : Takes log log' events
  pub goes_on : (first : Service) (count : ℕ) (earlier : List ControlEvent) → AnswersInTurn room bound first count earlier false before
      → AnswersInTurn room bound first (count + 1) (earlier ++ events) stops after

-- or none came
abbrev pub GoesOnBy : ℕ → BoundAddresses → Option (List ControlEvent) → Option (List ControlEvent) → Service → Service → Next → Type 0
GoesOnBy room bound log log' before after next.Answered = ReceivesOne room bound log log' before after false
GoesOnBy room bound log log' before after next.Nothing = (after ≡ before) × Takes log log' (none_came ∷ [])
GoesOnBy room bound log log' before after next.Stop = ReceivesOne room bound log log' before after true

-- an answer was sent back
pub record IsSentBack (log log' : Option (List ControlEvent)) (to : Endpoint) (answer : ControlAnswer) : Type 0 where
  pub events : List ControlEvent
  pub logged : Takes log log' events
  pub replied_to : IsRepliedTo to (Some answer) events

-- a datagram that came was answered, and had its reply
pub record AnswersOne (bound : BoundAddresses) (from : Endpoint) (text : List ℕ) (log log' : Option (List ControlEvent)) (before after : Service) (stops : Bool) : Type 0 where
  pub answer : Option ControlAnswer
  pub replies : List ControlEvent
  pub answered : AnswersDatagram bound from text before after answer
  pub logged : Takes log log' replies
  pub replied_to : IsRepliedTo from answer replies
  pub stopped : stops ≡ is_stop answer
