-- The effect of `tell`: which requests were exchanged, what was printed, and what was shown (docs/COMMANDS.md, "tell").
use Rattle.std.specs.Prelude.{◌≡◌, ◌++◌, ◌∷◌, ◌⊎◌, Bool, List, None, Option, [], ℕ}
use Rattle.std.specs.Io.KnownBytes.{Appends}
use Rattle.control_line.specs.Answer.{NumberedLine}
use Rattle.control_client.specs.declared.device.Peer.{Peer}
use Rattle.command_line.specs.declared.ending.Failure.{Failure}
use Rattle.command_line.specs.declared.ending.Failure.TheVariants.{BindFailed, OutOfMemory, PollFailed, ReadFailed}
use Rattle.control_client.specs.Exchange.{AreExchanged, IsExchange, LineEndsBy, has_refusal, is_refusal, reply_line, text_of}
use Rattle.control_client.specs.Lines.{AreAll, AreFirst, IsChangeOf, Request}
use Rattle.control_client.specs.Refused.{Refusal, ShowsAll, ShowsIf, Told, exchanges_of, refusal_of, refusals_of, requests_of}
use Rattle.control_client.specs.Wire.{Event, Logs}

-- how it ends by a fault after these requests: no further one was given, or one was, and that ended so
abbrev pub StopsBehind : Failure → Peer → Option (List NumberedLine) → List Request → Option (List Event) → Option (List Event)
    → Option (List ℕ) → Option (List ℕ) → Type 0
StopsBehind ReadFailed switch coming requests log log' out out' = AreFirst coming requests × (log' ≡ log) × (out' ≡ out)
StopsBehind OutOfMemory switch coming requests log log' out out' = AreFirst coming requests × (log' ≡ log) × (out' ≡ out)
StopsBehind fault switch coming requests log log' out out' =
    (request : Request) × AreFirst coming (requests ++ request ∷ []) × LineEndsBy fault switch request.text log log' out out'

-- why a socket is not made
abbrev pub IsMakingFault : Failure → Type 0
IsMakingFault fault = (fault ≡ BindFailed) ⊎ (fault ≡ PollFailed) ⊎ (fault ≡ OutOfMemory)

-- how it ends by a fault if all lines are one change: the change was not made, or it was, and its exchange ended so
abbrev pub ChangeEndsBy : Failure → Peer → Option (List NumberedLine) → Option (List Event) → Option (List Event) → Option (List ℕ) → Option (List ℕ) → Type 0
ChangeEndsBy ReadFailed switch coming log log' out out' = (log' ≡ log) × (out' ≡ out)
ChangeEndsBy OutOfMemory switch coming log log' out out' = (log' ≡ log) × (out' ≡ out)
ChangeEndsBy fault switch coming log log' out out' =
    (request : Request) × IsChangeOf coming request × LineEndsBy fault switch request.text log log' out out'

-- over a socket it ended by a fault: the socket was not made, and nothing was printed, or the change ended so
pub data ChangeStopsOverSocket (fault : Failure) (switch : Peer) (coming : Option (List NumberedLine)) (out out' : Option (List ℕ)) : Type 0 where
  socket_not_made : IsMakingFault fault → out' ≡ out → ChangeStopsOverSocket fault switch coming out out'
  change_stopped : ChangeEndsBy fault switch coming None None out out' → ChangeStopsOverSocket fault switch coming out out'

-- requests that are not done are shown so, by what a state was and then is
module _ {S : Type 0} (Shows : S → S → Refusal → Type 0) where
  -- the request was exchanged, its reply printed, and shown if it was not done
  pub record RequestTold (switch : Peer) (request : Request) (log log' : Option (List Event)) (out out' : Option (List ℕ)) (shown shown' : S) (refused : Bool) : Type 0 where
    pub reply : List ℕ
    pub events : List Event
    pub is_exchange : IsExchange switch request.text reply events
    pub logged : Logs log log' events
    pub printed : Appends out out' (reply_line reply)
    pub refused_is : refused ≡ is_refusal reply
    pub shown_if : ShowsIf Shows shown shown' (refusal_of (record { request = request; reply = reply })) refused

  -- all requests were exchanged, in order, their replies were printed and those that were not done shown, and nothing else
  pub record TellsAll (switch : Peer) (coming : Option (List NumberedLine)) (log log' : Option (List Event)) (out out' : Option (List ℕ)) (shown shown' : S) (refused : Bool) : Type 0 where
    pub told : List Told
    pub events : List Event
    pub all_lines : AreAll coming (requests_of told)
    pub are_exchanged : AreExchanged switch (exchanges_of told) events
    pub logged : Logs log log' events
    pub printed : Appends out out' (text_of (exchanges_of told))
    pub refused_is : refused ≡ has_refusal (exchanges_of told)
    pub all_shown : ShowsAll Shows shown shown' (refusals_of told)

  -- the first requests were exchanged, their replies printed and those that were not done shown, then it ended by a fault; nothing was
  -- sent after that
  pub record TellsFirst (fault : Failure) (switch : Peer) (coming : Option (List NumberedLine)) (log log' : Option (List Event)) (out out' : Option (List ℕ)) (shown shown' : S) : Type 0 where
    pub told : List Told
    pub events : List Event
    pub log_then : Option (List Event)
    pub out_then : Option (List ℕ)
    pub are_exchanged : AreExchanged switch (exchanges_of told) events
    pub logged : Logs log log_then events
    pub printed : Appends out out_then (text_of (exchanges_of told))
    pub first_shown : ShowsAll Shows shown shown' (refusals_of told)
    pub stopped : StopsBehind fault switch coming (requests_of told) log_then log' out_then out'

  -- over a socket it ended by a fault: the socket was not made, and nothing was printed or shown, or after the first requests.
  -- Nothing is known of what happens on the socket
  pub data StopsOverSocket (fault : Failure) (switch : Peer) (coming : Option (List NumberedLine)) (out out' : Option (List ℕ)) (shown shown' : S) : Type 0 where
    not_made : IsMakingFault fault → out' ≡ out → shown' ≡ shown → StopsOverSocket fault switch coming out out' shown shown'
    stopped_behind : TellsFirst fault switch coming None None out out' shown shown' → StopsOverSocket fault switch coming out out' shown shown'

  -- all lines as one change: it was exchanged and its reply printed, and shown if it was not done
  pub record TellsChange (switch : Peer) (coming : Option (List NumberedLine)) (log log' : Option (List Event)) (out out' : Option (List ℕ)) (shown shown' : S) (refused : Bool) : Type 0 where
    pub request : Request
    pub is_change : IsChangeOf coming request
    pub told : RequestTold switch request log log' out out' shown shown' refused
