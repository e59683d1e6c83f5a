-- What contracts see of requests and their answers.
use Rattle.std.specs.Prelude.{◌≡◌, ◌++◌, ◌∷◌, Err, List, Ok, Result, [], codes, ℕ}
use Rattle.std.specs.List.{flat_map}
use Rattle.serve_stream.specs.declared.answers.After.{After}
use Rattle.serve_stream.specs.declared.answers.After.TheVariants.{GoesOn, Stops}

-- a request, with its reply or, if memory was refused, without one
pub data Exchange : Type 0 where
  replied : (request reply : List ℕ) (after : After) → Exchange
  unanswered : (request : List ℕ) → Exchange

abbrev pub request_of : Exchange → List ℕ
request_of (replied request reply after) = request
request_of (unanswered request) = request

-- the line that is sent to the client
abbrev pub line_of : Exchange → List ℕ
line_of (replied request reply after) = reply ++ 10 ∷ []
line_of (unanswered request) = codes "failed E3" ++ 10 ∷ []

-- a call with this request, and with these bytes in the room for replies, appends its reply
abbrev pub IsAnswered : {E : Type 0} → (Exchange → Type 0) → List ℕ → List ℕ → List ℕ → Result After E → Type 0
IsAnswered Does request before later (Ok after) = (reply : List ℕ) × (later ≡ before ++ reply) × Does (replied request reply after)
IsAnswered Does request before later (Err refused) = (later ≡ before) × Does (unanswered request)

-- these exchanges, one after the other, lead from one state to another
abbrev pub LeadsTo : {S : Type 0} → (S → S → Exchange → Type 0) → S → S → List Exchange → Type 0
LeadsTo Does state later [] = later ≡ state
LeadsTo Does state later (first ∷ rest) = (next : _) × Does state next first × LeadsTo Does next later rest

-- the bytes of the replies, each with its LF
abbrev pub said : List Exchange → List ℕ
said exchanges = flat_map line_of exchanges

abbrev pub IsStop : Exchange → Type 0
IsStop (replied request reply GoesOn) = ⊥
IsStop (replied request reply Stops) = Unit {0}
IsStop (unanswered request) = ⊥

-- the last of them asks the service to stop
abbrev pub LastStops : List Exchange → Type 0
LastStops [] = ⊥
LastStops (last ∷ []) = IsStop last
LastStops (first ∷ next ∷ rest) = LastStops (next ∷ rest)
