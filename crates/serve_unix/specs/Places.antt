-- What a contract sees of the places of clients: who is in which, who is admitted, and whose turn it is.
use Rattle.std.specs.Prelude.{◌≡◌, ◌+◌, ◌-◌, ◌^◌, ◌<◌, ◌≤◌, ◌++◌, ◌∷◌, ◌⊎◌, Bool, List, None, Option, Some, [], false, length, min, replicate, slice_get, slice_set, true, ℕ}
use Rattle.serve_stream.specs.declared.conversation.Conversation.{Conversation}
use Rattle.serve_stream.specs.declared.conversation.Turn.{Turn}
use Rattle.serve_stream.specs.declared.conversation.Turn.TheVariants.{Closed, Stop, Waits, Went}
use Rattle.serve_stream.specs.Answers.{Exchange}
use Rattle.serve_stream.specs.Standing.{IsAt}
use Rattle.serve_stream.specs.Stream.{Event}
use Rattle.serve_unix.specs.declared.client.Client.{Client}
use Rattle.serve_unix.specs.Client.{IsPlaceTurn}
use Rattle.serve_unix.specs.declared.clients.TheConstants.{CLIENTS}
use Rattle.serve_unix.specs.Connections.{Connection, IsUntouched, Tells, accepted, closed, interrupted, nobody_waited, not_watched, watched}

-- the places, the one that has the next turn if its client is active, and how many clients were admitted
pub record Places (S : Type 0) : Type 0 where
  pub seats : List (Option (Client S))
  pub next : ℕ
  pub admitted : ℕ

-- no place has a client, the first has the next turn, and nobody was admitted
abbrev pub no_clients : {S : Type 0} → Places S
no_clients = record { seats = replicate CLIENTS None; next = 0; admitted = 0 }

abbrev pub is_active_in : {S : Type 0} → Option (Client S) → Bool
is_active_in None = false
is_active_in (Some client) = client.is_active

abbrev pub is_free : {S : Type 0} → Option (Client S) → Bool
is_free None = true
is_free (Some client) = false

abbrev pub number_in : {S : Type 0} → Option (Client S) → ℕ
number_in None = 0
number_in (Some client) = client.number

-- ---- which place

module _ {S : Type 0} (test : Option (Client S) → Bool) (seats : List (Option (Client S))) where
  -- no place from one on, and before another, passes a test
  abbrev pub NonePasses : ℕ → ℕ → Type 0
  NonePasses from end = (place : ℕ) (seat : Option (Client S)) → from ≤ place → place < end → slice_get seats place ≡ Some seat → test seat ≡ false

  -- the first place from one on that passes it
  abbrev pub IsFirstFrom : ℕ → Option ℕ → Type 0
  IsFirstFrom from None = NonePasses from (length seats)
  IsFirstFrom from (Some place) = (seat : Option (Client S)) × (slice_get seats place ≡ Some seat) × (test seat ≡ true) × (from ≤ place) × NonePasses from place

  -- the first from the next one on, or otherwise the first of all
  abbrev pub IsNextOf : ℕ → Option ℕ → Type 0
  IsNextOf next None = IsFirstFrom 0 None
  IsNextOf next (Some place) = IsFirstFrom next (Some place) ⊎ (IsFirstFrom next None × IsFirstFrom 0 (Some place))

abbrev pub IsSomeActive : {S : Type 0} → List (Option (Client S)) → Type 0
IsSomeActive seats = (place : ℕ) × IsFirstFrom is_active_in seats 0 (Some place)

-- the client in a place, if there is one, may have something to do
abbrev pub woken : {S : Type 0} → Option (Client S) → Option (Client S)
woken None = None
woken (Some client) = Some (record client { is_active = true })

abbrev pub IsWoken : {S : Type 0} → ℕ → List (Option (Client S)) → List (Option (Client S)) → Type 0
IsWoken {S} place seats seats' = by (slice_get seats place)
  where
    by : Option (Option (Client S)) → Type 0
    by None = seats' ≡ seats
    by (Some seat) = seats' ≡ slice_set seats place (woken seat)

-- ---- who is admitted

module _ {S : Type 0} where
  -- a client is in a place, with a conversation that begins, and the next number
  abbrev pub newcomer : S → Conversation → ℕ → Client S
  newcomer stream conversation admitted = record { stream = stream; conversation = conversation; number = min (admitted + 1) (2 ^ 64 - 1); is_active = true }

  pub record IsPut (place : ℕ) (stream : S) (conversation : Conversation) (before after : Places S) : Type 0 where
    pub seats : after.seats ≡ slice_set before.seats place (Some (newcomer stream conversation before.admitted))
    pub next : after.next ≡ before.next
    pub admitted : after.admitted ≡ min (before.admitted + 1) (2 ^ 64 - 1)

  module _ (log : S → Option (List Event)) where
    -- A client was accepted. Its events go to a place that was free, it has this place, and nothing was said yet. Or its connection was closed
    -- at once, without a word: no place was free, its events could not be had, or there was no memory for its conversation.
    pub data Admits (before after : Places S) : List Connection → Type 0 where
      seated : (place : ℕ) (stream : S) (conversation : Conversation) → IsNextOf is_free before.seats before.next (Some place)
          → IsUntouched (log stream) → IsAt conversation [] [] → IsPut place stream conversation before after
          → Admits before after (accepted ∷ watched place ∷ [])
      no_place : (untouched : Option (List Event)) → IsFirstFrom is_free before.seats 0 None → after ≡ before → IsUntouched untouched
          → Admits before after (accepted ∷ closed untouched ∷ [])
      no_events : (place : ℕ) (untouched : Option (List Event)) → IsNextOf is_free before.seats before.next (Some place) → after ≡ before
          → IsUntouched untouched → Admits before after (accepted ∷ not_watched place ∷ closed untouched ∷ [])
      no_memory : (place : ℕ) (untouched : Option (List Event)) → IsNextOf is_free before.seats before.next (Some place) → after ≡ before
          → IsUntouched untouched → Admits before after (accepted ∷ watched place ∷ closed untouched ∷ [])

    -- the same, once it is known that it was accepted
    pub record IsAdmitted (told told' : Option (List Connection)) (before after : Places S) : Type 0 where
      pub events : List Connection
      pub logged : Tells told told' events
      pub admits : Admits before after (accepted ∷ events)

    -- a client was accepted, or the call was interrupted
    pub data Accepts (before after : Places S) : List Connection → Type 0 where
      one_client : (events : List Connection) → Admits before after events → Accepts before after events
      once_more : after ≡ before → Accepts before after (interrupted ∷ [])

    -- this many times, one after the other
    pub data AcceptsEach (before : Places S) : ℕ → List Connection → Places S → Type 0 where
      not_once : (after : Places S) → after ≡ before → AcceptsEach before 0 [] after
      and_then : (count : ℕ) (events more : List Connection) (between after : Places S) → AcceptsEach before count events between
          → Accepts between after more → AcceptsEach before (count + 1) (events ++ more) after

    -- as far as it is known
    pub record HasAcceptedSome (count : ℕ) (told told' : Option (List Connection)) (before after : Places S) : Type 0 where
      pub events : List Connection
      pub logged : Tells told told' events
      pub each : AcceptsEach before count events after

    -- once
    pub record IsAccepted (told told' : Option (List Connection)) (before after : Places S) : Type 0 where
      pub events : List Connection
      pub logged : Tells told told' events
      pub accepts : Accepts before after events

    -- once, or nobody waited
    abbrev pub HasAcceptedOnce : Bool → Option (List Connection) → Option (List Connection) → Places S → Places S → Type 0
    HasAcceptedOnce true told told' before after = IsAccepted told told' before after
    HasAcceptedOnce false told told' before after = (after ≡ before) × Tells told told' (nobody_waited ∷ [])

    -- until nobody waited, or as many times as there are places
    pub record HasAccepted (told told' : Option (List Connection)) (before after : Places S) : Type 0 where
      pub count : ℕ
      pub told_after : Option (List Connection)
      pub some : HasAcceptedSome count told told_after before after
      pub ends : ((count ≡ CLIENTS) × (told' ≡ told_after)) ⊎ ((count < CLIENTS) × Tells told_after told' (nobody_waited ∷ []))

-- ---- turns

abbrev pub is_stop : Turn → Bool
is_stop Went = false
is_stop Waits = false
is_stop Closed = false
is_stop Stop = true

module _ {S A : Type 0} (log : S → Option (List Event)) (Does : A → A → Exchange → Type 0) (Notes : A → A → List ℕ → List ℕ → Type 0) (TurnsTo : A → A → ℕ → Type 0) where
  -- the client whose turn is next had its turn: the answering side was given its number, and no other place changed
  pub record IsNextTurn (before after : Places S) (state state' : A) (told told' : Option (List Connection)) (turn : Turn) : Type 0 where
    pub place : ℕ
    pub seat : Option (Client S)
    pub seat' : Option (Client S)
    pub ready : A
    pub is_next : IsNextOf is_active_in before.seats before.next (Some place)
    pub is_seat : slice_get before.seats place ≡ Some seat
    pub turned_to : TurnsTo state ready (number_in seat)
    pub made : IsPlaceTurn log Does Notes seat seat' ready state' told told' turn
    pub seats : after.seats ≡ slice_set before.seats place seat'
    pub next : after.next ≡ place + 1
    pub admitted : after.admitted ≡ before.admitted

  abbrev pub IsTurnGiven : A → A → Option (List Connection) → Option (List Connection) → Places S → Places S → Option Turn → Type 0
  IsTurnGiven state state' told told' before after None = IsFirstFrom is_active_in before.seats 0 None × (after ≡ before) × (state' ≡ state) × (told' ≡ told)
  IsTurnGiven state state' told told' before after (Some turn) = IsNextTurn before after state state' told told' turn

  -- this many clients had their turns, one after the other, and none after one that asked the service to stop
  pub data TurnsInOrder (before : Places S) (state : A) (told : Option (List Connection)) : ℕ → Bool → Places S → A → Option (List Connection) → Type 0 where
    no_turn : (after : Places S) (state' : A) (told' : Option (List Connection)) → after ≡ before → state' ≡ state → told' ≡ told → TurnsInOrder before state told 0 false after state' told'
    next_turn : (count : ℕ) (between after : Places S) (middle state' : A) (told₁ told' : Option (List Connection)) (turn : Turn)
        → TurnsInOrder before state told count false between middle told₁ → IsNextTurn between after middle state' told₁ told' turn
        → TurnsInOrder before state told (count + 1) (is_stop turn) after state' told'

  -- at most as many as the budget; fewer only if no client has anything to do, or one asked to stop
  pub record HaveTurns (budget : ℕ) (state state' : A) (told told' : Option (List Connection)) (before after : Places S) (stops : Bool) : Type 0 where
    pub count : ℕ
    pub few : count ≤ budget
    pub in_order : TurnsInOrder before state told count stops after state' told'
    pub enough : stops ≡ false → (count ≡ budget) ⊎ IsFirstFrom is_active_in after.seats 0 None
