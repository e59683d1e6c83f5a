-- What a contract sees of a client and of its turn.
use Rattle.std.specs.Prelude.{◌≡◌, ◌∷◌, Bool, List, None, Option, Some, [], false, ℕ}
use Rattle.serve_stream.specs.declared.conversation.Conversation.{Conversation}
use Rattle.serve_stream.specs.declared.conversation.Turn.{Turn}
use Rattle.serve_stream.specs.declared.conversation.Turn.TheVariants.{Closed, Stop, Waits, Went}
use Rattle.serve_stream.specs.Answers.{Exchange}
use Rattle.serve_stream.specs.Standing.{IsTurn}
use Rattle.serve_stream.specs.Stream.{Event}
use Rattle.serve_stream.specs.body.Asked.{IsUnheld}
use Rattle.serve_unix.specs.declared.client.TheConstants.{TURN}
use Rattle.serve_unix.specs.declared.client.Client.{Client}
use Rattle.serve_unix.specs.Connections.{Connection, Tells, closed}

-- a connection was closed, on whose stream this had happened, and no other was accepted or closed
abbrev pub IsClosed : Option (List Event) → Option (List Connection) → Option (List Connection) → Type 0
IsClosed log told told' = Tells told told' (closed log ∷ [])

-- a client waits for an event if there is nothing to do without one
abbrev pub active_after : Turn → Bool → Bool
active_after Went was = was
active_after Waits was = false
active_after Closed was = was
active_after Stop was = was

module _ {A : Type 0} (Notes : A → A → List ℕ → List ℕ → Type 0) where
  -- a request that is not held is noted, and nothing else
  abbrev pub IsNoted : Option (List ℕ × List ℕ) → A → A → Type 0
  IsNoted None state state' = state' ≡ state
  IsNoted (Some (front, reply)) state state' = Notes state state' front reply

  -- the one of a conversation
  abbrev pub IsNotedOf : Conversation → A → A → Type 0
  IsNotedOf conversation state state' = (unheld : Option (List ℕ × List ℕ)) × IsUnheld conversation unheld × IsNoted unheld state state'

module _ {S A : Type 0} (log : S → Option (List Event)) (Does : A → A → Exchange → Type 0) (Notes : A → A → List ℕ → List ℕ → Type 0) where
  -- The client's conversation made a turn on the client's stream: the bytes that the stream gave went to this conversation, and
  -- those that it took came from it. A request that is not held was noted once.
  pub record IsClientTurn (before later : Client S) (state state' : A) (turn : Turn) : Type 0 where
    pub conversation : Conversation
    pub between : A
    pub made : IsTurn Does TURN (log before.stream) (log later.stream) state between before.conversation conversation turn
    pub noted : IsNotedOf Notes conversation between state'
    pub kept : later.conversation ≡ record conversation { unheld = None }
    pub number : later.number ≡ before.number
    pub is_active : later.is_active ≡ active_after turn before.is_active

  -- a client whose conversation is over leaves its place, and its connection is closed; every other one stays
  abbrev pub IsKeptOrClosed : Turn → Client S → Option (Client S) → Option (List Connection) → Option (List Connection) → Type 0
  IsKeptOrClosed Went later place told told' = (place ≡ Some later) × (told' ≡ told)
  IsKeptOrClosed Waits later place told told' = (place ≡ Some later) × (told' ≡ told)
  IsKeptOrClosed Closed later place told told' = (place ≡ None) × IsClosed (log later.stream) told told'
  IsKeptOrClosed Stop later place told told' = (place ≡ None) × IsClosed (log later.stream) told told'

  -- the client in a place, if there is one, had its turn
  abbrev pub IsPlaceTurn : Option (Client S) → Option (Client S) → A → A → Option (List Connection) → Option (List Connection) → Turn → Type 0
  IsPlaceTurn None place state state' told told' turn = (place ≡ None) × (state' ≡ state) × (told' ≡ told) × (turn ≡ Closed)
  IsPlaceTurn (Some client) place state state' told told' turn =
      (later : Client S) × IsClientTurn client later state state' turn × IsKeptOrClosed turn later place told told'
