-- What a contract sees of a `Conversation`.
use Rattle.std.specs.Prelude.{◌≡◌, ◌≢◌, ◌≤◌, ◌<◌, ◌++◌, ◌↔◌, ◌⊎◌, List, Option, [], length, ℕ}
use Rattle.std.specs.List.{All}
use Rattle.serve_stream.specs.declared.TheConstants.{WAITING_LIMIT}
use Rattle.serve_stream.specs.declared.conversation.Conversation.{Conversation}
use Rattle.serve_stream.specs.declared.conversation.Stage.TheVariants.{Closing, Open, Over, Stopping}
use Rattle.serve_stream.specs.declared.conversation.Turn.{Turn}
use Rattle.serve_stream.specs.declared.conversation.Turn.TheVariants.{Closed, Stop, Waits, Went}
use Rattle.serve_stream.specs.Answers.{Exchange, LastStops, LeadsTo}
use Rattle.serve_stream.specs.Conversation.{AreAllAnswered, EndsBy, GoesOnAfter, IsClosed, IsConversation, IsStopped}
use Rattle.serve_stream.specs.Stream.{Event, Happened, Logs, failed, gave_none, interrupted, took_none}
use Rattle.serve_stream.specs.Stream as stream
use Rattle.serve_stream.specs.body.Held.{Holds}

-- the bytes that the stream has not taken
abbrev pub waiting_of : Conversation → List ℕ
waiting_of conversation = conversation.replies ++ conversation.last.now

-- The stage of a conversation, if this is all that happened on its stream, and these are all the requests that it had answered.
-- `left` are the client's bytes after them.
pub data IsAt (conversation : Conversation) (events : List Event) (exchanges : List Exchange) : Type 0 where
  -- requests are answered: the first bytes that are left are held, and the others unread
  going : conversation.stage ≡ Open → Holds conversation.held → All GoesOnAfter exchanges →
      IsConversation events exchanges (conversation.held.bytes.items ++ conversation.unread) (waiting_of conversation) [] → IsAt conversation events exchanges
  -- no more are, but replies may wait
  closing : (left words : List ℕ) → conversation.stage ≡ Closing → IsConversation events exchanges left (waiting_of conversation) words →
      EndsBy events exchanges left words → IsAt conversation events exchanges
  stopping : (left : List ℕ) → conversation.stage ≡ Stopping → IsConversation events exchanges left (waiting_of conversation) [] →
      IsStopped exchanges → IsAt conversation events exchanges
  -- nothing more happens
  over : (left words : List ℕ) → conversation.stage ≡ Over → IsConversation events exchanges left (waiting_of conversation) words →
      IsClosed events exchanges left (waiting_of conversation) words → IsAt conversation events exchanges

-- at whatever stage the conversation was, these events happened next on its stream, and these requests were answered next
abbrev pub Moves : Conversation → Conversation → List Event → List Exchange → Type 0
Moves before later events exchanges =
    (past : List Event) (answered : List Exchange) → IsAt before past answered → IsAt later (past ++ events) (answered ++ exchanges)

-- there is more to take or to read; while a part of a reply waits for which memory was refused, no request is answered
abbrev pub HearsMore : Conversation → List Event → Type 0
HearsMore conversation events = (conversation.stage ≡ Open) × (conversation.last.now ≡ []) × (¬ Happened gave_none events)

-- there is more to write
abbrev pub SaysMore : Conversation → List Event → Type 0
SaysMore conversation events = (waiting_of conversation ≢ []) × (¬ Happened took_none events)

-- the stream did not take all that it was given
abbrev pub IsHindered : List Event → Type 0
IsHindered events = Happened took_none events ⊎ (Happened interrupted events ⊎ Happened failed events)

-- The result of a turn. A conversation waits if the stream had nothing to give, and takes none of the bytes that wait.
abbrev pub ComesTo : Turn → Conversation → List Event → Type 0
ComesTo Went conversation events =
    (conversation.stage ≢ Over) × (length (waiting_of conversation) < WAITING_LIMIT) × (HearsMore conversation events ⊎ SaysMore conversation events)
ComesTo Waits conversation events =
    (conversation.stage ≢ Over) × (length (waiting_of conversation) < WAITING_LIMIT)
    × (conversation.stage ≡ Open → conversation.last.now ≡ [] → (conversation.unread ≡ []) × Happened gave_none events)
    × (waiting_of conversation ≢ [] → Happened took_none events)
ComesTo Closed conversation events = conversation.stage ≡ Over
ComesTo Stop conversation events = (conversation.stage ≡ Over) × (waiting_of conversation ≢ [] → IsHindered events)

-- the effect of a turn, with at most this many requests
pub record IsTurn {S : Type 0} (Does : S → S → Exchange → Type 0) (budget : ℕ) (log log' : Option (List Event)) (state state' : S) (before later : Conversation) (turn : Turn) : Type 0 where
  pub events : List Event
  pub exchanges : List Exchange
  pub logged : Logs log log' events
  pub leads : LeadsTo Does state state' exchanges
  pub few : length exchanges ≤ budget
  pub moves : Moves before later events exchanges
  pub comes_to : ComesTo turn later events
  -- it reads once and writes once at most, except for the writes after a stop
  pub brief : turn ≢ Stop → length events ≤ 2
  -- between turns no conversation is `Stopping`
  pub stop : before.stage ≢ Stopping → (later.stage ≢ Stopping) × ((turn ≡ Stop) ↔ LastStops exchanges)
  pub ended : before.stage ≡ Over → (turn ≡ Closed) × (events ≡ []) × (exchanges ≡ [])
  -- a failure of the stream ends the conversation
  pub over_if_failed : Happened failed events → later.stage ≡ Over
  -- after the client has closed its side no more requests are answered; the conversation ends as soon as all replies are taken
  pub closed_if_ended : Happened stream.ended events → later.stage ≢ Open
  pub not_opened : before.stage ≢ Open → later.stage ≢ Open
  pub over_if_taken : later.stage ≡ Closing → waiting_of later ≢ []

-- a conversation that waits for bytes has had every whole request answered
abbrev pub AnswersAll : Type 0
AnswersAll = (conversation : Conversation) (events : List Event) (exchanges : List Exchange) → IsAt conversation events exchanges →
    conversation.stage ≡ Open → conversation.unread ≡ [] → AreAllAnswered events exchanges
