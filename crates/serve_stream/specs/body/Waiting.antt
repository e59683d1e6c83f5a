-- The bytes that are written next, and what a read and a write come to.
use Rattle.std.specs.Prelude.{◌≡◌, ◌≢◌, ◌+◌, ◌<◌, ◌≤◌, ◌∷◌, ◌⊎◌, ◌↔◌, Bool, List, Option, [], false, length, true, ℕ}
use Rattle.serve_stream.specs.declared.conversation.Conversation.{Conversation}
use Rattle.serve_stream.specs.declared.conversation.Stage.TheVariants.{Open, Over, Stopping}
use Rattle.serve_stream.specs.Answers.{Exchange, LastStops, LeadsTo}
use Rattle.serve_stream.specs.Standing.{IsHindered, Moves, waiting_of}
use Rattle.serve_stream.specs.Stream.{Event, Happened, Logs, ended, failed, gave_none, interrupted, took_none}

-- replies are written first
abbrev pub first_of : List ℕ → List ℕ → List ℕ
first_of [] last = last
first_of (byte ∷ replies) last = byte ∷ replies

abbrev pub next_of : Conversation → List ℕ
next_of conversation = first_of conversation.replies conversation.last.now

-- only what waits differs
pub record IsSameBut (before later : Conversation) : Type 0 where
  pub unread : later.unread ≡ before.unread
  pub held : later.held ≡ before.held
  pub stage : later.stage ≡ before.stage

-- only how far it is may differ
pub record IsKept (before later : Conversation) : Type 0 where
  pub unread : later.unread ≡ before.unread
  pub replies : later.replies ≡ before.replies
  pub last : later.last.now ≡ before.last.now
  pub stage : later.stage ≢ Over → later.stage ≡ before.stage

-- what a read came to: more may come at once, if it is not told otherwise
pub record IsRead (log log' : Option (List Event)) (before later : Conversation) (more : Bool) : Type 0 where
  pub events : List Event
  pub logged : Logs log log' events
  pub moves : Moves before later events []
  pub brief : length events ≤ 1
  pub no_stop : before.stage ≢ Stopping → later.stage ≢ Stopping
  pub took_all : ¬ Happened took_none events
  pub some_more : more ≡ true → ¬ Happened gave_none events
  pub no_more : more ≡ false → later.stage ≡ Open → (later.unread ≡ []) × Happened gave_none events
  pub over_if_failed : Happened failed events → later.stage ≡ Over
  pub closed_if_ended : Happened ended events → later.stage ≢ Open
  pub not_opened : before.stage ≢ Open → later.stage ≢ Open

-- what a write came to: more may be taken at once, if it is not told otherwise
pub record IsWritten (log log' : Option (List Event)) (before later : Conversation) (more : Bool) : Type 0 where
  pub events : List Event
  pub logged : Logs log log' events
  pub moves : Moves before later events []
  pub brief : length events ≤ 1
  pub gave_all : ¬ Happened gave_none events
  pub some_more : more ≡ true → (waiting_of later ≢ []) × (¬ Happened took_none events)
  pub no_more : more ≡ false → later.stage ≢ Over → waiting_of later ≢ [] → Happened took_none events
  pub progress : more ≡ true → (length (waiting_of later) < length (waiting_of before)) ⊎ Happened interrupted events
  pub goes_on : more ≡ true → later.stage ≡ before.stage
  pub fails : later.stage ≡ Over → before.stage ≢ Over → Happened failed events
  pub over_if_failed : Happened failed events → later.stage ≡ Over
  pub not_ended : ¬ Happened ended events
  pub stage : (later.stage ≡ before.stage) ⊎ (later.stage ≡ Over)
  pub held : later.held ≡ before.held
  pub unread : later.unread ≡ before.unread

-- after so many of at most so many writes: each took bytes, or one was interrupted
pub record IsWritingOut (log log' : Option (List Event)) (before later : Conversation) (count most : ℕ) : Type 0 where
  pub events : List Event
  pub logged : Logs log log' events
  pub moves : Moves before later events []
  pub stage : later.stage ≡ before.stage
  pub progress : (length (waiting_of later) + count ≤ most) ⊎ Happened interrupted events

-- what several writes came to
pub record IsWrittenOut (log log' : Option (List Event)) (before later : Conversation) : Type 0 where
  pub events : List Event
  pub logged : Logs log log' events
  pub moves : Moves before later events []
  pub stage : (later.stage ≡ before.stage) ⊎ (later.stage ≡ Over)
  pub all : waiting_of later ≢ [] → IsHindered events

-- at most so many requests were answered
pub record AnswersFew {S : Type 0} (Does : S → S → Exchange → Type 0) (most : ℕ) (state state' : S) (before later : Conversation) : Type 0 where
  pub exchanges : List Exchange
  pub leads : LeadsTo Does state state' exchanges
  pub few : length exchanges ≤ most
  pub moves : Moves before later [] exchanges
  pub stop : before.stage ≢ Stopping → (later.stage ≡ Stopping) ↔ LastStops exchanges
