-- A request that is whole and not answered yet.
use Rattle.std.specs.Prelude.{◌≡◌, ◌++◌, ◌∷◌, List, None, Option, Some, [], ℕ}
use Rattle.std.specs.List.{All}
use Rattle.serve_stream.specs.declared.answers.After.{After}
use Rattle.serve_stream.specs.declared.answers.After.TheVariants.{GoesOn, Stops}
use Rattle.serve_stream.specs.declared.conversation.Conversation.{Conversation}
use Rattle.serve_stream.specs.declared.conversation.Stage.{Stage}
use Rattle.serve_stream.specs.declared.conversation.Stage.TheVariants.{Closing, Open, Stopping}
use Rattle.serve_stream.specs.declared.held.HoldFault.{HoldFault}
use Rattle.serve_stream.specs.declared.held.HoldFault.TheVariants.{OutOfMemory, TooLong}
use Rattle.serve_stream.specs.declared.held.LineEnd.{LineEnd}
use Rattle.serve_stream.specs.declared.held.LineEnd.TheVariants.{BadHead, More, Request}
use Rattle.serve_stream.specs.Answers.{Exchange}
use Rattle.serve_stream.specs.Conversation.{GoesOnAfter, IsConversation, no_memory_words, too_long_words}
use Rattle.serve_stream.specs.Request.{IsBadHead, IsRequest}
use Rattle.serve_stream.specs.Stream.{Event}
use Rattle.serve_stream.specs.Standing.{waiting_of}

-- the end of its last line tells whether it is a bad first line of a block
abbrev pub EndsAs : LineEnd → List ℕ → Type 0
EndsAs More request = ⊥
EndsAs Request request = ¬ IsBadHead request
EndsAs BadHead request = IsBadHead request

-- what is held is the next request, whose last LF was taken
pub record IsAsked (conversation : Conversation) (end : LineEnd) (events : List Event) (exchanges : List Exchange) : Type 0 where
  pub request : IsRequest conversation.held.bytes.items
  pub ends : EndsAs end conversation.held.bytes.items
  pub go_on : All GoesOnAfter exchanges
  pub is : IsConversation events exchanges (conversation.held.bytes.items ++ 10 ∷ conversation.unread) (waiting_of conversation) []

-- how far a conversation is after it
abbrev pub stage_of : LineEnd → Option After → Stage
stage_of end (Some Stops) = Stopping
stage_of BadHead (Some GoesOn) = Closing
stage_of BadHead None = Closing
stage_of More (Some GoesOn) = Open
stage_of More None = Open
stage_of Request (Some GoesOn) = Open
stage_of Request None = Open

-- the last words if the request that comes is not held
abbrev pub words_of : HoldFault → List ℕ
words_of TooLong = too_long_words
words_of OutOfMemory = no_memory_words

-- why the request that came last is not held: what is held of it, and the last words without their LF
abbrev pub IsUnheld : Conversation → Option (List ℕ × List ℕ) → Type 0
IsUnheld conversation told = tells conversation.unheld told
  where
    tells : Option HoldFault → Option (List ℕ × List ℕ) → Type 0
    tells None told = told ≡ None
    tells (Some fault) None = ⊥
    tells (Some fault) (Some (front, reply)) = (front ≡ conversation.held.bytes.items) × (reply ++ 10 ∷ [] ≡ words_of fault)
