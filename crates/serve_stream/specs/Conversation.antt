-- What contracts see of a conversation: the relation between the bytes from the client, the requests in them, the replies and the
-- bytes to the client.
use Rattle.std.specs.Prelude.{◌≡◌, ◌≤◌, ◌++◌, ◌∷◌, List, [], codes, length, map, ℕ}
use Rattle.std.specs.List.{All}
use Rattle.serve_stream.specs.declared.TheConstants.{WAITING_LIMIT}
use Rattle.serve_stream.specs.declared.answers.After.TheVariants.{GoesOn, Stops}
use Rattle.serve_stream.specs.Answers.{Exchange, replied, request_of, said, unanswered}
use Rattle.serve_stream.specs.Request.{BeginsOverlong, IsBadHead, IsCut, IsPart}
use Rattle.serve_stream.specs.Stream.{Event, Happened, ended, failed, given, taken}

-- the next request is answered after this one
abbrev pub GoesOnAfter : Exchange → Type 0
GoesOnAfter (replied request reply GoesOn) = ¬ IsBadHead request
GoesOnAfter (replied request reply Stops) = ⊥
GoesOnAfter (unanswered request) = ¬ IsBadHead request

-- after each of them but the last
abbrev pub GoOn : List Exchange → Type 0
GoOn [] = Unit {0}
GoOn (last ∷ []) = Unit {0}
GoOn (first ∷ next ∷ rest) = GoesOnAfter first × GoOn (next ∷ rest)

-- The client's bytes are the requests that were answered, each with its LF, and the bytes that are left. Their replies, each with
-- its LF, and then the last words of the conversation itself are the bytes that the stream took, and then those that wait.
pub record IsConversation (events : List Event) (exchanges : List Exchange) (left waiting words : List ℕ) : Type 0 where
  pub cut : IsCut (given events) (map request_of exchanges) left
  pub go_on : GoOn exchanges
  pub written : taken events ++ waiting ≡ said exchanges ++ words

-- the client's reply if a request is not held
abbrev pub too_long_words : List ℕ
too_long_words = codes "refused C2" ++ 10 ∷ []

abbrev pub no_memory_words : List ℕ
no_memory_words = codes "failed E3" ++ 10 ∷ []

-- why no more requests are answered, and the last words
pub data EndsBy (events : List Event) (exchanges : List Exchange) (left : List ℕ) : List ℕ → Type 0 where
  -- the client has closed its side; the bytes that are left are no whole request
  by_client : Happened ended events → All GoesOnAfter exchanges → IsPart left → EndsBy events exchanges left []
  -- the last line was meant to begin a block, whose lines may follow
  by_bad_head : (earlier : List Exchange) (last : Exchange) → exchanges ≡ earlier ++ last ∷ [] → All GoesOnAfter earlier → IsBadHead (request_of last) →
      EndsBy events exchanges left []
  by_length : All GoesOnAfter exchanges → BeginsOverlong left → EndsBy events exchanges left too_long_words
  -- memory was refused for the request that comes
  by_memory : All GoesOnAfter exchanges → EndsBy events exchanges left no_memory_words

-- the last request asked the service to stop
pub record IsStopped (exchanges : List Exchange) : Type 0 where
  pub earlier : List Exchange
  pub request : List ℕ
  pub reply : List ℕ
  pub is : exchanges ≡ earlier ++ replied request reply Stops ∷ []
  pub go_on : All GoesOnAfter earlier

-- why the connection is closed
pub data IsClosed (events : List Event) (exchanges : List Exchange) (left waiting words : List ℕ) : Type 0 where
  -- no more requests are answered, and all replies are taken
  after_all : EndsBy events exchanges left words → waiting ≡ [] → IsClosed events exchanges left waiting words
  by_failure : Happened failed events → IsClosed events exchanges left waiting words
  by_slow_client : WAITING_LIMIT ≤ length waiting → IsClosed events exchanges left waiting words
  by_stop : IsStopped exchanges → IsClosed events exchanges left waiting words

-- every whole request that came was answered
pub record AreAllAnswered (events : List Event) (exchanges : List Exchange) : Type 0 where
  pub part : List ℕ
  pub cut : IsCut (given events) (map request_of exchanges) part
  pub is_part : IsPart part
