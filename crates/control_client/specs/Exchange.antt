-- A line and its reply, and what happens on the wire for them (docs/COMMANDS.md, "tell").
use Rattle.std.specs.Prelude.{◌≡◌, ◌≢◌, ◌<◌, ◌++◌, ◌∷◌, ◌||◌, Bool, List, Option, [], codes, flat_map, length, nat_eq, ℕ}
use Rattle.std.specs.List.{All, list_any, starts_with}
use Rattle.control_client.specs.Carried.{IsCarried, IsRefusedUnsent}
use Rattle.control_client.specs.declared.device.Peer.{Peer}
use Rattle.command_line.specs.Ending.{AppendsBeginning}
use Rattle.control_client.specs.declared.asking.TheConstants.{FOREIGN_LIMIT}
use Rattle.command_line.specs.declared.ending.Failure.{Failure}
use Rattle.command_line.specs.declared.ending.Failure.TheVariants.{BindFailed, NoAnswer, OutOfMemory, PollFailed, ReadFailed, RulesChanged, SpawnFailed, WriteFailed}
use Rattle.control_client.specs.Wire.{Event, Logs, came, none_came, send_failed, sent, wait_failed}

-- a line, and its reply
pub record Exchange : Type 0 where
  pub line : List ℕ
  pub reply : List ℕ

-- a reply that came from elsewhere
abbrev pub IsForeign : Peer → Event → Type 0
IsForeign switch (came from bytes) = from ≢ switch
IsForeign switch (sent to bytes) = ⊥
IsForeign switch (send_failed to bytes) = ⊥
IsForeign switch none_came = ⊥
IsForeign switch wait_failed = ⊥

-- the line was sent once; then replies from elsewhere came, fewer than end the wait, and then one from the switch, which is its reply
pub record IsAnswered (switch : Peer) (line reply : List ℕ) (events : List Event) : Type 0 where
  pub passed : List Event
  pub are_foreign : All (IsForeign switch) passed
  pub few : length passed < FOREIGN_LIMIT
  pub events_are : events ≡ sent switch line ∷ (passed ++ came switch reply ∷ [])

-- a line that the wire does not carry as one request is not sent
pub data IsExchange (switch : Peer) (line : List ℕ) : List ℕ → List Event → Type 0 where
  unsent : (reply : List ℕ) → IsRefusedUnsent switch line reply → IsExchange switch line reply []
  answered : (reply : List ℕ) (events : List Event) → IsCarried switch line → IsAnswered switch line reply events →
      IsExchange switch line reply events

-- a line and its reply are all that happened on the wire
pub record Asks (switch : Peer) (line reply : List ℕ) (log log' : Option (List Event)) : Type 0 where
  pub events : List Event
  pub is_exchange : IsExchange switch line reply events
  pub logged : Logs log log' events

-- the lines were exchanged one after the other
pub data AreExchanged (switch : Peer) : List Exchange → List Event → Type 0 where
  no_line : AreExchanged switch [] []
  one_more : (told : List Exchange) (events more : List Event) (line reply : List ℕ) → AreExchanged switch told events →
      IsExchange switch line reply more → AreExchanged switch (told ++ record { line = line; reply = reply } ∷ []) (events ++ more)

-- no reply came: sending the line failed, or its time was out, or too many replies came from elsewhere
pub data IsUnanswered (switch : Peer) (line : List ℕ) : List Event → Type 0 where
  not_sent : IsCarried switch line → IsUnanswered switch line (send_failed switch line ∷ [])
  timed_out : IsCarried switch line → (passed : List Event) → All (IsForeign switch) passed → length passed < FOREIGN_LIMIT →
      IsUnanswered switch line (sent switch line ∷ (passed ++ none_came ∷ []))
  outnumbered : IsCarried switch line → (passed : List Event) → All (IsForeign switch) passed → length passed ≡ FOREIGN_LIMIT →
      IsUnanswered switch line (sent switch line ∷ passed)

-- the line was sent, and waiting failed before a reply came
pub record IsCutOff (switch : Peer) (line : List ℕ) (events : List Event) : Type 0 where
  pub carried : IsCarried switch line
  pub passed : List Event
  pub are_foreign : All (IsForeign switch) passed
  pub few : length passed < FOREIGN_LIMIT
  pub events_are : events ≡ sent switch line ∷ (passed ++ wait_failed ∷ [])

-- ---- what is printed

-- a reply with its LF
abbrev pub reply_line : List ℕ → List ℕ
reply_line reply = reply ++ 10 ∷ []

-- the replies, each with its LF
abbrev pub text_of : List Exchange → List ℕ
text_of told = flat_map (λ (one : Exchange). reply_line one.reply) told

-- a reply that says that its line was not done
abbrev pub is_refusal : List ℕ → Bool
is_refusal reply = starts_with nat_eq reply (codes "refused ") || starts_with nat_eq reply (codes "failed ")

abbrev pub has_refusal : List Exchange → Bool
has_refusal told = list_any (λ (one : Exchange). is_refusal one.reply) told

-- ---- one line

-- it was sent and had no reply, and nothing was printed
pub record LineUnheard (IsLast : List Event → Type 0) (log log' : Option (List Event)) (out out' : Option (List ℕ)) : Type 0 where
  pub events : List Event
  pub is_last : IsLast events
  pub logged : Logs log log' events
  pub not_printed : out' ≡ out

-- it was exchanged, and of its reply a beginning was printed
pub record LineUnprinted (switch : Peer) (line : List ℕ) (log log' : Option (List Event)) (out out' : Option (List ℕ)) : Type 0 where
  pub reply : List ℕ
  pub events : List Event
  pub is_exchange : IsExchange switch line reply events
  pub logged : Logs log log' events
  pub printed : AppendsBeginning out out' (reply_line reply)

-- how a line ends by a fault
abbrev pub LineEndsBy : Failure → Peer → List ℕ → Option (List Event) → Option (List Event) → Option (List ℕ) → Option (List ℕ) → Type 0
LineEndsBy NoAnswer switch line log log' out out' = LineUnheard (IsUnanswered switch line) log log' out out'
LineEndsBy PollFailed switch line log log' out out' = LineUnheard (IsCutOff switch line) log log' out out'
LineEndsBy WriteFailed switch line log log' out out' = LineUnprinted switch line log log' out out'
LineEndsBy ReadFailed switch line log log' out out' = ⊥
LineEndsBy OutOfMemory switch line log log' out out' = ⊥
LineEndsBy BindFailed switch line log log' out out' = ⊥
LineEndsBy SpawnFailed switch line log log' out out' = ⊥
LineEndsBy RulesChanged switch line log log' out out' = ⊥
