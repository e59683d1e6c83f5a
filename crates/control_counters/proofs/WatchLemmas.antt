-- What is seen by exchanges, one after the other.
use Rattle.std.proofs.Common.{◌≡◌, ◌∙◌, ◌⊎◌, ◌++◌, ◌∷◌, List, None, Option, Some, [], codes, inl, inr, refl, subst, ℕ}
use Rattle.std.specs.Prelude.{Err, IfSome, MatchResult, Ok, Result}
use Rattle.std.specs.List.{All}
use Rattle.std.proofs.lemmas.List.Elements.{All-append, All-cons, All-head, All-nil, All-tail}
use Rattle.control_client.specs.Exchange.{AreExchanged, Asks, Exchange, no_line, one_more}
use Rattle.control_client.specs.Wire.{Event}
use Rattle.control_client.specs.declared.device.Peer.{Peer}
use Rattle.control_client.proofs.WireLemmas.{logs_more, logs_nothing}
use Rattle.control_rules.specs.History.{AreConfigs, ClientValue, History, IsReadLine, IsTrueTo, Learns}
use Rattle.control_rules.proofs.LearnLemmas.{all_left, all_right, exchanged-append}
use Rattle.control_rules.specs.Shown.{IsShownReply}
use Rattle.control_rules.specs.declared.replies.Shown.{Shown}
use Rattle.control_rules.specs.Failing.{StopsAsking, StopsBy, line_failed, no_memory}
use Rattle.control_rules.specs.declared.ask_failure.AskFailure.{AskFailure}
use Rattle.control_rules.specs.declared.ask_failure.AskFailure.TheVariants.{OutOfMemory}
use Rattle.control_rules.proofs.StopLemmas.{stops_here, stops_later}
use Rattle.control_counters.specs.Failing.{FailsWatching, asking_stopped, no_time}
use Rattle.control_counters.specs.Reading.{IsNamed}
use Rattle.control_counters.specs.Watching.{IsCountLine, IsWatchLine, Watches}

abbrev IsWatched : Exchange → Type 0
IsWatched one = IsReadLine one.line ⊎ IsCountLine one.line

pub watches_nothing : (client : ClientValue) (Holds : History → List Exchange → Type 0) → ((history : History) → AreConfigs history → Holds history []) →
    Watches client client Holds
watches_nothing client Holds always = record {
  told = [];
  events = [];
  are_exchanged = no_line;
  logged = logs_nothing client.log;
  same_switch = refl;
  watches_only = All-nil IsWatched;
  holds = λ history are all. always history are;
}

pub watches_weaker : (before after : ClientValue) (Holds Weaker : History → List Exchange → Type 0) →
    ((history : History) (told : List Exchange) → AreConfigs history → Holds history told → Weaker history told) → Watches before after Holds →
    Watches before after Weaker
watches_weaker before after Holds Weaker weaker it = record {
  told = it.told;
  events = it.events;
  are_exchanged = it.are_exchanged;
  logged = it.logged;
  same_switch = it.same_switch;
  watches_only = it.watches_only;
  holds = λ history are all. weaker history it.told are (it.holds history are all);
}

-- the exchanges in two parts
pub record InTurn (First Next : History → List Exchange → Type 0) (history : History) (told : List Exchange) : Type 0 where
  pub one : List Exchange
  pub more : List Exchange
  pub whole : told ≡ one ++ more
  pub first : First history one
  pub next : Next history more

pub watches_then : (before mid after : ClientValue) (First Next : History → List Exchange → Type 0) → Watches before mid First → Watches mid after Next →
    Watches before after (InTurn First Next)
watches_then before mid after First Next one two = record {
  told = one.told ++ two.told;
  events = one.events ++ two.events;
  are_exchanged = exchanged-append before.switch one.told two.told one.events two.events one.are_exchanged
      (subst (λ switch. AreExchanged switch two.told two.events) one.same_switch two.are_exchanged);
  logged = logs_more before.log mid.log after.log one.events two.events one.logged two.logged;
  same_switch = two.same_switch ∙ one.same_switch;
  watches_only = All-append IsWatched one.told two.told one.watches_only two.watches_only;
  holds = λ history are all. record {
    one = one.told;
    more = two.told;
    whole = refl;
    first = one.holds history are (all_left (IsTrueTo history) one.told two.told all);
    next = two.holds history are (all_right (IsTrueTo history) one.told two.told all);
  };
}

pub watches_asked : (before after : ClientValue) (line reply : List ℕ) (Holds : History → List Exchange → Type 0) → after.switch ≡ before.switch →
    IsCountLine line → Asks before.switch line reply before.log after.log →
    ((history : History) → AreConfigs history → Holds history (record { line = line; reply = reply } ∷ [])) → Watches before after Holds
watches_asked before after line reply Holds same counts asked holds = record {
  told = record { line = line; reply = reply } ∷ [];
  events = asked.events;
  are_exchanged = one_more [] [] asked.events line reply no_line asked.is_exchange;
  logged = asked.logged;
  same_switch = same;
  watches_only = All-cons IsWatched _ [] (inr counts) (All-nil IsWatched);
  holds = λ history are all. holds history are;
}

pub watches_read : (before after : ClientValue) (line reply : List ℕ) (Holds : History → List Exchange → Type 0) → after.switch ≡ before.switch →
    IsReadLine line → Asks before.switch line reply before.log after.log →
    ((history : History) → AreConfigs history → IsTrueTo history (record { line = line; reply = reply }) → Holds history (record { line = line; reply = reply } ∷ [])) →
    Watches before after Holds
watches_read before after line reply Holds same reads asked holds = record {
  told = record { line = line; reply = reply } ∷ [];
  events = asked.events;
  are_exchanged = one_more [] [] asked.events line reply no_line asked.is_exchange;
  logged = asked.logged;
  same_switch = same;
  watches_only = All-cons IsWatched _ [] (inl reads) (All-nil IsWatched);
  holds = λ history are all. holds history are (All-head (IsTrueTo history) _ [] all);
}

pub named_so : (reply : List ℕ) (shown : Shown) → IsShownReply reply shown → IsNamed (record { line = codes "show"; reply = reply } ∷ []) shown.version
named_so reply shown it = record { before = []; after = []; reply = reply; more = _; whole = refl; names = it.fields }

read_watched : (told : List Exchange) → All (λ one. IsReadLine one.line) told → All IsWatched told
read_watched [] all = All-nil IsWatched
read_watched (one ∷ told) all =
    All-cons IsWatched one told (inl (All-head (λ one. IsReadLine one.line) one told all)) (read_watched told (All-tail (λ one. IsReadLine one.line) one told all))

-- what is learned by lines that read
pub of_learns : (before after : ClientValue) (Holds : History → Type 0) → Learns before after Holds → Watches before after (λ history told. Holds history)
of_learns before after Holds it = record {
  told = it.told;
  events = it.events;
  are_exchanged = it.are_exchanged;
  logged = it.logged;
  same_switch = it.same_switch;
  watches_only = read_watched it.told it.reads_only;
  holds = it.holds;
}

pub if_some_both : {X : Type 0} (P Q R : X → Type 0) → ((x : X) → P x → Q x → R x) → (option : Option X) → IfSome option P → IfSome option Q → IfSome option R
if_some_both P Q R both None p q = tt
if_some_both P Q R both (Some x) p q = both x p q

-- ---- how watching stops

pub stops_watching : (failure : AskFailure) (before mid after : ClientValue) (Holds : History → List Exchange → Type 0) → Watches before mid Holds →
    StopsAsking IsWatchLine failure mid after → StopsAsking IsWatchLine failure before after
stops_watching failure before mid after Holds it stops =
    stops_later IsWatchLine it.told it.events failure before mid after it.are_exchanged it.logged it.same_switch it.watches_only stops

pub stops_uncounted : (failure : AskFailure) (before after : ClientValue) (Holds : History → List Exchange → Type 0) → failure ≡ OutOfMemory → Watches before after Holds →
    StopsAsking IsWatchLine failure before after
stops_uncounted failure before after Holds is it = rw is (stops_watching OutOfMemory before after after Holds it (stops_here IsWatchLine after))

stops_alike : (failure : AskFailure) (switch : Peer) (log log' : Option (List Event)) → StopsBy IsReadLine failure switch log log' → StopsBy IsWatchLine failure switch log log'
stops_alike failure switch log log' (line_failed line is ends) = line_failed line (inl is) ends
stops_alike failure switch log log' (no_memory is same) = no_memory is same

-- lines that read are among those that change nothing
pub stops_wider : (failure : AskFailure) (before after : ClientValue) → StopsAsking IsReadLine failure before after → StopsAsking IsWatchLine failure before after
stops_wider failure before after it = record {
  told = it.told;
  events = it.events;
  log_then = it.log_then;
  are_exchanged = it.are_exchanged;
  logged = it.logged;
  only = read_watched it.told it.only;
  stopped = stops_alike failure before.switch it.log_then after.log it.stopped;
  same_switch = it.same_switch;
}

module _ (IsSuch : List Exchange → Type 0) (First : History → List Exchange → Type 0) (before mid after : ClientValue) (one : Watches before mid First) where
  -- lines were exchanged before
  pub fails_later : (Earlier : List Exchange → Type 0) (failure : AskFailure) →
      ((history : History) (told : List Exchange) → AreConfigs history → InTurn First (λ history told. Earlier told) history told → IsSuch told) →
      FailsWatching Earlier failure mid after → FailsWatching IsSuch failure before after
  fails_later Earlier failure such (asking_stopped it) = asking_stopped (stops_watching failure before mid after First one it)
  fails_later Earlier failure such (no_time is it) =
      no_time is (watches_weaker before after (InTurn First (λ history told. Earlier told)) (λ history told. IsSuch told) such
      (watches_then before mid after First (λ history told. Earlier told) one it))

  pub match_later : {A : Type 0} (Next Both : A → History → List Exchange → Type 0) (result : Result A AskFailure) →
      MatchResult result (λ value. Watches mid after (Next value)) (λ failure. FailsWatching (λ told. Unit {0}) failure mid after) →
      ((value : A) (history : History) (told : List Exchange) → AreConfigs history → InTurn First (Next value) history told → Both value history told) →
      ((history : History) (told : List Exchange) → AreConfigs history → InTurn First (λ history told. Unit {0}) history told → IsSuch told) →
      MatchResult result (λ value. Watches before after (Both value)) (λ failure. FailsWatching IsSuch failure before after)
  match_later Next Both (Ok value) two both such =
      watches_weaker before after (InTurn First (Next value)) (Both value) (λ history told are it. both value history told are it) (watches_then before mid after First (Next value) one two)
  match_later Next Both (Err failure) two both such = fails_later (λ told. Unit {0}) failure such two
