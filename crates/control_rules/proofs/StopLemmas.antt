-- How a call stops that asks: at a line, for lack of memory, or after what was exchanged before.
use Rattle.std.proofs.Common.{◌≡◌, ◌∙◌, ◌++◌, Err, List, Ok, Result, [], refl, subst, ℕ}
use Rattle.std.specs.Prelude.{IfErr, IsErrAnd, MatchResult}
use Rattle.std.specs.List.{All}
use Rattle.std.proofs.lemmas.List.Elements.{All-append, All-nil}
use Rattle.control_client.specs.Exchange.{AreExchanged, Exchange, no_line}
use Rattle.control_client.specs.Wire.{Event, Logs}
use Rattle.control_client.specs.declared.device.Peer.{Peer}
use Rattle.control_client.proofs.WireLemmas.{logs_more, logs_nothing}
use Rattle.control_rules.specs.Asked.{AskEndsBy}
use Rattle.control_rules.specs.Failing.{StopsAsking, StopsBy, line_failed, no_memory}
use Rattle.control_rules.specs.History.{AreConfigs, ClientValue, History, IsReadLine, Learns}
use Rattle.control_rules.specs.declared.ask_failure.AskFailure.{AskFailure}
use Rattle.control_rules.specs.declared.ask_failure.AskFailure.TheVariants.{OutOfMemory}
use Rattle.control_rules.proofs.LearnLemmas.{exchanged-append, learns_then, learns_weaker}

-- the error of a result that is known by its failure
pub err_is : {A E : Type 0} (result : Result A E) (failure : E) → IsErrAnd result (λ told. told ≡ failure) → result ≡ Err failure
err_is (Ok value) failure is = absurd is
err_is (Err told) failure is = rw is refl

pub if_failed : {A E : Type 0} (result : Result A E) (failure : E) (P : E → Type 0) → IsErrAnd result (λ told. told ≡ failure) → P failure → IfErr result P
if_failed (Ok value) failure P is holds = tt
if_failed (Err told) failure P is holds = rw is holds

module _ (IsLine : List ℕ → Type 0) where
  -- the first line failed
  pub stops_at : (line : List ℕ) (failure : AskFailure) (before after : ClientValue) → IsLine line → AskEndsBy failure before.switch line before.log after.log →
      after.switch ≡ before.switch → StopsAsking IsLine failure before after
  stops_at line failure before after is ends same = record {
    told = [];
    events = [];
    log_then = before.log;
    are_exchanged = no_line;
    logged = logs_nothing before.log;
    only = All-nil (λ (one : Exchange). IsLine one.line);
    stopped = line_failed line is ends;
    same_switch = same;
  }

  -- memory was refused before a line was sent
  pub stops_here : (client : ClientValue) → StopsAsking IsLine OutOfMemory client client
  stops_here client = record {
    told = [];
    events = [];
    log_then = client.log;
    are_exchanged = no_line;
    logged = logs_nothing client.log;
    only = All-nil (λ (one : Exchange). IsLine one.line);
    stopped = no_memory refl refl;
    same_switch = refl;
  }

  -- lines were exchanged before
  pub stops_later : (told : List Exchange) (events : List Event) (failure : AskFailure) (before mid after : ClientValue) → AreExchanged before.switch told events →
      Logs before.log mid.log events → mid.switch ≡ before.switch → All (λ (one : Exchange). IsLine one.line) told → StopsAsking IsLine failure mid after →
      StopsAsking IsLine failure before after
  stops_later told events failure before mid after exchanged logged same only it = record {
    told = told ++ it.told;
    events = events ++ it.events;
    log_then = it.log_then;
    are_exchanged = exchanged-append before.switch told it.told events it.events exchanged
        (subst (λ (switch : Peer). AreExchanged switch it.told it.events) same it.are_exchanged);
    logged = logs_more before.log mid.log it.log_then events it.events logged it.logged;
    only = All-append (λ (one : Exchange). IsLine one.line) told it.told only it.only;
    stopped = subst (λ (switch : Peer). StopsBy IsLine failure switch it.log_then after.log) same it.stopped;
    same_switch = it.same_switch ∙ same;
  }

-- ---- lines that read

pub stops_after : (failure : AskFailure) (before mid after : ClientValue) (Holds : History → Type 0) → Learns before mid Holds → StopsAsking IsReadLine failure mid after →
    StopsAsking IsReadLine failure before after
stops_after failure before mid after Holds it stops =
    stops_later IsReadLine it.told it.events failure before mid after it.are_exchanged it.logged it.same_switch it.reads_only stops

pub stops_unstored : (before after : ClientValue) (Holds : History → Type 0) → Learns before after Holds → StopsAsking IsReadLine OutOfMemory before after
stops_unstored before after Holds it = stops_after OutOfMemory before after after Holds it (stops_here IsReadLine after)

pub stops_memory : (failure : AskFailure) (before after : ClientValue) (Holds : History → Type 0) → failure ≡ OutOfMemory → Learns before after Holds →
    StopsAsking IsReadLine failure before after
stops_memory failure before after Holds is it = rw is (stops_unstored before after Holds it)

-- what a result says, after what was learnt before
pub match_after : {A : Type 0} (before mid after : ClientValue) (First : History → Type 0) (Then Both : A → History → Type 0) (result : Result A AskFailure) → Learns before mid First →
    MatchResult result (λ value. Learns mid after (Then value)) (λ failure. StopsAsking IsReadLine failure mid after) →
    ((value : A) (history : History) → AreConfigs history → First history → Then value history → Both value history) →
    MatchResult result (λ value. Learns before after (Both value)) (λ failure. StopsAsking IsReadLine failure before after)
match_after before mid after First Then Both (Ok value) one two both =
    learns_weaker before after (λ history. First history × Then value history) (Both value) (λ history are it. both value history are it.0 it.1)
    (learns_then before mid after First (Then value) one two)
match_after before mid after First Then Both (Err failure) one two both = stops_after failure before mid after First one two
