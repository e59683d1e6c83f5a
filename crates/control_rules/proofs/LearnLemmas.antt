-- What is learnt by exchanges, one after the other.
use Rattle.std.proofs.Common.{◌≡◌, ◌∙◌, ◌++◌, ◌∷◌, List, None, Option, Some, [], append-nil, append_assoc, refl, subst, ℕ}
use Rattle.std.specs.Prelude.{IfSome}
use Rattle.std.specs.List.{All}
use Rattle.std.proofs.lemmas.List.Elements.{All-append, All-cons, All-head, All-nil, All-tail}
use Rattle.control_client.specs.Exchange.{AreExchanged, Asks, Exchange, no_line, one_more}
use Rattle.control_client.specs.Wire.{Event}
use Rattle.control_client.specs.declared.device.Peer.{Peer}
use Rattle.control_client.proofs.WireLemmas.{logs_more, logs_nothing}
use Rattle.control_rules.specs.History.{AreConfigs, ClientValue, History, IsReadLine, IsTrueTo, Learns}

module _ {X : Type 0} (P : X → Type 0) where
  pub all_left : (xs ys : List X) → All P (xs ++ ys) → All P xs
  all_left [] ys all = All-nil P
  all_left (x ∷ xs) ys all = All-cons P x xs (All-head P x (xs ++ ys) all) (all_left xs ys (All-tail P x (xs ++ ys) all))

  pub all_right : (xs ys : List X) → All P (xs ++ ys) → All P ys
  all_right [] ys all = all
  all_right (x ∷ xs) ys all = all_right xs ys (All-tail P x (xs ++ ys) all)

pub exchanged-append : (switch : Peer) (told more : List Exchange) (events later : List Event) → AreExchanged switch told events →
    AreExchanged switch more later → AreExchanged switch (told ++ more) (events ++ later)
exchanged-append switch told [] events [] one no_line =
    rw (append-nil told, append-nil events) one
exchanged-append switch told _ events _ one (one_more before earlier last line reply others exchange) =
    rw (← append_assoc told before (record { line = line; reply = reply } ∷ []), ← append_assoc events earlier last)
    (one_more (told ++ before) (events ++ earlier) last line reply (exchanged-append switch told before events earlier one others) exchange)

pub learns_nothing : (client : ClientValue) (Holds : History → Type 0) → ((history : History) → AreConfigs history → Holds history) → Learns client client Holds
learns_nothing client Holds always = record {
  told = [];
  events = [];
  are_exchanged = no_line;
  logged = logs_nothing client.log;
  same_switch = refl;
  reads_only = All-nil (λ one. IsReadLine one.line);
  holds = λ history are all. always history are;
}

pub learns_weaker : (before after : ClientValue) (Holds Weaker : History → Type 0) → ((history : History) → AreConfigs history → Holds history → Weaker history) →
    Learns before after Holds → Learns before after Weaker
learns_weaker before after Holds Weaker weaker it = record {
  told = it.told;
  events = it.events;
  are_exchanged = it.are_exchanged;
  logged = it.logged;
  same_switch = it.same_switch;
  reads_only = it.reads_only;
  holds = λ history are all. weaker history are (it.holds history are all);
}

pub learns_then : (before mid after : ClientValue) (First Then : History → Type 0) → Learns before mid First → Learns mid after Then →
    Learns before after (λ history. First history × Then history)
learns_then before mid after First Then one two = record {
  told = one.told ++ two.told;
  events = one.events ++ two.events;
  are_exchanged = exchanged-append before.switch one.told two.told one.events two.events one.are_exchanged
      (subst (λ switch. AreExchanged switch two.told two.events) one.same_switch two.are_exchanged);
  logged = logs_more before.log mid.log after.log one.events two.events one.logged two.logged;
  same_switch = two.same_switch ∙ one.same_switch;
  reads_only = All-append (λ one. IsReadLine one.line) one.told two.told one.reads_only two.reads_only;
  holds = λ history are all. (
    one.holds history are (all_left (IsTrueTo history) one.told two.told all),
    two.holds history are (all_right (IsTrueTo history) one.told two.told all),
  );
}

pub learns_asked : (before after : ClientValue) (line reply : List ℕ) (Holds : History → Type 0) → after.switch ≡ before.switch → IsReadLine line →
    Asks before.switch line reply before.log after.log →
    ((history : History) → AreConfigs history → IsTrueTo history (record { line = line; reply = reply }) → Holds history) →
    Learns before after Holds
learns_asked before after line reply Holds same reads asked holds = record {
  told = record { line = line; reply = reply } ∷ [];
  events = asked.events;
  are_exchanged = one_more [] [] asked.events line reply no_line asked.is_exchange;
  logged = asked.logged;
  same_switch = same;
  reads_only = All-cons (λ one. IsReadLine one.line) _ [] reads (All-nil (λ one. IsReadLine one.line));
  holds = λ history are all. holds history are (All-head (IsTrueTo history) _ [] all);
}

pub if_some_all : {X : Type 0} (P Q : X → Type 0) → ((x : X) → P x → Q x) → (option : Option X) → IfSome option P → IfSome option Q
if_some_all P Q weaker None holds = tt
if_some_all P Q weaker (Some x) holds = weaker x holds
