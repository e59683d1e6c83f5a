-- What comes while a line waits, and how the line ends by that.
use Rattle.std.proofs.Common.{◌≡◌, ◌∙◌, ◌<◌, ◌++◌, ◌∷◌, Bool, Bor, Err, List, Ok, Option, Result, None, Some, [], ap, false, is_err, length, not-suc-le-zero, refl, subst, sym, take, true, true≢false, ℕ}
use Rattle.std.specs.Prelude.{IfErr, MatchOption, OnErr}
use Rattle.std.proofs.lemmas.List.Elements.{All-push}
use Rattle.control_client.specs.declared.device.Peer.{Peer}
use Rattle.control_client.specs.declared.asking.TheConstants.{FOREIGN_LIMIT}
use Rattle.control_client.specs.Carried.{IsCarried, IsRefusedUnsent}
use Rattle.control_client.specs.declared.device.Came.{Came}
use Rattle.control_client.specs.declared.device.WireFailed.{WireFailed}
use Rattle.command_line.specs.declared.ending.Failure.{Failure}
use Rattle.command_line.specs.declared.ending.Failure.TheVariants.{NoAnswer, WriteFailed}
use Rattle.command_line.specs.Ending.{AppendsBeginning}
use Rattle.control_client.specs.Exchange.{Asks, IsExchange, IsForeign, LineEndsBy, LineUnprinted, answered, not_sent, outnumbered, reply_line, timed_out, unsent}
use Rattle.control_client.specs.Wire.{Event, Logs, came, came_by, none_came, send_failed, sent, sent_by, wait_failed}
use Rattle.control_client.specs.body.Asking.{Hears, HearsNone, Passes, broken, out_of_time, too_many}
use Rattle.control_client.proofs.WireLemmas.{logs_more, logs_nothing}

pub passes_none : (switch : Peer) (log : Option (List Event)) → Passes switch [] log log
passes_none switch log = record { are_foreign = λ k d below. absurd (not-suc-le-zero below); logged = logs_nothing log }

pub passes_more : (switch from : Peer) (bytes : List ℕ) (passed : List Event) (before mid after : Option (List Event)) → Passes switch passed before mid
    → IsForeign switch (came from bytes) → Logs mid after (came from bytes ∷ []) → Passes switch (passed ++ came from bytes ∷ []) before after
passes_more switch from bytes passed before mid after so_far foreign logged = record {
  are_foreign = All-push (IsForeign switch) passed (came from bytes) so_far.are_foreign foreign;
  logged = logs_more before mid after passed (came from bytes ∷ []) so_far.logged logged;
}

-- the line was sent, and then an answer was heard
pub exchanged : (switch : Peer) (line reply : List ℕ) (before mid after : Option (List Event)) → IsCarried switch line → Logs before mid (sent switch line ∷ [])
    → Hears switch reply mid after → Asks switch line reply before after
exchanged switch line reply before mid after carried was_sent heard = record {
  events = sent switch line ∷ (heard.passed ++ came switch reply ∷ []);
  is_exchange = answered reply (sent switch line ∷ (heard.passed ++ came switch reply ∷ [])) carried (record { passed = heard.passed; are_foreign = heard.are_foreign; few = heard.few; events_are = refl });
  logged = logs_more before mid after (sent switch line ∷ []) (heard.passed ++ came switch reply ∷ []) was_sent heard.logged;
}

-- or none
pub unheard : (fault : Failure) (switch : Peer) (line : List ℕ) (before mid after : Option (List Event)) (out : Option (List ℕ)) → IsCarried switch line
    → Logs before mid (sent switch line ∷ []) → HearsNone fault switch mid after → LineEndsBy fault switch line before after out out
unheard _ switch line before mid after out carried was_sent (out_of_time _ _ _ passed foreign few logged) = record {
  events = sent switch line ∷ (passed ++ none_came ∷ []);
  is_last = timed_out carried passed foreign few;
  logged = logs_more before mid after (sent switch line ∷ []) (passed ++ none_came ∷ []) was_sent logged;
  not_printed = refl;
}
unheard _ switch line before mid after out carried was_sent (too_many _ _ _ passed foreign count logged) = record {
  events = sent switch line ∷ passed;
  is_last = outnumbered carried passed foreign count;
  logged = logs_more before mid after (sent switch line ∷ []) passed was_sent logged;
  not_printed = refl;
}
unheard _ switch line before mid after out carried was_sent (broken _ _ _ passed foreign few logged) = record {
  events = sent switch line ∷ (passed ++ wait_failed ∷ []);
  is_last = record { carried = carried; passed = passed; are_foreign = foreign; few = few; events_are = refl };
  logged = logs_more before mid after (sent switch line ∷ []) (passed ++ wait_failed ∷ []) was_sent logged;
  not_printed = refl;
}

-- a send logged that it failed, or the line
pub sent_nothing : {E : Type 0} (result : Result (Unit {0}) E) (to : Peer) (bytes : List ℕ) (log log' : Option (List Event)) → is_err result ≡ true
    → Logs log log' (sent_by result to bytes) → Logs log log' (send_failed to bytes ∷ [])
sent_nothing (Ok done) to bytes log log' failed logged = absurd (true≢false (sym failed))
sent_nothing (Err fault) to bytes log log' failed logged = logged

pub sent_line : {E : Type 0} (result : Result (Unit {0}) E) (to : Peer) (bytes : List ℕ) (log log' : Option (List Event)) → is_err result ≡ false
    → Logs log log' (sent_by result to bytes) → Logs log log' (sent to bytes ∷ [])
sent_line (Ok done) to bytes log log' failed logged = logged
sent_line (Err fault) to bytes log log' failed logged = absurd (true≢false failed)

pub failed_send : (switch : Peer) (line : List ℕ) (log log' : Option (List Event)) (out : Option (List ℕ)) → IsCarried switch line
    → Logs log log' (send_failed switch line ∷ []) → LineEndsBy NoAnswer switch line log log' out out
failed_send switch line log log' out carried logged = record { events = send_failed switch line ∷ []; is_last = not_sent carried; logged = logged; not_printed = refl }

-- the line is carried, or not
pub carried : (switch : Peer) (line : List ℕ) (reply : Option (Bor (List ℕ))) → ((given : Bor (List ℕ)) → reply ≡ Some given → ⊥)
    → MatchOption reply (IsCarried switch line) (λ given. IsRefusedUnsent switch line given.now) → IsCarried switch line
carried switch line None none is = is
carried switch line (Some given) none is = absurd (none given refl)

pub refused_unsent : (switch : Peer) (line reply : List ℕ) (log : Option (List Event)) → IsRefusedUnsent switch line reply → Asks switch line reply log log
refused_unsent switch line reply log refused = record { events = []; is_exchange = unsent reply refused; logged = logs_nothing log }

-- a line was exchanged, and its reply is printed, or a beginning of it
module _ (switch : Peer) (line reply : List ℕ) (events : List Event) (log log' : Option (List Event)) (out out' : Option (List ℕ)) (exchange : IsExchange switch line reply events)
    (logged : Logs log log' events) where
  pub line_unprinted : (result : Result Bool Failure) → OnErr result (AppendsBeginning out out' (reply_line reply)) → IfErr result (λ (fault : Failure). fault ≡ WriteFailed)
      → IfErr result (λ (fault : Failure). LineEndsBy fault switch line log log' out out')
  line_unprinted (Ok refused) begun is = tt
  line_unprinted (Err fault) begun is =
      let unprinted : LineUnprinted switch line log log' out out' = record { reply = reply; events = events; is_exchange = exchange; logged = logged; printed = begun } in
      subst (λ (f : Failure). LineEndsBy f switch line log log' out out') (sym is) unprinted

-- ---- a reply and where it came from

-- a receive that gave a datagram, or none in time
pub gave_one : (result : Result (Option Came) WireFailed) (answer : Option Came) (one : Came) (buffer : List ℕ) (log log' : Option (List Event)) → result ≡ Ok answer → answer ≡ Some one
    → Logs log log' (came_by result buffer) → Logs log log' (came one.from (take one.len buffer) ∷ [])
gave_one result answer one buffer log log' is some logged =
    subst (λ (r : Result (Option Came) WireFailed). Logs log log' (came_by r buffer)) (is ∙ ap (λ (a : Option Came). Ok a) some) logged

pub gave_none : (result : Result (Option Came) WireFailed) (answer : Option Came) (buffer : List ℕ) (log log' : Option (List Event)) → result ≡ Ok answer → answer ≡ None
    → Logs log log' (came_by result buffer) → Logs log log' (none_came ∷ [])
gave_none result answer buffer log log' is none logged =
    subst (λ (r : Result (Option Came) WireFailed). Logs log log' (came_by r buffer)) (is ∙ ap (λ (a : Option Came). Ok a) none) logged

-- the datagram is the switch's
pub hears : (switch : Peer) (one : Came) (bytes : List ℕ) (passed : List Event) (before mid after : Option (List Event)) → Passes switch passed before mid
    → length passed < FOREIGN_LIMIT → one.from ≡ switch → Logs mid after (came one.from bytes ∷ []) → Hears switch bytes before after
hears switch one bytes passed before mid after so_far few is logged = record {
  passed = passed;
  are_foreign = so_far.are_foreign;
  few = few;
  logged = logs_more before mid after passed (came switch bytes ∷ []) so_far.logged (subst (λ (from : Peer). Logs mid after (came from bytes ∷ [])) is logged);
}
