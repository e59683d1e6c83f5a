-- Lines that are told one by one, or as one change, and what is shown of them.
use Rattle.std.proofs.Common.{◌≡◌, ◌≢◌, ◌∙◌, ◌||◌, ◌++◌, ◌∷◌, ◌⊎◌, Bool, Err, List, None, Ok, Option, Result, [], ap, false, inl, inr, refl, subst, suc, sym, true, ℕ, arith}
use Rattle.std.specs.Prelude.{IfErr, IfOk, OnErr}
use Rattle.clap.specs.Words.{Text}
use Rattle.control_client.specs.Exchange.{has_refusal, is_refusal}
use Rattle.control_client.specs.Refused.{Refusal, ShownOn, ShowsAll, ShowsIf, Told, exchanges_of, none_shown, one_shown, refusal_of, refusals_of}
use Rattle.control_client.specs.Tell.{ChangeStopsOverSocket, StopsOverSocket, TellsAll, TellsChange, not_made, socket_not_made, stopped_behind}
use Rattle.command_line.specs.ControlAddress.{IsNoControlAddress, SpellsControlAddress}
use Rattle.command_line.specs.declared.control_address.ControlAddress.{ControlAddress}
use Rattle.command_line.specs.declared.control_address.ControlAddress.TheVariants.{Udp, Unix}
use Rattle.command_line.specs.declared.ending.Failure.{Failure}
use Rattle.command_line.specs.declared.ending.Failure.TheVariants.{OutOfMemory}
use Rattle.command_line.specs.declared.ending.Failure.TheVariants as failure
use Rattle.command_streams.specs.Failures.{FailuresValue, InputFails}
use Rattle.control_client.specs.Lines.{LinesFail}
use Rattle.command_line.specs.declared.ending.Status.TheVariants.{Done, Refused}
use Rattle.control_client.specs.declared.device.Peer.{Peer}
use Rattle.control_line.specs.Answer.{NumberedLine}
use Rattle.command_operating.specs.RefusalLines.{Shows}
use Rattle.command_operating.specs.Telling.{StopsTelling, Tells, is_one_line, joined, lines_of_words}

-- ---- nothing is refused, so nothing is shown

none_refused : (told : List Told) → has_refusal (exchanges_of told) ≡ false → refusals_of told ≡ []
none_refused [] is = refl
none_refused (one ∷ rest) is = by_reply (is_refusal one.reply) refl is (none_refused rest)
  where
    by_reply : (refused : Bool) → is_refusal one.reply ≡ refused → (is_refusal one.reply || has_refusal (exchanges_of rest)) ≡ false
        → (has_refusal (exchanges_of rest) ≡ false → refusals_of rest ≡ []) → refusals_of (one ∷ rest) ≡ []
    by_reply true same is later = absurd (let never : true ≡ false = simp same at is in cc)
    by_reply false same is later = simp same (later (simp same at is))

module _ {S : Type 0} (ShowsOne : S → S → Refusal → Type 0) where
  unshown : (start end : S) (refusals : List Refusal) → ShowsAll ShowsOne start end refusals → refusals ≡ [] → end ≡ start
  unshown start end refusals none_shown is = refl
  unshown start end refusals (one_shown mid last earlier one so_far shown) is = absurd (not_empty earlier is)
    where
      not_empty : (l : List Refusal) → l ++ one ∷ [] ≡ [] → ⊥
      not_empty [] is = absurd (cc)
      not_empty (x ∷ l) is = absurd (cc)

  pub untold_lines : (result : Result Bool Failure) (switch : Peer) (lines : Option (List NumberedLine)) (before after : Option (List ℕ)) (start end : S)
      → IfOk result (TellsAll ShowsOne switch lines None None before after start end) → IfOk result (λ refused. refused ≡ false → end ≡ start)
  untold_lines (Ok refused) switch lines before after start end told = λ is.
      unshown start end (refusals_of told.told) told.all_shown (none_refused told.told (sym told.refused_is ∙ is))
  untold_lines (Err fault) switch lines before after start end told = tt

  pub untold_change : (result : Result Bool Failure) (switch : Peer) (lines : Option (List NumberedLine)) (before after : Option (List ℕ)) (start end : S)
      → IfOk result (TellsChange ShowsOne switch lines None None before after start end) → IfOk result (λ refused. refused ≡ false → end ≡ start)
  untold_change (Ok true) switch lines before after start end told = λ is. absurd (cc)
  untold_change (Ok false) switch lines before after start end told = λ is. told.told.shown_if
  untold_change (Err fault) switch lines before after start end told = tt

-- ---- what is shown, by the bytes of the writer

module _ {S : Type 0} (contents : S → Option (List ℕ)) where
  by_contents : (start end : S) (refusals : List Refusal) → ShowsAll (ShownOn contents Shows) start end refusals → ShowsAll Shows (contents start) (contents end) refusals
  by_contents start end refusals none_shown = none_shown
  by_contents start end refusals (one_shown mid last earlier one so_far shown) =
      one_shown (contents mid) (contents last) earlier one (by_contents start mid earlier so_far) shown

  if_by_contents : (start end : S) (one : Refusal) (refused : Bool) → ShowsIf (ShownOn contents Shows) start end one refused → ShowsIf Shows (contents start) (contents end) one refused
  if_by_contents start end one true shown = shown
  if_by_contents start end one false same = ap contents same

  module _ (switch : Peer) (lines : Option (List NumberedLine)) (before after : Option (List ℕ)) (start end : S) where
    all_told : (refused : Bool) → TellsAll (ShownOn contents Shows) switch lines None None before after start end refused
        → TellsAll Shows switch lines None None before after (contents start) (contents end) refused
    all_told refused told = record {
      told = told.told;
      events = told.events;
      all_lines = told.all_lines;
      are_exchanged = told.are_exchanged;
      logged = told.logged;
      printed = told.printed;
      refused_is = told.refused_is;
      all_shown = by_contents start end (refusals_of told.told) told.all_shown;
    }

    change_told : (refused : Bool) → TellsChange (ShownOn contents Shows) switch lines None None before after start end refused
        → TellsChange Shows switch lines None None before after (contents start) (contents end) refused
    change_told refused told = record {
      request = told.request;
      is_change = told.is_change;
      told = record {
        reply = told.told.reply;
        events = told.told.events;
        is_exchange = told.told.is_exchange;
        logged = told.told.logged;
        printed = told.told.printed;
        refused_is = told.told.refused_is;
        shown_if = if_by_contents start end (refusal_of (record { request = told.request; reply = told.told.reply })) refused told.told.shown_if;
      };
    }

    lines_stopped : (fault : Failure) → StopsOverSocket (ShownOn contents Shows) fault switch lines before after start end
        → StopsOverSocket Shows fault switch lines before after (contents start) (contents end)
    lines_stopped fault (not_made why same unshown) = not_made why same (ap contents unshown)
    lines_stopped fault (stopped_behind first) = stopped_behind (record {
      told = first.told;
      events = first.events;
      log_then = first.log_then;
      out_then = first.out_then;
      are_exchanged = first.are_exchanged;
      logged = first.logged;
      printed = first.printed;
      first_shown = by_contents start end (refusals_of first.told) first.first_shown;
      stopped = first.stopped;
    })

    pub tells_lines : (all : Bool) (result : Result Bool Failure) → all ≡ false → IfOk result (TellsAll (ShownOn contents Shows) switch lines None None before after start end)
        → IfOk result (Tells all switch lines before after (contents start) (contents end))
    tells_lines all (Ok refused) is told = subst (λ (b : Bool). Tells b switch lines before after (contents start) (contents end) refused) (sym is) (all_told refused told)
    tells_lines all (Err fault) is told = tt

    pub tells_change : (all : Bool) (result : Result Bool Failure) → all ≡ true → IfOk result (TellsChange (ShownOn contents Shows) switch lines None None before after start end)
        → IfOk result (Tells all switch lines before after (contents start) (contents end))
    tells_change all (Ok refused) is told = subst (λ (b : Bool). Tells b switch lines before after (contents start) (contents end) refused) (sym is) (change_told refused told)
    tells_change all (Err fault) is told = tt

    pub stops_lines : (all : Bool) (result : Result Bool Failure) → all ≡ false
        → IfErr result (λ fault. StopsOverSocket (ShownOn contents Shows) fault switch lines before after start end)
        → IfErr result (λ fault. StopsTelling all fault switch lines before after (contents start) (contents end))
    stops_lines all (Ok refused) is stopped = tt
    stops_lines all (Err fault) is stopped =
        subst (λ (b : Bool). StopsTelling b fault switch lines before after (contents start) (contents end)) (sym is) (lines_stopped fault stopped)

    pub stops_change : (all : Bool) (result : Result Bool Failure) → all ≡ true → IfErr result (λ fault. ChangeStopsOverSocket fault switch lines before after)
        → OnErr result (end ≡ start) → IfErr result (λ fault. StopsTelling all fault switch lines before after (contents start) (contents end))
    stops_change all (Ok refused) is stopped unshown = tt
    stops_change all (Err fault) is stopped unshown =
        subst (λ (b : Bool). StopsTelling b fault switch lines before after (contents start) (contents end)) (sym is) (stopped, ap contents unshown)

-- ---- no memory for the lines

pub stops_early : (all : Bool) (fault : Failure) (switch : Peer) (lines : Option (List NumberedLine)) (before told : Option (List ℕ)) → fault ≡ OutOfMemory
    → StopsTelling all fault switch lines before before told told
stops_early false fault switch lines before told is = not_made (inr (inr is)) refl refl
stops_early true fault switch lines before told is = (socket_not_made (inr (inr is)) refl, refl)

-- a command whose address was read is not refused for it
pub never_unshown : {X : Type 0} (control : Text) (address : ControlAddress) (one two : X) → SpellsControlAddress control address
    → (Refused ≡ Done) ⊎ ((Refused ≡ Refused) × IsNoControlAddress control) → two ≡ one
never_unshown control address one two spelled (inl done) = absurd (not_both done)
  where
    not_both : Refused ≡ Done → ⊥
    not_both both = absurd (cc)
never_unshown control address one two spelled (inr (refused, none)) = absurd (by_address address spelled)
  where
    by_address : (a : ControlAddress) → SpellsControlAddress control a → ⊥
    by_address (Udp endpoint) spelled = none.no_endpoint endpoint spelled.0 spelled.1
    by_address (Unix path) spelled = none.no_path path.now spelled.0 spelled.1

-- ---- the lines of words

pub one_each : (words : List Text) → is_one_line words ≡ false → lines_of_words words ≡ words
one_each words is = simp is refl

pub all_one : (words : List Text) → is_one_line words ≡ true → lines_of_words words ≡ joined words ∷ []
all_one words is = simp is refl

-- ---- reads of the input that failed

pub input_fails : {A : Type 0} (result : Result A Failure) (before after : FailuresValue) → LinesFail result before after → InputFails result before.count after.count
input_fails (Ok done) before after fails = ap (λ (f : FailuresValue). f.count) fails
input_fails (Err failure.ReadFailed) before after fails = ap (λ (f : FailuresValue). f.count) fails
input_fails (Err failure.WriteFailed) before after fails = ap (λ (f : FailuresValue). f.count) fails
input_fails (Err failure.OutOfMemory) before after fails = ap (λ (f : FailuresValue). f.count) fails
input_fails (Err failure.SpawnFailed) before after fails = ap (λ (f : FailuresValue). f.count) fails
input_fails (Err failure.BindFailed) before after fails = ap (λ (f : FailuresValue). f.count) fails
input_fails (Err failure.PollFailed) before after fails = ap (λ (f : FailuresValue). f.count) fails
input_fails (Err failure.NoAnswer) before after fails = ap (λ (f : FailuresValue). f.count) fails
input_fails (Err failure.RulesChanged) before after fails = ap (λ (f : FailuresValue). f.count) fails

-- the failures were those of another input
pub input_fails_as : {A : Type 0} (result : Result A Failure) (read read' : ℕ) (before after : FailuresValue) → before.count ≡ read → read' ≡ after.count
    → LinesFail result before after → InputFails result read read'
input_fails_as result read read' before after from to fails =
    subst (λ (n : ℕ). InputFails result read n) (sym to) (subst (λ (n : ℕ). InputFails result n after.count) from (input_fails result before after fails))

-- the borrow stays the same
pub lines_borrow : {A : Type 0} (result : Result A Failure) (before after : FailuresValue) → LinesFail result before after → after.borrow ≡ before.borrow
lines_borrow (Ok done) before after fails = ap (λ (f : FailuresValue). f.borrow) fails
lines_borrow (Err failure.ReadFailed) before after fails = ap (λ (f : FailuresValue). f.borrow) fails
lines_borrow (Err failure.WriteFailed) before after fails = ap (λ (f : FailuresValue). f.borrow) fails
lines_borrow (Err failure.OutOfMemory) before after fails = ap (λ (f : FailuresValue). f.borrow) fails
lines_borrow (Err failure.SpawnFailed) before after fails = ap (λ (f : FailuresValue). f.borrow) fails
lines_borrow (Err failure.BindFailed) before after fails = ap (λ (f : FailuresValue). f.borrow) fails
lines_borrow (Err failure.PollFailed) before after fails = ap (λ (f : FailuresValue). f.borrow) fails
lines_borrow (Err failure.NoAnswer) before after fails = ap (λ (f : FailuresValue). f.borrow) fails
lines_borrow (Err failure.RulesChanged) before after fails = ap (λ (f : FailuresValue). f.borrow) fails

-- no read was tried
pub unread_fails : {A : Type 0} (result : Result A Failure) (read : ℕ) → IfErr result (λ fault. fault ≢ failure.ReadFailed) → InputFails result read read
unread_fails (Ok done) read other = refl
unread_fails (Err failure.ReadFailed) read other = absurd (other refl)
unread_fails (Err failure.WriteFailed) read other = refl
unread_fails (Err failure.OutOfMemory) read other = refl
unread_fails (Err failure.SpawnFailed) read other = refl
unread_fails (Err failure.BindFailed) read other = refl
unread_fails (Err failure.PollFailed) read other = refl
unread_fails (Err failure.NoAnswer) read other = refl
unread_fails (Err failure.RulesChanged) read other = refl

-- lines whose failures stay the same are not read
pub words_unread : {A : Type 0} (result : Result A Failure) (before : FailuresValue) → LinesFail result before before → IfErr result (λ fault. fault ≢ failure.ReadFailed)
words_unread (Ok done) before fails = tt
words_unread (Err failure.ReadFailed) before fails = absurd (grows before.count (ap (λ (f : FailuresValue). f.count) fails))
  where
    grows : (n : ℕ) → n ≡ suc n → ⊥
    grows n is = let same = is in omega arith
words_unread (Err failure.WriteFailed) before fails = λ is. cc
words_unread (Err failure.OutOfMemory) before fails = λ is. cc
words_unread (Err failure.SpawnFailed) before fails = λ is. cc
words_unread (Err failure.BindFailed) before fails = λ is. cc
words_unread (Err failure.PollFailed) before fails = λ is. cc
words_unread (Err failure.NoAnswer) before fails = λ is. cc
words_unread (Err failure.RulesChanged) before fails = λ is. cc
