-- What the counters that were read make of `metrics` and `top`.
use Rattle.std.proofs.Common.{◌≡◌, ◌≢◌, ◌∙◌, ◌<◌, ◌+◌, ◌⊎◌, ◌++◌, Bool, List, None, Option, Some, [], ap, append-nil, append_assoc, inl, inr, refl, subst, sym, ℕ}
use Rattle.std.specs.Prelude.{Err, IfErr, IsErrAnd, Ok, OnErr, OnOk, Result, option_map}
use Rattle.std.specs.Borrow.{Bor}
use Rattle.std.specs.Io.KnownBytes.{Appends}
use Rattle.clap.specs.Words.{Text}
use Rattle.ipv4_fields.specs.Endpoint.{IsEndpoint, endpoint_text}
use Rattle.ipv4_fields.specs.declared.endpoint.Endpoint.{Endpoint}
use Rattle.command_line.specs.ControlAddress.{SpellsControlAddress}
use Rattle.command_line.specs.Ending.{AppendsBeginning, line_of}
use Rattle.command_line.specs.Input.{IsInput}
use Rattle.command_operating.specs.Files.{first_bytes}
use Rattle.command_line.specs.declared.control_address.ControlAddress.{ControlAddress}
use Rattle.command_line.specs.declared.ending.Failure.{Failure}
use Rattle.command_line.specs.declared.ending.Failure.TheVariants.{BindFailed, NoAnswer, OutOfMemory, PollFailed, ReadFailed, RulesChanged, SpawnFailed, WriteFailed}
use Rattle.command_line.specs.declared.ending.Status.{Status}
use Rattle.command_line.specs.declared.ending.Status.TheVariants.{Failed}
use Rattle.command_streams.specs.Failures.{FailuresValue, InputFails, OutputFails}
use Rattle.command_streams.proofs.FailureLemmas.{both_causes}
use Rattle.command_streams.proofs.OutputLemmas.{ends_once}
use Rattle.control_client.specs.Exchange.{AreExchanged, Exchange}
use Rattle.control_client.specs.Wire.{peer_of}
use Rattle.control_client.specs.declared.device.Peer.{Peer}
use Rattle.control_rules.specs.History.{ClientValue, History}
use Rattle.control_counters.specs.Frame.{IsFrameOf}
use Rattle.control_counters.specs.Reading.{AreCountersOf}
use Rattle.control_counters.specs.Watching.{Watches}
use Rattle.counter_text.specs.Metrics.{metrics_text}
use Rattle.counter_text.specs.Screen.{screen_text}
use Rattle.counter_text.specs.declared.counters.Counters.{Counters}
use Rattle.counter_text.specs.declared.counters.FrontDrops.{FrontDrops}
use Rattle.command_operating.specs.Measured.{AreFrontDrops, AreScreens, EndsByCauseOrTable, IsNoFront, MayFailMeasuring, PrintsMetrics, PrintsTop, ShowsNoDrops, TopFails, WatchesOf, WritesMetrics, WritesScreens, WritesTop, clear_text, first_reading, one_more}
use Rattle.command_operating.specs.Printing.{Begins, IsAskFault, PrintFails}
use Rattle.command_operating.specs.Reported.{IsTold, told_alone}
use Rattle.control_counters.proofs.WatchLemmas.{watches_then, watches_weaker}
use Rattle.command_operating.specs.body.Front.{FailsByTable, IsDropless, IsFrontOf, IsGivenFront, WritesCounters}
use Rattle.command_operating.specs.body.Screens.{Shows, ShowsFewer, ShowsMore}
use Rattle.command_operating.proofs.PrintingLemmas.{begins_as, begins_text, fault_as, print_fail}

pub watched : (before after : ClientValue) (switch : Peer) (Holds : History → List Exchange → Type 0) → before.switch ≡ switch → Watches before after Holds → WatchesOf switch Holds
watched before after switch Holds is watches = record {
  told = watches.told;
  events = watches.events;
  are_exchanged = subst (λ (s : Peer). AreExchanged s watches.told watches.events) is watches.are_exchanged;
  holds = watches.holds;
}

-- the drops of the front that is given
pub drops_given : (known : Option (List ℕ)) (front : Option Text) (endpoint : Option Endpoint) (drops : Option FrontDrops) → IsGivenFront front endpoint
    → IsFrontOf known endpoint drops → AreFrontDrops known front drops
drops_given known None None None given of = tt
drops_given known None None (Some it) given of = of
drops_given known None (Some e) drops given of = absurd given
drops_given known (Some text) None drops given of = absurd given
drops_given known (Some text) (Some e) None given of = of
drops_given known (Some text) (Some e) (Some it) given of = (
  subst (λ (front : Endpoint). IsEndpoint front) (sym of.0) given.0,
  given.1 ∙ ap endpoint_text (sym of.0),
  of.1,
)

-- ---- screens

-- the last reading is one of the switch
pub last_known : (history : History) (clears : Bool) (count : ℕ) (told : List Exchange) (last : Counters) (text : List ℕ) → AreScreens history clears count told last text →
    IsFrameOf (history last.version) last
last_known history clears _ told last _ (first_reading _ _ are) = are.frame
last_known history clears _ _ last _ (one_more _ _ _ _ _ _ _ screens are long) = are.frame

-- one more part of a text
pub appended : (start mid end : Option (List ℕ)) (front next : List ℕ) → Appends start mid front → Appends mid end next → Appends start end (front ++ next)
appended None mid end front next first then = tt
appended (Some a) None end front next first then = absurd first
appended (Some a) (Some b) None front next first then = absurd then
appended (Some a) (Some b) (Some c) front next first then = then ∙ ap (λ it. it ++ next) first ∙ append_assoc a front next

pub nothing_more : (start end : Option (List ℕ)) → end ≡ start → Appends start end []
nothing_more None end same = tt
nothing_more (Some a) None same = absurd (cc)
nothing_more (Some a) (Some b) same = let it : b ≡ a = cc in it ∙ sym (append-nil a)

module _ (clears : Bool) (start : ClientValue) (out : Option (List ℕ)) where
  -- so many screens up to here
  pub record AreShown (count : ℕ) (then : ClientValue) (out' : Option (List ℕ)) (last : Counters) : Type 0 where
    pub text : List ℕ
    pub watches : Watches start then (λ history told. AreScreens history clears count told last text)
    pub written : Appends out out' text

  pub none_shown : (then : ClientValue) (first : Counters) → Watches start then (λ history told. AreCountersOf history told first) → AreShown 0 then out first
  none_shown then first watches = record {
    text = [];
    watches = watches_weaker start then _ _ (λ history told are it. first_reading told first it) watches;
    written = nothing_more out out refl;
  }

  pub one_shown : (count : ℕ) (mid then : ClientValue) (out' out'' : Option (List ℕ)) (last : Bor Counters) (later : Counters) → AreShown count mid out' last.now →
      ShowsMore clears last mid then out' out'' later → AreShown (count + 1) then out'' later
  one_shown count mid then out' out'' last later shown more = record {
    text = shown.text ++ (clear_text clears ++ screen_text last.now later more.millis);
    watches = watches_weaker start then _ _
        (λ history told are it.
        subst (λ told. AreScreens history clears (count + 1) told later (shown.text ++ (clear_text clears ++ screen_text last.now later more.millis))) (sym it.whole)
        (one_more count it.one it.more last.now later shown.text more.millis it.first (it.next (last_known history clears count it.one last.now shown.text it.first)) more.long))
        (watches_then start mid then _ _ shown.watches more.watches);
    written = appended out out' out'' shown.text (clear_text clears ++ screen_text last.now later more.millis) shown.written more.written;
  }

  pub shows : (count : ℕ) (then : ClientValue) (out' : Option (List ℕ)) (last : Counters) → AreShown count then out' last → Shows clears count start then out out'
  shows count then out' last it = record { text = it.text; last = last; watches = it.watches; written = it.written }

  pub shows_fewer : (all count : ℕ) (then : ClientValue) (out' : Option (List ℕ)) (last : Counters) → count < all → AreShown count then out' last →
      ShowsFewer clears all start.switch out out'
  shows_fewer all count then out' last fewer it =
      inr (count, fewer, record { text = it.text; last = last; are_screens = watched start then start.switch _ refl it.watches; written = it.written })

-- ---- how a command ended

pub if_err : {A E : Type 0} (result : Result A E) (fault : E) (P : E → Type 0) → IsErrAnd result (λ told. told ≡ fault) → P fault → IfErr result P
if_err (Ok done) fault P told is = tt
if_err (Err given) fault P told is = subst P (sym told) is

pub on_ok_all : {A E : Type 0} {P Q : Type 0} (result : Result A E) → (P → Q) → OnOk result P → OnOk result Q
on_ok_all (Ok done) weaker holds = weaker holds
on_ok_all (Err why) weaker holds = tt

pub writes_screens : (before after : ClientValue) (switch : Peer) (clears : Bool) (count : ℕ) (out out' : Option (List ℕ)) → before.switch ≡ switch →
    Shows clears count before after out out' → WritesScreens switch clears count out out'
writes_screens before after switch clears count out out' is shows = record {
  text = shows.text;
  last = shows.last;
  are_screens = watched before after switch _ is shows.watches;
  written = shows.written;
}

pub writes_metrics : (control : Text) (known : Option (List ℕ)) (address : ControlAddress) (front : Option Text) (endpoint : Option Endpoint) (before after : Option (List ℕ)) →
    SpellsControlAddress control address → IsGivenFront front endpoint → WritesCounters (peer_of address) known endpoint before after
    → WritesMetrics control known front before after
writes_metrics control known address front endpoint before after spells given prints = record {
  address = address;
  is_address = spells;
  counters = prints.counters;
  drops = prints.drops;
  are_counters = prints.are_counters;
  are_drops = drops_given known front endpoint prints.drops given prints.are_drops;
  written = prints.written;
}

-- why and how `metrics` failed
front_is_good : (front : Option Text) (endpoint : Option Endpoint) → IsGivenFront front endpoint → IsNoFront front → ⊥
front_is_good None endpoint given none = none
front_is_good (Some text) None given none = given
front_is_good (Some text) (Some endpoint) given none = none endpoint given.0 given.1

front_is_given : (front : Option Text) (endpoint : Option Endpoint) → IsGivenFront front endpoint → endpoint ≢ None → front ≢ None
front_is_given None None given some is = some refl
front_is_given None (Some endpoint) given some is = given
front_is_given (Some text) endpoint given some is = cc

pub fail_measuring : {X : Type 0} (control : Text) (known : Option (List ℕ)) (address : ControlAddress) (front : Option Text) (endpoint : Option Endpoint)
    (contents : X → Option (List ℕ)) (old new : X) (told_before told_after : Option (List ℕ)) → SpellsControlAddress control address → IsGivenFront front endpoint
    → (failure : Failure) → IsAskFault (endpoint ≢ None) address failure → (failure ≢ WriteFailed → new ≡ old)
    → (failure ≡ WriteFailed → Begins (WritesCounters (peer_of address) known endpoint) (contents old) (contents new)) → IsTold (Some control) failure told_before told_after
    → PrintFails (PrintsMetrics control known front) (MayFailMeasuring control front) (Some control) (contents old) (contents new) told_before told_after failure
fail_measuring control known address front endpoint contents old new told_before told_after spells given failure fault unwritten begun told =
    print_fail (PrintsMetrics control known front) (MayFailMeasuring control front) (Some control) contents old new told_before told_after failure
    (front_is_good front endpoint given, (address, spells, fault_as (endpoint ≢ None) (front ≢ None) address failure (front_is_given front endpoint given) fault))
    unwritten
    (λ is.
    begins_as (WritesCounters (peer_of address) known endpoint) (PrintsMetrics control known front) (contents old) (contents new)
    (λ whole prints. inl (writes_metrics control known address front endpoint (contents old) whole spells given prints)) (begun is))
    told

-- a front that is given, of which nothing was read
pub fault_of_table : {A : Type 0} (address : ControlAddress) (front : Option Endpoint) (result : Result A Failure) → OnErr result (front ≢ None)
    → IfErr result (λ failure. (failure ≡ ReadFailed) ⊎ (failure ≡ OutOfMemory)) → IfErr result (IsAskFault (front ≢ None) address)
fault_of_table address front (Ok value) given cause = tt
fault_of_table address front (Err failure) given (inl is) = record { no_thread = λ same. cc; over_udp = λ same path. cc; of_file = λ same. given }
fault_of_table address front (Err failure) given (inr is) = record { no_thread = λ same. cc; over_udp = λ same path. cc; of_file = λ same. given }

-- the text of the counters was not written whole
pub counters_begun : (switch : Peer) (known : Option (List ℕ)) (front : Option Endpoint) (before after : Option (List ℕ)) (counters : Counters) (drops : Option FrontDrops)
    → WatchesOf switch (λ history told. AreCountersOf history told counters) → IsFrontOf known front drops → AppendsBeginning before after (metrics_text counters drops)
    → Begins (WritesCounters switch known front) before after
counters_begun switch known front before after counters drops are_counters are_drops so_far =
    begins_text (WritesCounters switch known front) before after (metrics_text counters drops) so_far
    (λ whole written. record { counters = counters; drops = drops; are_counters = are_counters; are_drops = are_drops; written = written })

module _ (control : Text) (clears : Bool) (count : ℕ) (before after told_before told_after : Option (List ℕ)) where
  pub top_unwritten : Begins (PrintsTop control clears count) before after → AppendsBeginning told_before told_after (line_of WriteFailed)
      → TopFails control clears count before after told_before told_after WriteFailed
  top_unwritten so_far told = record { reason = λ other. absurd (other refl); written = λ other. absurd (other refl); begun = λ is. so_far; told = told_alone told }

  -- it failed at an address that was read
  pub top_failed : (address : ControlAddress) (failure : Failure) → SpellsControlAddress control address → IsAskFault ⊥ address failure
      → (failure ≢ WriteFailed → ShowsFewer clears count (peer_of address) before after) → (failure ≡ WriteFailed → Begins (PrintsTop control clears count) before after)
      → IsTold (Some control) failure told_before told_after → TopFails control clears count before after told_before told_after failure
  top_failed address failure spells fault fewer begun told = record {
    reason = λ other. (address, spells, fault);
    written = λ other. at_address (fewer other);
    begun = begun;
    told = told;
  }
    where
      at_address : ShowsFewer clears count (peer_of address) before after
          → (after ≡ before) ⊎ ((shown : ℕ) × (shown < count) × WritesTop control clears shown before after)
      at_address (inl same) = inl same
      at_address (inr (shown, fewer, written)) = inr (shown, fewer, record { address = address; is_address = spells; written = written })

-- ---- the kernel's table of sockets

-- all of a file was read
pub whole_known : (known : Option (List ℕ)) (bytes : List ℕ) → IsInput (option_map (first_bytes None) known) bytes → IsInput known bytes
whole_known None bytes is = is
whole_known (Some all) bytes is = is

pub never_read : {A : Type 0} (result : Result A Failure) → IfErr result (λ failure. failure ≡ WriteFailed) → IfErr result (λ failure. failure ≢ ReadFailed)
never_read (Ok value) is = tt
never_read (Err failure) is = λ same. cc

-- no read failed
pub input_kept : {A : Type 0} (result : Result A Failure) (before after : ℕ) → IfErr result (λ failure. failure ≢ ReadFailed) → after ≡ before → InputFails result before after
input_kept (Ok value) before after other kept = kept
input_kept (Err ReadFailed) before after other kept = absurd (other refl)
input_kept (Err WriteFailed) before after other kept = kept
input_kept (Err OutOfMemory) before after other kept = kept
input_kept (Err SpawnFailed) before after other kept = kept
input_kept (Err BindFailed) before after other kept = kept
input_kept (Err PollFailed) before after other kept = kept
input_kept (Err NoAnswer) before after other kept = kept
input_kept (Err RulesChanged) before after other kept = kept

module _ (known : Option (List ℕ)) (front : Option Endpoint) (before after : ℕ) where
  -- the table was not read, or nothing was to be read of it
  pub table_unread : {A : Type 0} (result : Result A Failure) → IfErr result (λ failure. failure ≢ ReadFailed) → after ≡ before → FailsByTable result known front before after
  table_unread result other kept = inl (input_kept result before after other kept)

  -- the table was read, and something else failed or nothing
  pub table_then : {A B : Type 0} (got : A) (result : Result B Failure) → FailsByTable {A = A} (Ok got) known front before after
      → IfErr result (λ failure. failure ≢ ReadFailed) → FailsByTable result known front before after
  table_then got result (inl kept) other = inl (input_kept result before after other kept)
  table_then got result (inr (is, dropless, kept)) other = absurd (cc)

-- an error is passed on
pub table_passed : {A B : Type 0} (known : Option (List ℕ)) (front : Option Endpoint) (before after : ℕ) (result : Result B Failure) (failure : Failure)
    → IsErrAnd result (λ given. given ≡ failure) → FailsByTable {A = A} (Err failure) known front before after → FailsByTable result known front before after
table_passed known front before after (Ok value) failure is fails = absurd is
table_passed {A = A} {B = B} known front before after (Err given) failure is (inl input) =
    inl (subst (λ (f : Failure). InputFails {A = B} (Err f) before after) (sym is) (alike failure input))
  where
    alike : (f : Failure) → InputFails {A = A} (Err f) before after → InputFails {A = B} (Err f) before after
    alike ReadFailed input = input
    alike WriteFailed input = input
    alike OutOfMemory input = input
    alike SpawnFailed input = input
    alike BindFailed input = input
    alike PollFailed input = input
    alike NoAnswer input = input
    alike RulesChanged input = input
table_passed {A = A} {B = B} known front before after (Err given) failure is (inr (unread, dropless, kept)) =
    let same : failure ≡ ReadFailed = cc in inr (ap (λ (f : Failure). Err f) (is ∙ same), dropless, kept)

-- the failure is reported
shows_none : (known : Option (List ℕ)) (front : Option Text) (endpoint : Option Endpoint) → IsGivenFront front endpoint → IsDropless known endpoint → ShowsNoDrops known front
shows_none known None None given dropless = absurd dropless
shows_none known None (Some e) given dropless = absurd given
shows_none known (Some text) None given dropless = absurd given
shows_none known (Some text) (Some e) given dropless = (e, given.0, given.1, dropless)

pub ends_by_table : (Reports : Failure → Type 0) (known : Option (List ℕ)) (front : Option Text) (endpoint : Option Endpoint) (status : Status) (failure : Failure)
    (read read' : ℕ) (written written' : FailuresValue) → IsGivenFront front endpoint → status ≡ Failed → Reports failure
    → FailsByTable {A = Unit {0}} (Err failure) known endpoint read read' → OutputFails {A = Unit {0}} (Err failure) written written'
    → EndsByCauseOrTable Reports known front status read read' written written'
ends_by_table Reports known front endpoint status failure read read' written written' given is reports (inl input) output =
    inl (ends_once Reports written written' status failure read read' is reports (both_causes (Unit {0}) Status failure read read' written written' input output))
ends_by_table Reports known front endpoint status failure read read' written written' given is reports (inr (unread, dropless, kept)) output =
    let same : failure ≡ ReadFailed = cc in
    inr (is, subst Reports same reports, shows_none known front endpoint given dropless, kept, subst (λ (f : Failure). OutputFails {A = Unit {0}} (Err f) written written') same output)
