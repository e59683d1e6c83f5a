-- Requests that are told one after the other.
use Rattle.std.proofs.Common.{◌≡◌, ◌∙◌, ◌++◌, ◌∷◌, ◌||◌, ◌⊎◌, Bool, Err, List, None, Ok, Option, Result, Some, [], ap, append-nil, codes, false, inl, inr, map, refl, subst, sym, true, ℕ}
use Rattle.std.proofs.lemmas.Grind.{flat_map-append}
use Rattle.std.proofs.lemmas.List.{map-append}
use Rattle.std.proofs.lemmas.List.Elements.{filter-append}
use Rattle.std.proofs.lemmas.List.Folds.{list_any-append}
use Rattle.std.specs.Io.KnownBytes.{Appends}
use Rattle.std.specs.List.{filter}
use Rattle.std.specs.Prelude.{IfErr, IfOk}
use Rattle.control_line.specs.Answer.{NumberedLine}
use Rattle.control_client.specs.declared.device.Peer.{Peer}
use Rattle.command_line.specs.declared.ending.Failure.{Failure}
use Rattle.command_line.specs.declared.ending.Failure.TheVariants.{BindFailed, NoAnswer, OutOfMemory, PollFailed, ReadFailed, RulesChanged, SpawnFailed, WriteFailed}
use Rattle.control_client.specs.Exchange.{AreExchanged, Exchange, LineEndsBy, has_refusal, is_refusal, no_line, one_more, reply_line, text_of}
use Rattle.control_client.specs.Lines.{AreFirst, AreNone, AreNumbersOf, GivesRequest, IsBlockOf, IsChangeOf, LosesRequest, Request}
use Rattle.control_client.specs.Refused.{Refusal, ShowsAll, ShowsIf, Told, exchange_of, exchanges_of, none_shown, one_shown, refusal_of, refusals_of, requests_of}
use Rattle.control_client.specs.Tell.{ChangeEndsBy, RequestTold, StopsBehind, TellsAll, TellsChange, TellsFirst}
use Rattle.control_client.specs.Wire.{Event, Logs}
use Rattle.control_client.proofs.LinesLemmas.{Gave, gave_all, gave_first, gave_nothing, gave_request}
use Rattle.std.proofs.KnownBytes.{Appends-nil, Appends-trans}
use Rattle.control_client.proofs.WireLemmas.{logs_more, logs_nothing}

requests_of_more : (told : List Told) (one : Told) → requests_of (told ++ one ∷ []) ≡ requests_of told ++ one.request ∷ []
requests_of_more told one = map-append (λ (each : Told). each.request) told (one ∷ [])

exchanges_of_more : (told : List Told) (one : Told) → exchanges_of (told ++ one ∷ []) ≡ exchanges_of told ++ exchange_of one ∷ []
exchanges_of_more told one = map-append exchange_of told (one ∷ [])

text_of_more : (told : List Exchange) (one : Exchange) → text_of (told ++ one ∷ []) ≡ text_of told ++ reply_line one.reply
text_of_more told one =
    flat_map-append (λ (each : Exchange). reply_line each.reply) told (one ∷ []) ∙ ap (λ (rest : List ℕ). text_of told ++ rest) (append-nil (reply_line one.reply))

pub or_false : (b : Bool) → (b || false) ≡ b
or_false true = refl
or_false false = refl

has_refusal_more : (told : List Exchange) (one : Exchange) → has_refusal (told ++ one ∷ []) ≡ (has_refusal told || is_refusal one.reply)
has_refusal_more told one =
    list_any-append (λ (each : Exchange). is_refusal each.reply) told (one ∷ []) ∙ ap (λ (b : Bool). has_refusal told || b) (or_false (is_refusal one.reply))

refusals_of_more : (told : List Told) (one : Told) → refusals_of (told ++ one ∷ []) ≡ refusals_of told ++ refusals_of (one ∷ [])
refusals_of_more told one =
    ap (map refusal_of) (filter-append (λ (each : Told). is_refusal each.reply) told (one ∷ []))
    ∙ map-append refusal_of (filter (λ (each : Told). is_refusal each.reply) told) (filter (λ (each : Told). is_refusal each.reply) (one ∷ []))

refused_alone : (one : Told) → is_refusal one.reply ≡ true → refusals_of (one ∷ []) ≡ refusal_of one ∷ []
refused_alone one is = simp is refl

done_alone : (one : Told) → is_refusal one.reply ≡ false → refusals_of (one ∷ []) ≡ []
done_alone one is = simp is refl

-- how it stops in a line, by the line's fault
stops_by : (fault : Failure) (switch : Peer) (coming : Option (List NumberedLine)) (requests : List Request) (request : Request) (log log' : Option (List Event)) (out out' : Option (List ℕ))
    → AreFirst coming (requests ++ request ∷ []) → LineEndsBy fault switch request.text log log' out out' → StopsBehind fault switch coming requests log log' out out'
stops_by NoAnswer switch coming requests request log log' out out' first ends = (request, first, ends)
stops_by PollFailed switch coming requests request log log' out out' first ends = (request, first, ends)
stops_by WriteFailed switch coming requests request log log' out out' first ends = (request, first, ends)
stops_by ReadFailed switch coming requests request log log' out out' first ends = absurd ends
stops_by OutOfMemory switch coming requests request log log' out out' first ends = absurd ends
stops_by BindFailed switch coming requests request log log' out out' first ends = absurd ends
stops_by SpawnFailed switch coming requests request log log' out out' first ends = absurd ends
stops_by RulesChanged switch coming requests request log log' out out' first ends = absurd ends

stops_without : (fault : Failure) (switch : Peer) (coming : Option (List NumberedLine)) (requests : List Request) (log : Option (List Event)) (out : Option (List ℕ))
    → AreFirst coming requests → (fault ≡ ReadFailed) ⊎ (fault ≡ OutOfMemory) → StopsBehind fault switch coming requests log log out out
stops_without fault switch coming requests log out first (inl is) = subst (λ (f : Failure). StopsBehind f switch coming requests log log out out) (sym is) (first, refl, refl)
stops_without fault switch coming requests log out first (inr is) = subst (λ (f : Failure). StopsBehind f switch coming requests log log out out) (sym is) (first, refl, refl)

-- a request that was given, and shown by the same bytes and numbers
pub given_request : (before after : Option (List NumberedLine)) (number : ℕ) (lines lines' text text' : List ℕ) (given : Option ℕ) → lines' ≡ lines → text' ≡ text
    → given ≡ Some number → GivesRequest before after lines text given → LosesRequest before after (record { head = Some number; lines = lines'; text = text' })
given_request before after number lines lines' text text' given same_lines same_text is gives =
    subst (λ (l : List ℕ). LosesRequest before after (record { head = Some number; lines = l; text = text' })) (sym same_lines)
    (subst (λ (t : List ℕ). LosesRequest before after (record { head = Some number; lines = lines; text = t })) (sym same_text)
    (subst (λ (g : Option ℕ). GivesRequest before after lines text g) is gives))

pub given_none : (before after : Option (List NumberedLine)) (lines text : List ℕ) (given : Option ℕ) → ((number : ℕ) → given ≡ Some number → ⊥)
    → GivesRequest before after lines text given → AreNone before after
given_none before after lines text None none gives = gives
given_none before after lines text (Some number) none gives = absurd (none number refl)

module _ {S : Type 0} (Shows : S → S → Refusal → Type 0) where
  -- one more was told, and shown if it was not done
  shows_more : (start mid end : S) (told : List Told) (one : Told) (refused : Bool) → ShowsAll Shows start mid (refusals_of told)
      → refused ≡ is_refusal one.reply → ShowsIf Shows mid end (refusal_of one) refused → ShowsAll Shows start end (refusals_of (told ++ one ∷ []))
  shows_more start mid end told one true so_far is shown =
      subst (λ (all : List Refusal). ShowsAll Shows start end all) (sym (refusals_of_more told one ∙ ap (λ (l : List Refusal). refusals_of told ++ l) (refused_alone one (sym is))))
      (one_shown mid end (refusals_of told) (refusal_of one) so_far shown)
  shows_more start mid end told one false so_far is same =
      subst (λ (all : List Refusal). ShowsAll Shows start end all)
      (sym (refusals_of_more told one ∙ ap (λ (l : List Refusal). refusals_of told ++ l) (done_alone one (sym is)) ∙ append-nil (refusals_of told)))
      (subst (λ (s : S). ShowsAll Shows start s (refusals_of told)) (sym same) so_far)

  -- these requests were given and told so far
  pub record IsTelling (switch : Peer) (coming now : Option (List NumberedLine)) (log log' : Option (List Event)) (out out' : Option (List ℕ)) (shown shown' : S) (refused : Bool) : Type 0 where
    pub told : List Told
    pub events : List Event
    pub given : Gave coming now (requests_of told)
    pub are_exchanged : AreExchanged switch (exchanges_of told) events
    pub logged : Logs log log' events
    pub printed : Appends out out' (text_of (exchanges_of told))
    pub refused_is : refused ≡ has_refusal (exchanges_of told)
    pub all_shown : ShowsAll Shows shown shown' (refusals_of told)

  pub telling_begins : (switch : Peer) (coming : Option (List NumberedLine)) (log : Option (List Event)) (out : Option (List ℕ)) (shown : S)
      → IsTelling switch coming coming log log out out shown shown false
  telling_begins switch coming log out shown = record {
    told = [];
    events = [];
    given = gave_nothing coming;
    are_exchanged = no_line;
    logged = logs_nothing log;
    printed = Appends-nil out;
    refused_is = refl;
    all_shown = none_shown;
  }

  module _ (switch : Peer) (coming mid after : Option (List NumberedLine)) (log log' log'' : Option (List Event)) (out out' out'' : Option (List ℕ))
      (shown shown' shown'' : S) (refused : Bool) (so_far : IsTelling switch coming mid log log' out out' shown shown' refused) where
    -- a request was given and told
    pub telling_on : (request : Request) (one : Bool) → LosesRequest mid after request → RequestTold Shows switch request log' log'' out' out'' shown' shown'' one
        → IsTelling switch coming after log log'' out out'' shown shown'' (refused || one)
    telling_on request one given line_told =
        let last : Told = record { request = request; reply = line_told.reply } in
        let more = exchanges_of_more so_far.told last in
        record {
          told = so_far.told ++ last ∷ [];
          events = so_far.events ++ line_told.events;
          given = rw (requests_of_more so_far.told last) (gave_request coming mid after (requests_of so_far.told) request so_far.given given);
          are_exchanged = rw more (one_more (exchanges_of so_far.told) so_far.events line_told.events request.text line_told.reply so_far.are_exchanged line_told.is_exchange);
          logged = logs_more log log' log'' so_far.events line_told.events so_far.logged line_told.logged;
          printed = rw more (rw (text_of_more (exchanges_of so_far.told) (exchange_of last))
              (Appends-trans out out' out'' (text_of (exchanges_of so_far.told)) (reply_line line_told.reply) so_far.printed line_told.printed));
          refused_is = ap (λ (b : Bool). b || one) so_far.refused_is ∙ ap (λ (b : Bool). has_refusal (exchanges_of so_far.told) || b) line_told.refused_is
              ∙ sym (ap has_refusal more ∙ has_refusal_more (exchanges_of so_far.told) (exchange_of last));
          all_shown = shows_more shown shown' shown'' so_far.told last one so_far.all_shown line_told.refused_is line_told.shown_if;
        }

    -- or it ended by a fault
    pub stops_in_line : (fault : Failure) (request : Request) → LosesRequest mid after request → LineEndsBy fault switch request.text log' log'' out' out'' → shown'' ≡ shown'
        → TellsFirst Shows fault switch coming log log'' out out'' shown shown''
    stops_in_line fault request given ends same = record {
      told = so_far.told;
      events = so_far.events;
      log_then = log';
      out_then = out';
      are_exchanged = so_far.are_exchanged;
      logged = so_far.logged;
      printed = so_far.printed;
      first_shown = subst (λ (s : S). ShowsAll Shows shown s (refusals_of so_far.told)) (sym same) so_far.all_shown;
      stopped = stops_by fault switch coming (requests_of so_far.told) request log' log'' out' out''
          (gave_first coming after (requests_of so_far.told ++ request ∷ []) (gave_request coming mid after (requests_of so_far.told) request so_far.given given)) ends;
    }

    -- or none was given any more
    pub tells_all : AreNone mid after → TellsAll Shows switch coming log log' out out' shown shown' refused
    tells_all none = record {
      told = so_far.told;
      events = so_far.events;
      all_lines = gave_all coming mid after (requests_of so_far.told) so_far.given none;
      are_exchanged = so_far.are_exchanged;
      logged = so_far.logged;
      printed = so_far.printed;
      refused_is = so_far.refused_is;
      all_shown = so_far.all_shown;
    }

    -- or the next was not to be had
    pub stops_between : (fault : Failure) → (fault ≡ ReadFailed) ⊎ (fault ≡ OutOfMemory) → TellsFirst Shows fault switch coming log log' out out' shown shown'
    stops_between fault why = record {
      told = so_far.told;
      events = so_far.events;
      log_then = log';
      out_then = out';
      are_exchanged = so_far.are_exchanged;
      logged = so_far.logged;
      printed = so_far.printed;
      first_shown = so_far.all_shown;
      stopped = stops_without fault switch coming (requests_of so_far.told) log' out' (gave_first coming mid (requests_of so_far.told) so_far.given) why;
    }

  -- memory for the answers was not to be had
  pub stops_at_start : (switch : Peer) (coming : Option (List NumberedLine)) (log : Option (List Event)) (out : Option (List ℕ)) (shown : S) (fault : Failure) → fault ≡ OutOfMemory
      → TellsFirst Shows fault switch coming log log out out shown shown
  stops_at_start switch coming log out shown fault is =
      stops_between switch coming coming coming log log log out out out shown shown shown false (telling_begins switch coming log out shown) fault (inr is)

-- ---- all lines as one change

pub change_of : (coming : Option (List NumberedLine)) (lines lines' text text' : List ℕ) → lines' ≡ lines → text' ≡ text → AreNumbersOf coming lines
    → IsBlockOf (codes "all ") coming text → IsChangeOf coming (record { head = None; lines = lines'; text = text' })
change_of coming lines lines' text text' same_lines same_text numbers block = record {
  no_head = refl;
  numbers = subst (λ (l : List ℕ). AreNumbersOf coming l) (sym same_lines) numbers;
  block = subst (λ (t : List ℕ). IsBlockOf (codes "all ") coming t) (sym same_text) block;
}

pub change_ends : (fault : Failure) (switch : Peer) (coming : Option (List NumberedLine)) (request : Request) (log log' : Option (List Event)) (out out' : Option (List ℕ))
    → IsChangeOf coming request → LineEndsBy fault switch request.text log log' out out' → ChangeEndsBy fault switch coming log log' out out'
change_ends NoAnswer switch coming request log log' out out' change ends = (request, change, ends)
change_ends PollFailed switch coming request log log' out out' change ends = (request, change, ends)
change_ends WriteFailed switch coming request log log' out out' change ends = (request, change, ends)
change_ends ReadFailed switch coming request log log' out out' change ends = absurd ends
change_ends OutOfMemory switch coming request log log' out out' change ends = absurd ends
change_ends BindFailed switch coming request log log' out out' change ends = absurd ends
change_ends SpawnFailed switch coming request log log' out out' change ends = absurd ends
change_ends RulesChanged switch coming request log log' out out' change ends = absurd ends

pub change_not_made : (fault : Failure) (switch : Peer) (coming : Option (List NumberedLine)) (log : Option (List Event)) (out : Option (List ℕ))
    → (fault ≡ ReadFailed) ⊎ (fault ≡ OutOfMemory) → ChangeEndsBy fault switch coming log log out out
change_not_made fault switch coming log out (inl is) = subst (λ (f : Failure). ChangeEndsBy f switch coming log log out out) (sym is) (refl, refl)
change_not_made fault switch coming log out (inr is) = subst (λ (f : Failure). ChangeEndsBy f switch coming log log out out) (sym is) (refl, refl)

module _ {S : Type 0} (Shows : S → S → Refusal → Type 0) (result : Result Bool Failure) (switch : Peer) (coming : Option (List NumberedLine)) (request : Request)
    (log log' : Option (List Event)) (out out' : Option (List ℕ)) (shown shown' : S) (change : IsChangeOf coming request) where
  pub change_told : IfOk result (RequestTold Shows switch request log log' out out' shown shown') → IfOk result (TellsChange Shows switch coming log log' out out' shown shown')
  change_told told = by_result result told
    where
      by_result : (r : Result Bool Failure) → IfOk r (RequestTold Shows switch request log log' out out' shown shown') → IfOk r (TellsChange Shows switch coming log log' out out' shown shown')
      by_result (Ok refused) told = record { request = request; is_change = change; told = told }
      by_result (Err fault) told = tt

  pub change_stopped_in : IfErr result (λ (fault : Failure). LineEndsBy fault switch request.text log log' out out')
      → IfErr result (λ (fault : Failure). ChangeEndsBy fault switch coming log log' out out')
  change_stopped_in stopped = by_result result stopped
    where
      by_result : (r : Result Bool Failure) → IfErr r (λ (fault : Failure). LineEndsBy fault switch request.text log log' out out')
          → IfErr r (λ (fault : Failure). ChangeEndsBy fault switch coming log log' out out')
      by_result (Ok refused) stopped = tt
      by_result (Err fault) stopped = change_ends fault switch coming request log log' out out' change stopped
