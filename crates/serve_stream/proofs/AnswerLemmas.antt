-- A request is taken from the bytes that came, and answered.
use Rattle.std.proofs.Common.{◌≡◌, ◌∙◌, ◌++◌, ◌∷◌, ◌↔◌, List, None, Option, Some, [], ap, append_assoc, append-nil, drop, map, refl, subst, sym, take, ℕ}
use Rattle.std.specs.List.{All}
use Rattle.std.proofs.lemmas.List.{map-append, take-append-drop}
use Rattle.std.proofs.lemmas.List.Concat.{flat_map-append}
use Rattle.std.proofs.lemmas.List.Elements.{All-head, All-push, All-tail}
use Rattle.serve_stream.specs.declared.answers.After.{After}
use Rattle.serve_stream.specs.declared.answers.After.TheVariants.{GoesOn, Stops}
use Rattle.serve_stream.specs.declared.conversation.Conversation.{Conversation}
use Rattle.serve_stream.specs.declared.conversation.Stage.TheVariants.{Closing, Open, Stopping}
use Rattle.serve_stream.specs.declared.held.Held.{Held}
use Rattle.serve_stream.specs.declared.held.HoldFault.{HoldFault}
use Rattle.serve_stream.specs.declared.held.HoldFault.TheVariants.{OutOfMemory, TooLong}
use Rattle.serve_stream.specs.declared.held.LineEnd.{LineEnd}
use Rattle.serve_stream.specs.declared.held.LineEnd.TheVariants.{BadHead, More, Request}
use Rattle.serve_stream.specs.declared.replies.Answered.{Answered}
use Rattle.serve_stream.specs.Answers.{Exchange, IsStop, line_of, replied, request_of, said, unanswered}
use Rattle.serve_stream.specs.Conversation.{EndsBy, GoOn, GoesOnAfter, IsConversation, by_bad_head, by_length, by_memory}
use Rattle.serve_stream.specs.Request.{IsBadHead, IsCut, IsRequest, ended_by_lf}
use Rattle.serve_stream.specs.Standing.{IsAt, Moves, closing, going, over, stopping, waiting_of}
use Rattle.serve_stream.specs.Stream.{Event, given, taken}
use Rattle.serve_stream.specs.body.Asked.{IsAsked, stage_of, words_of}
use Rattle.serve_stream.specs.body.Held.{Holds, IsTaken, IsTakenNoMore}
use Rattle.serve_stream.specs.body.Replies.{IsReply}
use Rattle.serve_stream.proofs.MoveLemmas.{nothing_more}

ended_more : (requests : List (List ℕ)) (last : List ℕ) → ended_by_lf (requests ++ last ∷ []) ≡ ended_by_lf requests ++ (last ++ 10 ∷ [])
ended_more requests last =
    flat_map-append (λ (request : List ℕ). request ++ 10 ∷ []) requests (last ∷ []) ∙ ap (λ t. ended_by_lf requests ++ t) (append-nil (last ++ 10 ∷ []))

asked_more : (exchanges : List Exchange) (last : Exchange) → map request_of (exchanges ++ last ∷ []) ≡ map request_of exchanges ++ request_of last ∷ []
asked_more exchanges last = map-append request_of exchanges (last ∷ [])

said_more : (exchanges : List Exchange) (last : Exchange) → said (exchanges ++ last ∷ []) ≡ said exchanges ++ line_of last
said_more exchanges last = flat_map-append line_of exchanges (last ∷ []) ∙ ap (λ t. said exchanges ++ t) (append-nil (line_of last))

-- the next one may be answered after all of them
but_last : (exchanges : List Exchange) (last : Exchange) → All GoesOnAfter exchanges → GoOn (exchanges ++ last ∷ [])
but_last [] last all = tt
but_last (first ∷ []) last all = (All-head GoesOnAfter first [] all, tt)
but_last (first ∷ next ∷ rest) last all = (All-head GoesOnAfter first (next ∷ rest) all, but_last (next ∷ rest) last (All-tail GoesOnAfter first (next ∷ rest) all))

-- ---- the request is answered

module _ (c : Conversation) (no_last : c.last.now ≡ []) (end : LineEnd) (events : List Event) (exchanges : List Exchange) (before : IsAsked c end events exchanges)
    (last : Exchange) (same : request_of last ≡ c.held.bytes.items) (replies : List ℕ) (rest : List ℕ) (kept : replies ++ rest ≡ c.replies ++ line_of last) where
  taken_before : taken events ++ c.replies ≡ said exchanges
  taken_before =
      ap (λ t. taken events ++ t) (sym (ap (λ l. c.replies ++ l) no_last ∙ append-nil c.replies)) ∙ (before.is.written ∙ append-nil (said exchanges))

  request_cut : c.held.bytes.items ++ 10 ∷ c.unread ≡ (request_of last ++ 10 ∷ []) ++ c.unread
  request_cut = ap (λ t. t ++ 10 ∷ c.unread) (sym same) ∙ sym (append_assoc (request_of last) (10 ∷ []) c.unread)

  one_more_cut : IsCut (given events) (map request_of exchanges ++ request_of last ∷ []) c.unread
  one_more_cut = record {
    each = All-push IsRequest (map request_of exchanges) (request_of last) before.is.cut.each (subst IsRequest (sym same) before.request);
    whole = before.is.cut.whole
        ∙ (ap (λ t. ended_by_lf (map request_of exchanges) ++ t) request_cut
        ∙ (sym (append_assoc (ended_by_lf (map request_of exchanges)) (request_of last ++ 10 ∷ []) c.unread) ∙ ap (λ t. t ++ c.unread) (sym (ended_more (map request_of exchanges) (request_of last)))));
  }

  with_answer : IsConversation events (exchanges ++ last ∷ []) c.unread (replies ++ rest) []
  with_answer = record {
    cut = subst (λ (requests : List (List ℕ)). IsCut (given events) requests c.unread) (sym (asked_more exchanges last)) one_more_cut;
    go_on = but_last exchanges last before.go_on;
    written = ap (λ t. taken events ++ t) kept
        ∙ (sym (append_assoc (taken events) c.replies (line_of last)) ∙ (ap (λ t. t ++ line_of last) taken_before ∙ (sym (said_more exchanges last) ∙ sym (append-nil (said (exchanges ++ last ∷ []))))));
  }

  -- the next request may come
  goes_on : (answered : Answered) (held : Held) → rest ≡ answered.last.now → stage_of end answered.after ≡ Open → Holds held → held.bytes.items ≡ [] → GoesOnAfter last
      → IsAt (record { unread = c.unread; held = held; replies = replies; last = answered.last; stage = stage_of end answered.after; unheld = c.unheld }) events (exchanges ++ last ∷ [])
  goes_on answered held is stage holds none go_on =
      going stage holds (All-push GoesOnAfter exchanges last before.go_on go_on)
      (subst (λ (left : List ℕ). IsConversation events (exchanges ++ last ∷ []) left (replies ++ answered.last.now) []) (ap (λ t. t ++ c.unread) (sym none))
      (subst (λ (r : List ℕ). IsConversation events (exchanges ++ last ∷ []) c.unread (replies ++ r) []) is with_answer))

pub answered_at : (c : Conversation) → c.last.now ≡ [] → (end : LineEnd) (exchange : Exchange) (held : Held) (replies : List ℕ) (answered : Answered)
    → request_of exchange ≡ c.held.bytes.items → IsReply exchange c.replies replies answered → Holds held → held.bytes.items ≡ []
    → (events : List Event) (exchanges : List Exchange) → IsAsked c end events exchanges
    → IsAt (record { unread = c.unread; held = held; replies = replies; last = answered.last; stage = stage_of end answered.after; unheld = c.unheld }) events (exchanges ++ exchange ∷ [])
answered_at c no_last end (replied request reply Stops) held replies answered same is holds none events exchanges before =
    stopping c.unread (ap (stage_of end) is.0) (with_answer c no_last end events exchanges before (replied request reply Stops) same replies answered.last.now is.1)
    (record { earlier = exchanges; request = request; reply = reply; is = refl; go_on = before.go_on })
answered_at c no_last More (replied request reply GoesOn) held replies answered same is holds none events exchanges before = absurd before.ends
answered_at c no_last Request (replied request reply GoesOn) held replies answered same is holds none events exchanges before =
    goes_on c no_last Request events exchanges before (replied request reply GoesOn) same replies answered.last.now is.1 answered held refl (ap (stage_of Request) is.0) holds none (λ bad. before.ends (subst IsBadHead same bad))
answered_at c no_last BadHead (replied request reply GoesOn) held replies answered same is holds none events exchanges before =
    closing c.unread [] (ap (stage_of BadHead) is.0) (with_answer c no_last BadHead events exchanges before (replied request reply GoesOn) same replies answered.last.now is.1)
    (by_bad_head exchanges (replied request reply GoesOn) refl before.go_on (subst IsBadHead (sym same) before.ends))
answered_at c no_last More (unanswered request) held replies answered same is holds none events exchanges before = absurd before.ends
answered_at c no_last Request (unanswered request) held replies answered same is holds none events exchanges before =
    goes_on c no_last Request events exchanges before (unanswered request) same replies answered.last.now is.1 answered held refl (ap (stage_of Request) is.0) holds none (λ bad. before.ends (subst IsBadHead same bad))
answered_at c no_last BadHead (unanswered request) held replies answered same is holds none events exchanges before =
    closing c.unread [] (ap (stage_of BadHead) is.0) (with_answer c no_last BadHead events exchanges before (unanswered request) same replies answered.last.now is.1)
    (by_bad_head exchanges (unanswered request) refl before.go_on (subst IsBadHead (sym same) before.ends))

stage_goes_on : (end : LineEnd) (after : Option After) → (after ≡ Some Stops → ⊥) → stage_of end after ≡ Stopping → ⊥
stage_goes_on end (Some Stops) other here = other refl
stage_goes_on BadHead (Some GoesOn) other here = absurd cc
stage_goes_on BadHead None other here = absurd cc
stage_goes_on More (Some GoesOn) other here = absurd cc
stage_goes_on More None other here = absurd cc
stage_goes_on Request (Some GoesOn) other here = absurd cc
stage_goes_on Request None other here = absurd cc

pub stops_if : (end : LineEnd) (exchange : Exchange) (before later : List ℕ) (answered : Answered) → IsReply exchange before later answered → (stage_of end answered.after ≡ Stopping) ↔ IsStop exchange
stops_if end (replied request reply Stops) before later answered is = (λ here. tt, λ stop. ap (stage_of end) is.0)
stops_if end (replied request reply GoesOn) before later answered is =
    let after = is.0 in (λ here. stage_goes_on end answered.after (λ stop. absurd (cc (after, stop))) here, λ stop. absurd stop)
stops_if end (unanswered request) before later answered is =
    let after = is.0 in (λ here. stage_goes_on end answered.after (λ stop. absurd (cc (after, stop))) here, λ stop. absurd stop)

-- ---- bytes are taken

-- the held bytes and the unread ones are cut elsewhere
cut_elsewhere : (held held' shown unread unread' : List ℕ) (count : ℕ) → shown ≡ unread → unread' ≡ drop count unread → held' ≡ held ++ take count shown → held ++ unread ≡ held' ++ unread'
cut_elsewhere held held' shown unread unread' count is less more =
    ap (λ t. held ++ t) (sym (take-append-drop count unread))
    ∙ (sym (append_assoc held (take count unread) (drop count unread))
    ∙ (ap (λ t. (held ++ take count t) ++ drop count unread) (sym is) ∙ (ap (λ t. t ++ drop count unread) (sym more) ∙ ap (λ t. held' ++ t) (sym less))))

module _ (c : Conversation) (open_stage : c.stage ≡ Open) (shown : List ℕ) (is : shown ≡ c.unread) where
  module _ (held : Held) (unread : List ℕ) (count : ℕ) (less : unread ≡ drop count c.unread) where
    pub takes : (Holds c.held → IsTaken shown c.held held count More) → Moves c (record c { unread = unread; held = held }) [] []
    takes fits past answered (going stage holds go_on was) =
        let more = fits holds in
        nothing_more (record c { unread = unread; held = held }) past answered
        (going stage more.0 go_on
        (subst (λ (left : List ℕ). IsConversation past answered left (waiting_of c) [])
        (cut_elsewhere c.held.bytes.items held.bytes.items shown c.unread unread count is less more.1) was))
    takes fits past answered (closing left words stage was ends) = absurd cc
    takes fits past answered (stopping left stage was stopped) = absurd cc
    takes fits past answered (over left words stage was closed) = absurd cc

    -- the request that is held is whole
    asked_next : (end : LineEnd) → (end ≡ More → ⊥) → (Holds c.held → IsTaken shown c.held held count end) → (past : List Event) (answered : List Exchange) → IsAt c past answered
        → IsAsked (record c { unread = unread; held = held }) end past answered
    asked_next end more fits past answered (going stage holds go_on was) = by end more (fits holds)
      where
        left_is : held.bytes.items ++ 10 ∷ [] ≡ c.held.bytes.items ++ take count shown → c.held.bytes.items ++ c.unread ≡ held.bytes.items ++ 10 ∷ unread
        left_is cut =
            cut_elsewhere c.held.bytes.items (held.bytes.items ++ 10 ∷ []) shown c.unread unread count is less cut ∙ append_assoc held.bytes.items (10 ∷ []) unread

        by : (end : LineEnd) → (end ≡ More → ⊥) → IsTaken shown c.held held count end → IsAsked (record c { unread = unread; held = held }) end past answered
        by More other cut = absurd (other refl)
        by Request other cut = record {
          request = cut.0;
          ends = cut.1;
          go_on = go_on;
          is = subst (λ (left : List ℕ). IsConversation past answered left (waiting_of c) []) (left_is cut.2) was;
        }
        by BadHead other cut = record {
          request = cut.0;
          ends = cut.1;
          go_on = go_on;
          is = subst (λ (left : List ℕ). IsConversation past answered left (waiting_of c) []) (left_is cut.2) was;
        }
    asked_next end more fits past answered (closing left words stage was ends) = absurd cc
    asked_next end more fits past answered (stopping left stage was stopped) = absurd cc
    asked_next end more fits past answered (over left words stage was closed) = absurd cc

    pub answers_one : (c' : Conversation) (end : LineEnd) (exchange : Exchange) → (end ≡ More → ⊥) → (Holds c.held → IsTaken shown c.held held count end)
        → ((events : List Event) (exchanges : List Exchange) → IsAsked (record c { unread = unread; held = held }) end events exchanges → IsAt c' events (exchanges ++ exchange ∷ []))
        → Moves c c' [] (exchange ∷ [])
    answers_one c' end exchange more fits at past answered before =
        subst (λ (p : List Event). IsAt c' p (answered ++ exchange ∷ [])) (sym (append-nil past)) (at past answered (asked_next end more fits past answered before))

  -- no more of the request is held
  pub gives_up : (c' : Conversation) (fault : HoldFault) → c.last.now ≡ [] → (Holds c.held → IsTakenNoMore fault shown c.held)
      → c'.last.now ≡ words_of fault → c'.stage ≡ Closing → c'.replies ≡ c.replies → Moves c c' [] []
  gives_up c' fault no_last fits words closes replies past answered (going stage holds go_on was) =
      nothing_more c' past answered (closing (c.held.bytes.items ++ c.unread) (words_of fault) closes said_last (by fault (fits holds)))
    where
      said_last : IsConversation past answered (c.held.bytes.items ++ c.unread) (waiting_of c') (words_of fault)
      said_last = record {
        cut = was.cut;
        go_on = was.go_on;
        written = ap (λ t. taken past ++ t) (ap (λ r. r ++ c'.last.now) replies ∙ ap (λ l. c.replies ++ l) words)
            ∙ (sym (append_assoc (taken past) c.replies (words_of fault)) ∙ ap (λ t. t ++ words_of fault)
            (ap (λ t. taken past ++ t) (sym (ap (λ l. c.replies ++ l) no_last ∙ append-nil c.replies)) ∙ (was.written ∙ append-nil (said answered))));
      }

      by : (fault : HoldFault) → IsTakenNoMore fault shown c.held → EndsBy past answered (c.held.bytes.items ++ c.unread) (words_of fault)
      by TooLong (front, rest, cut, long) =
          by_length go_on (c.held.bytes.items ++ front, rest, ap (λ t. c.held.bytes.items ++ t) (sym is ∙ cut) ∙ sym (append_assoc c.held.bytes.items front rest), long)
      by OutOfMemory (front, rest, cut, long) = by_memory go_on
  gives_up c' fault no_last fits words closes replies past answered (closing left words' stage was ends) = absurd cc
  gives_up c' fault no_last fits words closes replies past answered (stopping left stage was stopped) = absurd cc
  gives_up c' fault no_last fits words closes replies past answered (over left words' stage was closed) = absurd cc
