-- How a conversation goes on: steps that follow each other, and what each step makes of it.
use Rattle.std.proofs.Common.{◌≡◌, ◌∙◌, ◌+◌, ◌≤◌, ◌++◌, ◌∷◌, ◌↔◌, ◌⊎◌, List, None, Option, Some, [], ap, append_assoc, append-nil, arith, inl, inr, length, length-append, map, refl, subst, sym, ℕ}
use Rattle.std.proofs.lemmas.List.Concat.{flat_map-append}
use Rattle.serve_stream.specs.declared.TheConstants.{WAITING_LIMIT}
use Rattle.serve_stream.specs.declared.conversation.Conversation.{Conversation}
use Rattle.serve_stream.specs.declared.conversation.Stage.TheVariants.{Closing, Open, Over, Stopping}
use Rattle.serve_stream.specs.Answers.{Exchange, LastStops, LeadsTo, request_of}
use Rattle.serve_stream.specs.Request.{IsCut, ended_by_lf}
use Rattle.serve_stream.specs.Conversation.{AreAllAnswered, EndsBy, IsConversation, after_all, by_bad_head, by_client, by_failure, by_length, by_memory, by_slow_client, by_stop}
use Rattle.serve_stream.specs.Standing.{IsAt, Moves, closing, going, over, stopping, waiting_of}
use Rattle.serve_stream.specs.Stream.{Event, Happened, Logs, bytes_given, bytes_taken, ended, failed, given, taken}
use Rattle.serve_stream.specs.body.Held.{Holds}
use Rattle.serve_stream.specs.body.Waiting.{AnswersFew, IsSameBut}
use Rattle.serve_stream.proofs.HeldLemmas.{part_held}

-- ---- logs

pub logs_none : (log : Option (List Event)) → Logs log log []
logs_none None = tt
logs_none (Some log) = sym (append-nil log)

pub logs_more : (log middle later : Option (List Event)) (one other : List Event) → Logs log middle one → Logs middle later other → Logs log later (one ++ other)
logs_more None middle later one other first next = tt
logs_more (Some log) None later one other first next = absurd first
logs_more (Some log) (Some middle) None one other first next = absurd next
logs_more (Some log) (Some middle) (Some later) one other first next = next ∙ (ap (λ t. t ++ other) first ∙ append_assoc log one other)

-- ---- steps

at_same : (c : Conversation) (past past' : List Event) (answered answered' : List Exchange) → past ≡ past' → answered ≡ answered' → IsAt c past answered → IsAt c past' answered'
at_same c past past' answered answered' events exchanges at =
    subst (λ (p : List Event). IsAt c p answered') events (subst (λ (a : List Exchange). IsAt c past a) exchanges at)

-- no more requests were answered
pub answers_none : (c : Conversation) (past : List Event) (answered : List Exchange) → IsAt c past answered → IsAt c past (answered ++ [])
answers_none c past answered at = at_same c past past answered (answered ++ []) refl (sym (append-nil answered)) at

pub nothing_more : (c : Conversation) (past : List Event) (answered : List Exchange) → IsAt c past answered → IsAt c (past ++ []) (answered ++ [])
nothing_more c past answered at = at_same c past (past ++ []) answered (answered ++ []) (sym (append-nil past)) (sym (append-nil answered)) at

pub stays : (c : Conversation) → Moves c c [] []
stays c past answered at = nothing_more c past answered at

pub moves_more : (a b c : Conversation) (one other : List Event) (first next : List Exchange) → Moves a b one first → Moves b c other next → Moves a c (one ++ other) (first ++ next)
moves_more a b c one other first next here there past answered at =
    at_same c ((past ++ one) ++ other) (past ++ (one ++ other)) ((answered ++ first) ++ next) (answered ++ (first ++ next)) (append_assoc past one other) (append_assoc answered first next)
    (there (past ++ one) (answered ++ first) (here past answered at))

pub leads_more : {S : Type 0} (Does : S → S → Exchange → Type 0) (state middle later : S) (one other : List Exchange) → LeadsTo Does state middle one → LeadsTo Does middle later other
    → LeadsTo Does state later (one ++ other)
leads_more Does state middle later [] other same rest = subst (λ s. LeadsTo Does s later other) same rest
leads_more Does state middle later (first ∷ one) other leads rest = (leads.0, leads.1, leads_more Does leads.0 middle later one other leads.2 rest)

last_stops : (one : List Exchange) (first : Exchange) (rest : List Exchange) → LastStops (one ++ first ∷ rest) ≡ LastStops (first ∷ rest)
last_stops [] first rest = refl
last_stops (x ∷ []) first rest = refl
last_stops (x ∷ next ∷ one) first rest = last_stops (next ∷ one) first rest

-- the last of several stops if the last of the later ones does, unless the earlier ones did
stops_more : (one other : List Exchange) → (LastStops one → ⊥) → LastStops (one ++ other) ↔ LastStops other
stops_more one [] none = (λ stop. absurd (none (subst LastStops (append-nil one) stop)), λ stop. absurd stop)
stops_more one (first ∷ rest) none =
    (λ stop. subst (λ (T : Type 0). T) (last_stops one first rest) stop, λ stop. subst (λ (T : Type 0). T) (sym (last_stops one first rest)) stop)

module _ {S : Type 0} (Does : S → S → Exchange → Type 0) where
  pub few_none : (most : ℕ) (state : S) (c : Conversation) → AnswersFew Does most state state c c
  few_none most state c = record { exchanges = []; leads = refl; few = omega arith; moves = stays c; stop = λ none. (λ here. absurd (none here), λ stop. absurd stop) }

  pub few_more : (m n most : ℕ) (state middle later : S) (a b c : Conversation) → AnswersFew Does m state middle a b → AnswersFew Does n middle later b c → m + n ≤ most → (b.stage ≡ Stopping → ⊥)
      → AnswersFew Does most state later a c
  few_more m n most state middle later a b c one other within lives =
      let len = length-append one.exchanges other.exchanges in
      let few = one.few in
      let few' = other.few in record {
        exchanges = one.exchanges ++ other.exchanges;
        leads = leads_more Does state middle later one.exchanges other.exchanges one.leads other.leads;
        few = omega (arith, len, few, few', within);
        moves = moves_more a b c [] [] one.exchanges other.exchanges one.moves other.moves;
        stop = λ none.
            let both = stops_more one.exchanges other.exchanges (λ stop. lives ((one.stop none).1 stop)) in
            let last = other.stop lives in (λ here. both.1 (last.0 here), λ stop. last.1 (both.0 stop));
      }

-- ---- what happens on the stream

pub happened_after : (event : Event) (past events : List Event) → Happened event events → Happened event (past ++ events)
happened_after event [] events here = here
happened_after event (first ∷ past) events here = inr (happened_after event past events here)

pub happened_last : (event : Event) (past : List Event) → Happened event (past ++ event ∷ [])
happened_last event past = happened_after event past (event ∷ []) (inl refl)

pub happened_before : (event : Event) (past events : List Event) → Happened event past → Happened event (past ++ events)
happened_before event [] events here = absurd here
happened_before event (first ∷ past) events (inl is) = inl is
happened_before event (first ∷ past) events (inr here) = inr (happened_before event past events here)

pub not_happened : (event : Event) (past events : List Event) → (Happened event past → ⊥) → (Happened event events → ⊥) → Happened event (past ++ events) → ⊥
not_happened event [] events none none' here = none' here
not_happened event (first ∷ past) events none none' (inl is) = none (inl is)
not_happened event (first ∷ past) events none none' (inr here) = not_happened event past events (λ h. none (inr h)) none' here

pub happened_parts : (event : Event) (past events : List Event) → Happened event (past ++ events) → Happened event past ⊎ Happened event events
happened_parts event [] events here = inr here
happened_parts event (first ∷ past) events (inl is) = inl (inl is)
happened_parts event (first ∷ past) events (inr here) = by (happened_parts event past events here)
  where
    by : Happened event past ⊎ Happened event events → Happened event (first ∷ past) ⊎ Happened event events
    by (inl before) = inl (inr before)
    by (inr after) = inr after

ends_more : (past events : List Event) (answered : List Exchange) (left words : List ℕ) → EndsBy past answered left words → EndsBy (past ++ events) answered left words
ends_more past events answered left _ (by_client here go_on part) = by_client (happened_before ended past events here) go_on part
ends_more past events answered left _ (by_bad_head earlier last is go_on bad) = by_bad_head earlier last is go_on bad
ends_more past events answered left _ (by_length go_on long) = by_length go_on long
ends_more past events answered left _ (by_memory go_on) = by_memory go_on

-- bytes come, or are taken
further : (past events : List Event) (answered : List Exchange) (left left' waiting rest words : List ℕ) → IsConversation past answered left waiting words
    → left ++ given events ≡ left' → waiting ≡ taken events ++ rest → IsConversation (past ++ events) answered left' rest words
further past events answered left left' waiting rest words is more less = record {
  cut = record {
    each = is.cut.each;
    whole = flat_map-append bytes_given past events
        ∙ (ap (λ t. t ++ given events) is.cut.whole ∙ (append_assoc (ended_by_lf (map request_of answered)) left (given events) ∙ ap (λ t. ended_by_lf (map request_of answered) ++ t) more));
  };
  go_on = is.go_on;
  written = ap (λ t. t ++ rest) (flat_map-append bytes_taken past events) ∙ (append_assoc (taken past) (taken events) rest ∙ (ap (λ t. taken past ++ t) (sym less) ∙ is.written));
}

-- ---- a read

module _ (c : Conversation) (open_stage : c.stage ≡ Open) (none : c.unread ≡ []) where
  no_unread : c.held.bytes.items ++ c.unread ≡ c.held.bytes.items
  no_unread = ap (λ t. c.held.bytes.items ++ t) none ∙ append-nil c.held.bytes.items

  pub reads : (unread : List ℕ) (events : List Event) → unread ≡ given events → taken events ≡ [] → Moves c (record c { unread = unread }) events []
  reads unread events came quiet past answered (going stage holds go_on is) =
      answers_none (record c { unread = unread }) (past ++ events) answered
      (going stage holds go_on
      (further past events answered (c.held.bytes.items ++ c.unread) (c.held.bytes.items ++ unread) (waiting_of c) (waiting_of c) [] is
      (ap (λ t. t ++ given events) no_unread ∙ ap (λ t. c.held.bytes.items ++ t) (sym came)) (ap (λ t. t ++ waiting_of c) (sym quiet))))
  reads unread events came quiet past answered (closing left words stage is ends) = absurd cc
  reads unread events came quiet past answered (stopping left stage is stopped) = absurd cc
  reads unread events came quiet past answered (over left words stage is closed) = absurd cc

  pub client_ends : (unread : List ℕ) → Moves c (record c { unread = unread; stage = Closing }) (ended ∷ []) []
  client_ends unread past answered (going stage holds go_on is) =
      answers_none (record c { unread = unread; stage = Closing }) (past ++ ended ∷ []) answered
      (closing c.held.bytes.items [] refl
      (further past (ended ∷ []) answered (c.held.bytes.items ++ c.unread) c.held.bytes.items (waiting_of c) (waiting_of c) [] is (append-nil (c.held.bytes.items ++ c.unread) ∙ no_unread) refl)
      (by_client (happened_last ended past) go_on (part_held c.held holds)))
  client_ends unread past answered (closing left words stage is ends) = absurd cc
  client_ends unread past answered (stopping left stage is stopped) = absurd cc
  client_ends unread past answered (over left words stage is closed) = absurd cc

-- ---- the end

-- what is left, and the last words
told : (c : Conversation) (past : List Event) (answered : List Exchange) → IsAt c past answered → (left words : List ℕ) × IsConversation past answered left (waiting_of c) words
told c past answered (going stage holds go_on is) = (c.held.bytes.items ++ c.unread, [], is)
told c past answered (closing left words stage is ends) = (left, words, is)
told c past answered (stopping left stage is stopped) = (left, [], is)
told c past answered (over left words stage is closed) = (left, words, is)

pub fails : (c : Conversation) (unread : List ℕ) → Moves c (record c { unread = unread; stage = Over }) (failed ∷ []) []
fails c unread past answered at =
    let is = told c past answered at in
    answers_none (record c { unread = unread; stage = Over }) (past ++ failed ∷ []) answered
    (over is.0 is.1 refl (further past (failed ∷ []) answered is.0 is.0 (waiting_of c) (waiting_of c) is.1 is.2 (append-nil is.0) refl) (by_failure (happened_last failed past)))

pub too_slow : (c : Conversation) → WAITING_LIMIT ≤ length (waiting_of c) → Moves c (record c { stage = Over }) [] []
too_slow c much past answered at =
    let is = told c past answered at in
    nothing_more (record c { stage = Over }) past answered (over is.0 is.1 refl is.2 (by_slow_client much))

pub all_said : (c : Conversation) → c.stage ≡ Closing → waiting_of c ≡ [] → Moves c (record c { stage = Over }) [] []
all_said c here none past answered (going stage holds go_on is) = absurd cc
all_said c here none past answered (closing left words stage is ends) =
    nothing_more (record c { stage = Over }) past answered (over left words refl is (after_all ends none))
all_said c here none past answered (stopping left stage is stopped) = absurd cc
all_said c here none past answered (over left words stage is closed) = absurd cc

pub stops : (c : Conversation) → (c.stage ≡ Stopping) ⊎ (c.stage ≡ Over) → Moves c (record c { stage = Over }) [] []
stops c here past answered at = nothing_more (record c { stage = Over }) past answered (by at here)
  where
    by : IsAt c past answered → (c.stage ≡ Stopping) ⊎ (c.stage ≡ Over) → IsAt (record c { stage = Over }) past answered
    by (going stage holds go_on is) (inl stop) = absurd cc
    by (going stage holds go_on is) (inr end) = absurd cc
    by (closing left words stage is ends) (inl stop) = absurd cc
    by (closing left words stage is ends) (inr end) = absurd cc
    by (stopping left stage is stopped) other = over left [] refl is (by_stop stopped)
    by (over left words stage is closed) other = over left words refl is closed

-- ---- a write

module _ (c c' : Conversation) (events : List Event) (same : IsSameBut c c') (quiet : given events ≡ []) (less : waiting_of c ≡ taken events ++ waiting_of c') (lives : c.stage ≡ Over → ⊥) where
  no_more_left : (left : List ℕ) → left ++ given events ≡ left
  no_more_left left = ap (λ t. left ++ t) quiet ∙ append-nil left

  same_left : c.held.bytes.items ++ c.unread ≡ c'.held.bytes.items ++ c'.unread
  same_left = ap (λ h. h.bytes.items ++ c.unread) (sym same.held) ∙ ap (λ t. c'.held.bytes.items ++ t) (sym same.unread)

  pub writes : Moves c c' events []
  writes past answered (going stage holds go_on is) =
      answers_none c' (past ++ events) answered
      (going (same.stage ∙ stage) (subst Holds (sym same.held) holds) go_on
      (further past events answered (c.held.bytes.items ++ c.unread) (c'.held.bytes.items ++ c'.unread) (waiting_of c) (waiting_of c') [] is
      (no_more_left (c.held.bytes.items ++ c.unread) ∙ same_left) less))
  writes past answered (closing left words stage is ends) =
      answers_none c' (past ++ events) answered
      (closing left words (same.stage ∙ stage) (further past events answered left left (waiting_of c) (waiting_of c') words is (no_more_left left) less) (ends_more past events answered left words ends))
  writes past answered (stopping left stage is stopped) =
      answers_none c' (past ++ events) answered
      (stopping left (same.stage ∙ stage) (further past events answered left left (waiting_of c) (waiting_of c') [] is (no_more_left left) less) stopped)
  writes past answered (over left words stage is closed) = absurd (lives stage)

-- ---- all requests

pub all_answered : (c : Conversation) (events : List Event) (exchanges : List Exchange) → IsAt c events exchanges → c.stage ≡ Open → c.unread ≡ [] → AreAllAnswered events exchanges
all_answered c events exchanges (going stage holds go_on is) here none = record {
  part = c.held.bytes.items;
  cut = subst (IsCut (given events) (map request_of exchanges)) (no_unread c here none) is.cut;
  is_part = part_held c.held holds;
}
all_answered c events exchanges (closing left words stage is ends) here none = absurd cc
all_answered c events exchanges (stopping left stage is stopped) here none = absurd cc
all_answered c events exchanges (over left words stage is closed) here none = absurd cc
