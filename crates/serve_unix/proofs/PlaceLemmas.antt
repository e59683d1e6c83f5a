-- Who is admitted, and how turns follow each other.
use Rattle.std.proofs.Common.{◌≡◌, ◌∙◌, ◌+◌, ◌<◌, ◌≤◌, ◌++◌, ◌∷◌, Bool, List, None, Option, Some, [], ap, append_assoc, append-nil, false, inl, inr, length, refl, subst, sym, true, ℕ}
use Rattle.std.proofs.lemmas.Option.{slice_get_within}
use Rattle.serve_stream.specs.declared.conversation.Conversation.{Conversation}
use Rattle.serve_stream.specs.declared.conversation.Turn.{Turn}
use Rattle.serve_stream.specs.Answers.{Exchange}
use Rattle.serve_stream.specs.Standing.{IsAt}
use Rattle.serve_stream.specs.Stream.{Event}
use Rattle.serve_unix.specs.declared.client.Client.{Client}
use Rattle.serve_unix.specs.declared.clients.TheConstants.{CLIENTS}
use Rattle.serve_unix.specs.Connections.{Connection, IsUntouched, Tells, accepted, closed, interrupted, nobody_waited, not_watched, watched, watched_by}
use Rattle.serve_unix.specs.Places.{Admits, HasAccepted, HasAcceptedOnce, HasAcceptedSome, HaveTurns, IsAccepted, IsAdmitted, IsFirstFrom, IsNextOf, IsNextTurn, IsPut, IsTurnGiven, Places, TurnsInOrder, and_then, is_active_in, is_free, is_stop, next_turn, no_turn, not_once, once_more, one_client, seated}

-- ---- what is told of connections

pub tells_nothing : (told : Option (List Connection)) → Tells told told []
tells_nothing None = tt
tells_nothing (Some log) = sym (append-nil log)

pub tells_more : (told between told' : Option (List Connection)) (one other : List Connection) → Tells told between one → Tells between told' other → Tells told told' (one ++ other)
tells_more None between told' one other first next = tt
tells_more (Some log) None told' one other first next = absurd first
tells_more (Some log) (Some middle) None one other first next = absurd next
tells_more (Some log) (Some middle) (Some later) one other first next = next ∙ (ap (λ t. t ++ other) first ∙ append_assoc log one other)

module _ (told told' : Option (List Connection)) (watches : Bool) (place : ℕ) where
  pub was_watched : watches ≡ true → Tells told told' (watched_by watches place) → Tells told told' (watched place ∷ [])
  was_watched is tells = subst (λ (w : Bool). Tells told told' (watched_by w place)) is tells

  pub was_not_watched : watches ≡ false → Tells told told' (watched_by watches place) → Tells told told' (not_watched place ∷ [])
  was_not_watched is tells = subst (λ (w : Bool). Tells told told' (watched_by w place)) is tells

-- ---- who is admitted

module _ {S : Type 0} (log : S → Option (List Event)) where
  pub turned_away_now : (before : Places S) (told told₁ told' : Option (List Connection)) (events : List Connection) (given untouched : Option (List Event)) → IsUntouched given
      → untouched ≡ given → Tells told told₁ events → Tells told₁ told' (closed untouched ∷ [])
      → (IsUntouched untouched → Admits log before before (accepted ∷ events ++ closed untouched ∷ [])) → IsAdmitted log told told' before before
  turned_away_now before told told₁ told' events given untouched quiet same first ends admits = record {
    events = events ++ closed untouched ∷ [];
    logged = tells_more told told₁ told' events (closed untouched ∷ []) first ends;
    admits = admits (subst IsUntouched (sym same) quiet);
  }

  pub seated_now : (before after : Places S) (told told' : Option (List Connection)) (watches : Bool) (place : ℕ) (stream : S) (given : Option (List Event)) (conversation : Conversation)
      → IsNextOf is_free before.seats before.next (Some place) → IsUntouched given → log stream ≡ given → watches ≡ true → Tells told told' (watched_by watches place)
      → IsAt conversation [] [] → IsPut place stream conversation before after → IsAdmitted log told told' before after
  seated_now before after told told' watches place stream given conversation is_next quiet same is first begins put = record {
    events = watched place ∷ [];
    logged = subst (λ (w : Bool). Tells told told' (watched_by w place)) is first;
    admits = seated place stream conversation is_next (subst IsUntouched (sym same) quiet) begins put;
  }

  pub accepts_one : (before after : Places S) (told middle told' : Option (List Connection)) → Tells told middle (accepted ∷ []) → IsAdmitted log middle told' before after
      → HasAcceptedOnce log true told told' before after
  accepts_one before after told middle told' came admitted = record {
    events = accepted ∷ admitted.events;
    logged = tells_more told middle told' (accepted ∷ []) admitted.events came admitted.logged;
    accepts = one_client (accepted ∷ admitted.events) admitted.admits;
  }

  pub accepts_again : (before : Places S) (told told' : Option (List Connection)) → Tells told told' (interrupted ∷ []) → HasAcceptedOnce log true told told' before before
  accepts_again before told told' came = record { events = interrupted ∷ []; logged = came; accepts = once_more refl }

  pub accepts_none : (before : Places S) (told : Option (List Connection)) → HasAcceptedSome log 0 told told before before
  accepts_none before told = record { events = []; logged = tells_nothing told; each = not_once before refl }

  module _ (before now after : Places S) (told between told' : Option (List Connection)) (count : ℕ) (goes_on : Bool) (earlier : HasAcceptedSome log count told between before now)
      (once : HasAcceptedOnce log goes_on between told' now after) where
    pub accepts_more : goes_on ≡ true → HasAcceptedSome log (count + 1) told told' before after
    accepts_more goes = by (subst (λ (b : Bool). HasAcceptedOnce log b between told' now after) goes once)
      where
        by : IsAccepted log between told' now after → HasAcceptedSome log (count + 1) told told' before after
        by made = record {
          events = earlier.events ++ made.events;
          logged = tells_more told between told' earlier.events made.events earlier.logged made.logged;
          each = and_then count earlier.events made.events now after earlier.each made.accepts;
        }

    pub accepts_until : goes_on ≡ false → count < CLIENTS → HasAccepted log told told' before after
    accepts_until ends few = by (subst (λ (b : Bool). HasAcceptedOnce log b between told' now after) ends once)
      where
        by : (after ≡ now) × Tells between told' (nobody_waited ∷ []) → HasAccepted log told told' before after
        by made = record {
          count = count;
          told_after = between;
          some = subst (λ (p : Places S). HasAcceptedSome log count told between before p) (sym made.0) earlier;
          ends = inr (few, made.1);
        }

  pub accepts_all : (before after : Places S) (told told' : Option (List Connection)) (count : ℕ) → HasAcceptedSome log count told told' before after → count ≡ CLIENTS
      → HasAccepted log told told' before after
  accepts_all before after told told' count some all = record { count = count; told_after = told'; some = some; ends = inl (all, refl) }

-- ---- which place

pub next_within : {S : Type 0} (test : Option (Client S) → Bool) (seats : List (Option (Client S))) (next place : ℕ) → IsNextOf test seats next (Some place) → place < length seats
next_within test seats next place (inl first) = slice_get_within seats place first.0 first.1
next_within test seats next place (inr others) = slice_get_within seats place others.1.0 others.1.1

-- ---- turns

module _ {S A : Type 0} (log : S → Option (List Event)) (Does : A → A → Exchange → Type 0) (Notes : A → A → List ℕ → List ℕ → Type 0) (TurnsTo : A → A → ℕ → Type 0)
    (before : Places S) (state : A) (told : Option (List Connection)) where
  pub turns_none : TurnsInOrder log Does Notes TurnsTo before state told 0 false before state told
  turns_none = no_turn before state told refl refl refl

  module _ (count : ℕ) (between after : Places S) (middle state' : A) (told₁ told' : Option (List Connection)) (earlier : TurnsInOrder log Does Notes TurnsTo before state told count false between middle told₁) where
    pub turns_one : (turn : Turn) (stops : Bool) → is_stop turn ≡ stops → IsNextTurn log Does Notes TurnsTo between after middle state' told₁ told' turn
        → TurnsInOrder log Does Notes TurnsTo before state told (count + 1) stops after state' told'
    turns_one turn stops is made =
        subst (λ (b : Bool). TurnsInOrder log Does Notes TurnsTo before state told (count + 1) b after state' told') is (next_turn count between after middle state' told₁ told' turn earlier made)

    pub turns_stop : (turn : Turn) (budget : ℕ) → is_stop turn ≡ true → count + 1 ≤ budget → IsNextTurn log Does Notes TurnsTo between after middle state' told₁ told' turn
        → HaveTurns log Does Notes TurnsTo budget state state' told told' before after true
    turns_stop turn budget is few made = record { count = count + 1; few = few; in_order = turns_one turn true is made; enough = λ no. absurd cc }

    -- nobody has anything to do
    pub turns_end : (budget : ℕ) → count ≤ budget → IsTurnGiven log Does Notes TurnsTo middle state' told₁ told' between after None
        → HaveTurns log Does Notes TurnsTo budget state state' told told' before after false
    turns_end budget few given = record {
      count = count;
      few = few;
      in_order = subst (λ (a : Places S). TurnsInOrder log Does Notes TurnsTo before state told count false a state' told') (sym given.1)
          (subst (λ (s : A). TurnsInOrder log Does Notes TurnsTo before state told count false between s told') (sym given.2)
          (subst (λ (t : Option (List Connection)). TurnsInOrder log Does Notes TurnsTo before state told count false between middle t) (sym given.3) earlier));
      enough = λ is. inr (subst (λ (a : Places S). IsFirstFrom is_active_in a.seats 0 None) (sym given.1) given.0);
    }
