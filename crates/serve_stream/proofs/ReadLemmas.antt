-- What a read of the stream comes to.
use Rattle.std.proofs.Common.{◌≡◌, ◌∙◌, ◌==◌, ◌≤◌, ◌∷◌, ◌⊎◌, Bool, List, Option, [], ap, arith, false, inl, inr, length, refl, subst, sym, true, ℕ}
use Rattle.std.proofs.lemmas.Bool.{eqb-true}
use Rattle.std.proofs.lemmas.List.{nil_from_length}
use Rattle.serve_stream.specs.declared.conversation.Conversation.{Conversation}
use Rattle.serve_stream.specs.declared.conversation.Stage.TheVariants.{Closing, Open, Over}
use Rattle.serve_stream.specs.declared.stream.Arrived.{Arrived}
use Rattle.serve_stream.specs.declared.stream.Arrived.TheVariants as arrived
use Rattle.serve_stream.specs.Stream.{Event, Happened, Logs, ended, events_of_read, failed, gave_none, given, taken, took_none}
use Rattle.serve_stream.specs.body.Waiting.{IsRead}
use Rattle.serve_stream.proofs.MoveLemmas.{client_ends, fails, logs_none, reads, stays}

pub empty_is : (empty : Bool) (shown list : List ℕ) → shown ≡ list → empty ≡ (length shown == 0) → empty ≡ true → list ≡ []
empty_is empty shown list is tested empty_here = sym is ∙ nil_from_length shown (eqb-true (length shown) 0 (sym tested ∙ empty_here))

pub none_read : (log : Option (List Event)) (c : Conversation) → IsRead log log c c true
none_read log c = record { events = []; logged = logs_none log; moves = stays c; brief = omega arith; no_stop = λ none. none; took_all = λ here. here; some_more = λ is here. here; no_more = λ no. absurd cc; over_if_failed = λ here. absurd here; closed_if_ended = λ here. absurd here; not_opened = λ none. none }

pub not_open : (log : Option (List Event)) (c : Conversation) → (c.stage ≡ Open → ⊥) → IsRead log log c c false
not_open log c other = record { events = []; logged = logs_none log; moves = stays c; brief = omega arith; no_stop = λ none. none; took_all = λ here. here; some_more = λ is here. here; no_more = λ no here. absurd (other here); over_if_failed = λ here. absurd here; closed_if_ended = λ here. absurd here; not_opened = λ none. none }

quiet_read : (came : Arrived) (room : List ℕ) → taken (events_of_read came room) ≡ []
quiet_read (arrived.Bytes count) room = refl
quiet_read arrived.NotYet room = refl
quiet_read arrived.Interrupted room = refl
quiet_read arrived.Ended room = refl
quiet_read arrived.Failed room = refl

-- of one event
pub one_only : {event other : Event} → (other ≡ event → ⊥) → Happened event (other ∷ []) → ⊥
one_only apart (inl is) = apart is
one_only apart (inr none) = none

no_took : (came : Arrived) (room : List ℕ) → Happened took_none (events_of_read came room) → ⊥
no_took (arrived.Bytes count) room here = one_only (λ is. absurd cc) here
no_took arrived.NotYet room here = one_only (λ is. absurd cc) here
no_took arrived.Interrupted room here = here
no_took arrived.Ended room here = one_only (λ is. absurd cc) here
no_took arrived.Failed room here = one_only (λ is. absurd cc) here

no_none : (came : Arrived) (room : List ℕ) → (came ≡ arrived.NotYet → ⊥) → Happened gave_none (events_of_read came room) → ⊥
no_none (arrived.Bytes count) room other here = one_only (λ is. absurd cc) here
no_none arrived.NotYet room other here = other refl
no_none arrived.Interrupted room other here = here
no_none arrived.Ended room other here = one_only (λ is. absurd cc) here
no_none arrived.Failed room other here = one_only (λ is. absurd cc) here

no_failure : (came : Arrived) (room : List ℕ) → (came ≡ arrived.Failed → ⊥) → Happened failed (events_of_read came room) → ⊥
no_failure (arrived.Bytes count) room other here = one_only (λ is. absurd cc) here
no_failure arrived.NotYet room other here = one_only (λ is. absurd cc) here
no_failure arrived.Interrupted room other here = here
no_failure arrived.Ended room other here = one_only (λ is. absurd cc) here
no_failure arrived.Failed room other here = other refl

no_end : (came : Arrived) (room : List ℕ) → (came ≡ arrived.Ended → ⊥) → Happened ended (events_of_read came room) → ⊥
no_end (arrived.Bytes count) room other here = one_only (λ is. absurd cc) here
no_end arrived.NotYet room other here = one_only (λ is. absurd cc) here
no_end arrived.Interrupted room other here = here
no_end arrived.Ended room other here = other refl
no_end arrived.Failed room other here = one_only (λ is. absurd cc) here

brief_read : (came : Arrived) (room : List ℕ) → length (events_of_read came room) ≤ 1
brief_read (arrived.Bytes count) room = omega arith
brief_read arrived.NotYet room = omega arith
brief_read arrived.Interrupted room = omega arith
brief_read arrived.Ended room = omega arith
brief_read arrived.Failed room = omega arith

module _ (log log' : Option (List Event)) (c : Conversation) (open_stage : c.stage ≡ Open) (none : c.unread ≡ []) (came : Arrived) (unread : List ℕ)
    (read : (room : List ℕ) × Logs log log' (events_of_read came room) × (unread ≡ given (events_of_read came room))) where
  pub read_some : (came ≡ arrived.NotYet → ⊥) → (came ≡ arrived.Failed → ⊥) → (came ≡ arrived.Ended → ⊥) → IsRead log log' c (record c { unread = unread }) true
  read_some other lives goes_on = record {
    events = events_of_read came read.0;
    logged = read.1;
    moves = reads c open_stage none unread (events_of_read came read.0) read.2 (quiet_read came read.0);
    brief = brief_read came read.0;
    no_stop = λ none. none;
    took_all = no_took came read.0;
    some_more = λ is. no_none came read.0 other;
    no_more = λ no. absurd cc;
    over_if_failed = λ here. absurd (no_failure came read.0 lives here);
    closed_if_ended = λ here. absurd (no_end came read.0 goes_on here);
    not_opened = λ none is. none open_stage;
  }

  pub read_none : came ≡ arrived.NotYet → IsRead log log' c (record c { unread = unread }) false
  read_none is =
      let empty : unread ≡ [] = read.2 ∙ ap (λ a. given (events_of_read a read.0)) is in record {
        events = gave_none ∷ [];
        logged = subst (λ (a : Arrived). Logs log log' (events_of_read a read.0)) is read.1;
        moves = reads c open_stage none unread (gave_none ∷ []) empty refl;
        brief = omega arith;
        no_stop = λ none. none;
        took_all = λ here. one_only (λ is. absurd cc) here;
        some_more = λ is. absurd cc;
        no_more = λ no here. (empty, inl refl);
        over_if_failed = λ here. absurd (one_only (λ is. absurd cc) here);
        closed_if_ended = λ here. absurd (one_only (λ is. absurd cc) here);
        not_opened = λ none is. none open_stage;
      }

  pub read_end : came ≡ arrived.Ended → IsRead log log' c (record c { unread = unread; stage = Closing }) false
  read_end is = record {
    events = ended ∷ [];
    logged = subst (λ (a : Arrived). Logs log log' (events_of_read a read.0)) is read.1;
    moves = client_ends c open_stage none unread;
    brief = omega arith;
    no_stop = λ none here. absurd cc;
    took_all = λ here. one_only (λ is. absurd cc) here;
    some_more = λ is. absurd cc;
    no_more = λ no here. absurd cc;
    over_if_failed = λ here. absurd (one_only (λ is. absurd cc) here);
    closed_if_ended = λ here is. absurd cc;
    not_opened = λ none is. absurd cc;
  }

  pub read_failed : came ≡ arrived.Failed → IsRead log log' c (record c { unread = unread; stage = Over }) false
  read_failed is = record {
    events = failed ∷ [];
    logged = subst (λ (a : Arrived). Logs log log' (events_of_read a read.0)) is read.1;
    moves = fails c unread;
    brief = omega arith;
    no_stop = λ none here. absurd cc;
    took_all = λ here. one_only (λ is. absurd cc) here;
    some_more = λ is. absurd cc;
    no_more = λ no here. absurd cc;
    over_if_failed = λ here. refl;
    closed_if_ended = λ here is. absurd cc;
    not_opened = λ none is. absurd cc;
  }

-- bytes came, or the read was interrupted
pub not_yet : (came : Arrived) → came ≡ arrived.NotYet → ((count : ℕ) × (came ≡ arrived.Bytes count)) ⊎ (came ≡ arrived.Interrupted) → ⊥
not_yet came is (inl (count, other)) = absurd cc
not_yet came is (inr other) = absurd cc

pub not_failed : (came : Arrived) → came ≡ arrived.Failed → ((count : ℕ) × (came ≡ arrived.Bytes count)) ⊎ (came ≡ arrived.Interrupted) → ⊥
not_failed came is (inl (count, other)) = absurd cc
not_failed came is (inr other) = absurd cc

pub not_ended : (came : Arrived) → came ≡ arrived.Ended → ((count : ℕ) × (came ≡ arrived.Bytes count)) ⊎ (came ≡ arrived.Interrupted) → ⊥
not_ended came is (inl (count, other)) = absurd cc
not_ended came is (inr other) = absurd cc
