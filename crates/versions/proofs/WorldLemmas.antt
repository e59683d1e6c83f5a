-- A world at its opening, and after one event more.
use Rattle.std.proofs.Common.{◌≡◌, ℕ, zero, suc, ◌<◌, ◌≤◌, List, None, Option, Some, [], ◌∷◌, ◌++◌, ap, arith, drop, length, length-append, refl, replicate, reverse, slice_get, subst, sym, take, ◌∙◌, ⊎_elim}
use Rattle.std.proofs.lemmas.List.{append-nil, get_or-replicate, length-replicate, reverse-append, take_at}
use Rattle.std.proofs.lemmas.Option.{slice_get-get_or}
use mathlib.Core.Option.{some}
use lib.ListN.{get_elem?}
use Rattle.config_image.specs.Image.{Group}
use Rattle.config_image.specs.Pooled.{parts}
use Rattle.config_image.proofs.LengthLemmas.{within_charge}
use Rattle.member_group.specs.Group.{IsConfig}
use Rattle.member_group.specs.Charge.{charge_of}
use Rattle.versions.specs.declared.layout.TheConstants.{CHARGE_LIMIT}
use Rattle.versions.specs.declared.progress.Progress.{Progress}
use Rattle.versions.specs.declared.step.Step.{Step}
use Rattle.versions.specs.declared.step.Step.TheVariants.{Announce, Fetch, Fill, Leave, Peek, Pin, Publish, Scan}
use Rattle.versions.specs.declared.step.Event.{Event}
use Rattle.versions.specs.declared.step.Event.TheVariants.{Proposed, Stepped}
use Rattle.versions.specs.declared.view.Stage.TheVariants.{Outside}
use Rattle.versions.specs.declared.view.WorkerView.{WorkerView}
use Rattle.versions.specs.View.{after_proposal, listed}
use Rattle.versions.specs.Layout.{HoldsForm, pages_named}
use Rattle.versions.specs.Pooled.{HasRoom}
use Rattle.versions.specs.State.{IsOpening, State, after_event, after_step, new_operator, new_workers, state_after}
use Rattle.versions.specs.Legal.{IsLegal, IsLegalEvent, IsLegalStep, IsReached}
use Rattle.versions.specs.Table.{the_shape}
use Rattle.versions.specs.World.{first_pages, opened_with, opening_stored, world_after}
use Rattle.versions.specs.declared.book.Book.{Book}
use Rattle.versions.specs.Book.{IsBook, IsBookAtStart}
use Rattle.versions.specs.body.Mirror.{AllHaveRoom, BeginsAtStart, FitsRow, Follows, IsMirror}
use Rattle.versions.specs.body.WorldKept.{IsProposalAt, IsWorld, proposal_by}
use Rattle.versions.proofs.BookLemmas.{IsBook-opened, IsBook-proposed}
use Rattle.versions.proofs.ListLemmas.{elem_below, elem_snoc}
use Rattle.versions.proofs.MirrorLemmas.{IsMirror-operator, none_some, some_same}
use Rattle.versions.proofs.OpenedLemmas.{HoldsForm-opened, length-stored, named_first}
use Rattle.versions.proofs.ShapeLemmas.{charge_is, charge_limit_is, rows_is, stored_is, workers_is}
use Rattle.versions.proofs.TraceLemmas.{length-new_workers, new_worker_at, only}

pub IsOpening-stored : (config : List Group) → HasRoom config → the_shape.charge config ≤ the_shape.charge_limit → IsOpening the_shape config (opening_stored config)
IsOpening-stored config room charge = record {
  charge = charge;
  some_row = omega (arith, rows_is);
  whole = length-stored config room;
  held = subst (HoldsForm the_shape 0 (opening_stored config) 0 config) (sym (named_first config room)) (HoldsForm-opened config room);
}

pub IsReached-world : (config : List Group) (events : List (Event (List Group))) → HasRoom config → the_shape.charge config ≤ the_shape.charge_limit → IsLegal the_shape (opened_with config) (reverse events) → IsReached the_shape (world_after config events)
IsReached-world config events room charge legal = record {
  config = config;
  stored = opening_stored config;
  trace = reverse events;
  opening = IsOpening-stored config room charge;
  legal = legal;
  reached = refl;
}

pub reverse-pushed : {A : Type 0} → (xs : List A) (x : A) → reverse (xs ++ x ∷ []) ≡ x ∷ reverse xs
reverse-pushed xs x = reverse-append xs (x ∷ [])

pub world_after-pushed : (config : List Group) (events : List (Event (List Group))) (event : Event (List Group)) → world_after config (events ++ event ∷ []) ≡ after_event the_shape (world_after config events) event
world_after-pushed config events event = ap (state_after the_shape (opened_with config)) (reverse-pushed events event)

pub IsLegal-pushed : (config : List Group) (events : List (Event (List Group))) (event : Event (List Group)) → IsLegal the_shape (opened_with config) (reverse events)
    → IsLegalEvent the_shape (world_after config events) event → IsLegal the_shape (opened_with config) (reverse (events ++ event ∷ []))
IsLegal-pushed config events event legal next = subst (IsLegal the_shape (opened_with config)) (sym (reverse-pushed events event)) (legal, next)

slice_get-replicate : {A : Type 0} → (n i : ℕ) (x : A) → i < n → slice_get (replicate n x) i ≡ Some x
slice_get-replicate n i x low = slice_get-get_or (replicate n x) i x (omega (arith, length-replicate n x)) ∙ ap Some (get_or-replicate n i x x low)

pub slice_get-front : {A : Type 0} → (xs ys : List A) (i : ℕ) (x : A) → slice_get xs i ≡ Some x → slice_get (xs ++ ys) i ≡ Some x
slice_get-front [] ys i x e = absurd (none_some x e)
slice_get-front (y ∷ xs) ys zero x e = e
slice_get-front (y ∷ xs) ys (suc i) x e = slice_get-front xs ys i x e

pub slice_get-end : {A : Type 0} → (xs : List A) (x : A) → slice_get (xs ++ x ∷ []) (length xs) ≡ Some x
slice_get-end [] x = refl
slice_get-end (y ∷ xs) x = slice_get-end xs x

-- the book of an operator that opened a table
pub IsBook-start : {A : Type 0} → (config : List Group) (book : Book A) → HasRoom config → IsBookAtStart (first_pages (length (parts config))) book → IsBook the_shape (new_operator the_shape config (opening_stored config)) book
IsBook-start config book room h = IsBook-opened config (opening_stored config) book
    (λ index page at. (HoldsForm-opened config room).below index page (ap (λ l. slice_get l index) (sym (named_first config room)) ∙ at))
    (subst (λ l. IsBookAtStart l book) (sym (named_first config room)) h)

pub IsMirror-opened : {A : Type 0} → (config : List Group) (words : List ℕ) (progress : Progress A) → HasRoom config → words ≡ (opened_with config).words → BeginsAtStart (first_pages (length (parts config))) progress → IsMirror the_shape (opened_with config) words progress
IsMirror-opened config words progress room same h = record {
  words_same = same;
  stages_length = ap length h.stages ∙ length-replicate the_shape.workers Outside;
  stages = λ w view at.
      let named = pages_named the_shape (opening_stored config) 0 in
      let is = new_worker_at config named 0 the_shape.workers w view at in let below = elem_below (new_workers config named 0 the_shape.workers) w view at in let many = length-new_workers config named 0 the_shape.workers in
      ap (λ qs. slice_get qs w) h.stages ∙ (slice_get-replicate the_shape.workers w Outside (omega arith) ∙ ap (λ (v : WorkerView (List Group)). Some v.stage) (sym is));
  book = IsBook-start config progress.book room h.book;
}

pub light : (config : List Group) (charge : ℕ) → charge ≡ charge_of config → charge ≤ CHARGE_LIMIT → the_shape.charge config ≤ the_shape.charge_limit
light config charge is low = omega (arith, charge_is config, charge_limit_is)

-- a row has room for a configuration that is not charged too much
pub has_room : (config : List Group) (charge : ℕ) → IsConfig config → charge ≡ charge_of config → charge ≤ CHARGE_LIMIT → HasRoom config
has_room config charge is_config is low = omega (arith, within_charge config is_config)

still_proposed : (events : List (Event (List Group))) (event : Event (List Group)) (proposal : Option (List Group)) (found : Option ℕ) → IsProposalAt events proposal found → IsProposalAt (events ++ event ∷ []) proposal found
still_proposed events event proposal None h = h
still_proposed events event proposal (Some i) h = (h.0, slice_get-front events (event ∷ []) i (Proposed h.0) h.1, h.2)

-- the proposal after a step
proposed-after : (s : State (List Group)) (events : List (Event (List Group))) (step : Step) (x : ℕ) (found : Option ℕ) → IsProposalAt events s.operator.proposal found
    → IsProposalAt (events ++ Stepped step x ∷ []) (after_step the_shape s step x).operator.proposal (proposal_by step found)
proposed-after s events (Peek w) x found h = still_proposed events (Stepped (Peek w) x) s.operator.proposal found h
proposed-after s events (Announce w) x found h = still_proposed events (Stepped (Announce w) x) s.operator.proposal found h
proposed-after s events (Pin w) x found h = still_proposed events (Stepped (Pin w) x) s.operator.proposal found h
proposed-after s events (Fetch w p) x found h = still_proposed events (Stepped (Fetch w p) x) s.operator.proposal found h
proposed-after s events (Leave w) x found h = still_proposed events (Stepped (Leave w) x) s.operator.proposal found h
proposed-after s events (Fill p y) x found h = still_proposed events (Stepped (Fill p y) x) s.operator.proposal found h
proposed-after s events (Scan p) x found h = still_proposed events (Stepped (Scan p) x) s.operator.proposal found h
proposed-after s events (Publish r) x found h = refl

-- rows have room for what is published and proposed after a step
room-after : (s : State (List Group)) (step : Step) (x : ℕ) → AllHaveRoom s → AllHaveRoom (after_step the_shape s step x)
room-after s (Peek w) x h = record { published = h.published; proposed = h.proposed }
room-after s (Announce w) x h = record { published = h.published; proposed = h.proposed }
room-after s (Pin w) x h = record { published = h.published; proposed = h.proposed }
room-after s (Fetch w p) x h = record { published = h.published; proposed = h.proposed }
room-after s (Leave w) x h = record { published = h.published; proposed = h.proposed }
room-after s (Fill p y) x h = record { published = h.published; proposed = h.proposed }
room-after s (Scan p) x h = record { published = h.published; proposed = h.proposed }
room-after s (Publish r) x h = record {
  published = λ n config at. published_after s.operator.published s.operator.proposal h.published h.proposed n config at;
  proposed = λ config e. absurd (none_some config e);
}
  where
    published_after : (published : List (List Group)) (proposal : Option (List Group)) → ((n : ℕ) (config : List Group) → get_elem? published n ≡ some config → HasRoom config) → FitsRow proposal
        → (n : ℕ) (config : List Group) → get_elem? (published ++ listed proposal) n ≡ some config → HasRoom config
    published_after published None each fits n config at = each n config (ap (λ l. get_elem? l n) (sym (append-nil published)) ∙ at)
    published_after published (Some proposed) each fits n config at = ⊎_elim (each n config) (λ t. subst HasRoom t.1 (fits proposed refl)) (elem_snoc published proposed config n at)

-- a world after a step, where the words and numbers follow
pub IsWorld-stepped : {A : Type 0} → (config : List Group) (events : List (Event (List Group))) (table table' : List ℕ) (progress progress' : Progress A) (found : Option ℕ) (step : Step) (x : ℕ) → IsWorld config events table progress found
    → IsLegalStep the_shape (world_after config events) step x → length table' ≡ length table → Follows table progress table' progress' step x
    → IsWorld config (events ++ Stepped step x ∷ []) table' progress' (proposal_by step found)
IsWorld-stepped config events table table' progress progress' found step x h legal long follows =
    let s = world_after config events in let more = world_after-pushed config events (Stepped step x) in record {
      charge = h.charge;
      opened = h.opened;
      room = subst AllHaveRoom (sym more) (room-after s step x h.room);
      legal = IsLegal-pushed config events (Stepped step x) h.legal legal;
      mirror = subst (λ (t : State (List Group)). IsMirror the_shape t table' progress') (sym more) (follows s (IsReached-world config events h.opened h.charge h.legal) h.mirror legal);
      table_length = long ∙ h.table_length;
      proposed = subst (λ (t : State (List Group)). IsProposalAt (events ++ Stepped step x ∷ []) t.operator.proposal (proposal_by step found)) (sym more) (proposed-after s events step x found h.proposed);
    }

-- the same for words that are written over those before, and for an answer that names no step: `search` finds what the step promised
pub IsWorld-taken : {A : Type 0} → (config : List Group) (events : List (Event (List Group))) (table : List ℕ) (progress : Progress A) (found : Option ℕ) (step : Step) (x : ℕ) → IsWorld config events table progress found
    → IsLegalStep the_shape (world_after config events) step x
    → (events' : List (Event (List Group))) (table' lent : List ℕ) (progress' : Progress A) (found' : Option ℕ) (n : ℕ) → events' ≡ events ++ Stepped step x ∷ [] → lent ≡ table → length table' ≡ length lent
    → Follows lent progress table' progress' step x → found' ≡ proposal_by step found → n ≡ length table → IsWorld config events' (take n (table' ++ drop (length table') table)) progress' found'
IsWorld-taken config events table progress found step x h legal events' table' lent progress' found' n events_are lent_is long follows found_is n_is =
    let long' : length table' ≡ length table = long ∙ ap length lent_is in
    let whole : take n (table' ++ drop (length table') table) ≡ table' = take_at table' (drop (length table') table) n (long' ∙ sym n_is) in
    let follows' : Follows table progress table' progress' step x = subst (λ l. Follows l progress table' progress' step x) lent_is follows in
    subst (λ l. IsWorld config events' l progress' found') (sym whole)
    (subst (λ l. IsWorld config l table' progress' found') (sym events_are)
    (subst (λ p. IsWorld config (events ++ Stepped step x ∷ []) table' progress' p) (sym found_is)
    (IsWorld-stepped config events table table' progress progress' found step x h legal long' follows')))

-- a world after a proposal
pub IsWorld-proposed : {A : Type 0} → (config : List Group) (events : List (Event (List Group))) (table : List ℕ) (progress : Progress A) (found : Option ℕ) (proposed : List Group) → IsWorld config events table progress found
    → the_shape.charge proposed ≤ the_shape.charge_limit → HasRoom proposed → IsWorld config (events ++ Proposed proposed ∷ []) table progress (Some (length events))
IsWorld-proposed config events table progress found proposed h low fits =
    let s = world_after config events in let more = world_after-pushed config events (Proposed proposed) in record {
      charge = h.charge;
      opened = h.opened;
      room = subst AllHaveRoom (sym more) (record { published = h.room.published; proposed = λ c e. subst HasRoom (some_same proposed c e) fits });
      legal = IsLegal-pushed config events (Proposed proposed) h.legal low;
      mirror = subst (λ (t : State (List Group)). IsMirror the_shape t table progress) (sym more)
          (IsMirror-operator the_shape s table progress h.mirror (after_proposal proposed s.operator) s.words table progress refl (IsBook-proposed the_shape s.operator progress.book h.mirror.book proposed) h.mirror.words_same);
      table_length = h.table_length;
      proposed = subst (λ (t : State (List Group)). IsProposalAt (events ++ Proposed proposed ∷ []) t.operator.proposal (Some (length events))) (sym more) (proposed, slice_get-end events (Proposed proposed), refl);
    }

pub IsWorld-opened : {A : Type 0} → (config : List Group) (words : List ℕ) (progress : Progress A) → HasRoom config → the_shape.charge config ≤ the_shape.charge_limit → words ≡ (opened_with config).words
    → BeginsAtStart (first_pages (length (parts config))) progress → IsWorld config [] words progress None
IsWorld-opened config words progress room charge same h = record {
  charge = charge;
  opened = room;
  room = record { published = λ n c at. subst HasRoom (sym (only config c n at).1) room; proposed = λ c e. absurd (none_some c e) };
  legal = tt;
  mirror = IsMirror-opened config words progress room same h;
  table_length = ap length same ∙ omega (arith, length-append (replicate the_shape.workers 0) (opening_stored config), length-replicate {A = ℕ} the_shape.workers 0, workers_is, length-stored config room, stored_is);
  proposed = refl;
}
