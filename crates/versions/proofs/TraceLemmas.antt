-- Each legal trace keeps the rule, and what keeps the rule is safe.
use Rattle.std.proofs.Common.{◌≡◌, ℕ, zero, suc, ◌+◌, ◌-◌, List, [], ◌∷◌, ◌++◌, ap, arith, get_or, get_or-append-add, inr, length, length-append, refl, replicate, set, slice_get, slice_index, subst, sym, ◌∙◌}
use Rattle.std.proofs.lemmas.List.{get_or-replicate, get_or_append_left, length-replicate, set-get_or}
use mathlib.Core.Option.{some, some-injective, some-ne-none}
use lib.ListN.{get_elem?}
use Rattle.versions.specs.declared.step.Step.{Step}
use Rattle.versions.specs.declared.step.Step.TheVariants.{Announce, Fetch, Fill, Leave, Peek, Pin, Publish, Scan}
use Rattle.versions.specs.declared.step.Entry.{Entry}
use Rattle.versions.specs.declared.step.Event.{Event}
use Rattle.versions.specs.declared.step.Event.TheVariants.{Proposed, Stepped}
use Rattle.versions.specs.declared.view.WorkerView.{WorkerView}
use Rattle.versions.specs.Layout.{HoldsForm, Shape, pages_named, rows_begin}
use Rattle.versions.specs.Step.{entry, place_of}
use Rattle.versions.specs.View.{new_worker}
use Rattle.versions.specs.Free.{IsFree}
use Rattle.versions.specs.State.{IsOpening, State, after_event, after_step, new_workers, start_of, state_after}
use Rattle.versions.specs.Legal.{IsLegal, IsLegalEvent, IsLegalStep, IsReached, IsWordAt}
use Rattle.versions.proofs.ListLemmas.{elem_below, get_elem_or}
use Rattle.versions.proofs.LogLemmas.{IsFree-on}
use Rattle.versions.proofs.Coherence.{Coheres, WorkerRule, holds-on}
use Rattle.versions.proofs.WorkerSteps.{Coheres-after_announce, Coheres-after_fetch, Coheres-after_leave, Coheres-after_peek, Coheres-after_pin}
use Rattle.versions.proofs.OperatorSteps.{Coheres-after_fill, Coheres-after_proposal, Coheres-after_publish, Coheres-after_scan}

pub only : {A : Type 0} → (x y : A) (m : ℕ) → get_elem? (x ∷ []) m ≡ some y → (m ≡ 0) × (y ≡ x)
only x y zero e = (refl, sym (some-injective x y e))
only x y (suc m) e = absurd (some-ne-none y (sym e))

module _ {C : Type 0} where
  pub length-new_workers : (config : C) (pages : List ℕ) (k n : ℕ) → length (new_workers config pages k n) ≡ n
  length-new_workers config pages k zero = refl
  length-new_workers config pages k (suc n) = ap suc (length-new_workers config pages (suc k) n)

  pub new_worker_at : (config : C) (pages : List ℕ) (k n w : ℕ) (view : WorkerView C) → get_elem? (new_workers config pages k n) w ≡ some view → view ≡ new_worker config pages (k + w)
  new_worker_at config pages k zero w view e = absurd (some-ne-none view (sym e))
  new_worker_at config pages k (suc n) zero view e = sym (some-injective _ view e) ∙ ap (new_worker config pages) (let g : k ≡ k + 0 = omega arith in g)
  new_worker_at config pages k (suc n) (suc w) view e = new_worker_at config pages (suc k) n w view e ∙ ap (new_worker config pages) (let g : suc k + w ≡ k + suc w = omega arith in g)

module _ {C : Type 0} (shape : Shape C) where
  -- the words after the read words
  words_at : (rows : List ℕ) (i : ℕ) → get_or (0 ∷ (replicate shape.workers 0 ++ rows)) ((1 + shape.workers) + i) 0 ≡ get_or rows i 0
  words_at rows i = let e : (1 + shape.workers) + i ≡ suc (shape.workers + i) = omega arith in ap (λ (k : ℕ). get_or (0 ∷ (replicate shape.workers 0 ++ rows)) k 0) e
      ∙ (ap (λ (k : ℕ). get_or (replicate shape.workers 0 ++ rows) (k + i) 0) (sym (length-replicate {A = ℕ} shape.workers 0)) ∙ get_or-append-add (replicate shape.workers 0) rows i 0)

  replicate_at : (n w : ℕ) (l : List Entry) → get_elem? (replicate n []) w ≡ some l → l ≡ []
  replicate_at n w l e = let below = elem_below (replicate n []) w l e in sym (get_elem_or (replicate n []) w l [] e) ∙ get_or-replicate n w [] [] (omega (arith, length-replicate {A = List Entry} n []))

  pub Coheres-start : (config : C) (stored : List ℕ) → IsOpening shape config stored → Coheres shape (start_of shape config stored)
  Coheres-start config stored h = let named = pages_named shape stored 0 in record {
    words_length = omega (arith, length-append (replicate shape.workers 0) stored, length-replicate {A = ℕ} shape.workers 0, h.whole);
    workers_length = length-new_workers config named 0 shape.workers;
    stored_length = h.whole;
    stored = λ i l. words_at stored i;
    published_length = refl;
    version_rows_length = refl;
    version_pages_length = refl;
    current = (0, refl, omega arith);
    numbered = omega arith;
    rows_below = λ m r e. let t = (only 0 r m e).1 in let some_row = h.some_row in omega arith;
    pages_below = λ m page names. h.held.below names.2.0 page (ap (λ l. slice_get l names.2.0) (sym (only named names.0 m names.1).1) ∙ names.2.1);
    each_worker = λ w view at. let is = new_worker_at config named 0 shape.workers w view at in let below = elem_below (new_workers config named 0 shape.workers) w view at in let many = length-new_workers config named 0 shape.workers in
        subst (λ (v : WorkerView C). WorkerRule shape (start_of shape config stored).words (start_of shape config stored).operator w v) (sym is) record {
          read_word = let e : 1 + w ≡ suc w = omega arith in ap (λ (k : ℕ). get_or (0 ∷ (replicate shape.workers 0 ++ stored)) k 0) e
              ∙ (get_or_append_left (replicate shape.workers 0) stored 0 w (omega (arith, length-replicate {A = ℕ} shape.workers 0)) ∙ get_or-replicate shape.workers w 0 0 (omega arith));
          bounds = tt;
          begins = ([], refl);
          up_to_last = refl;
          pages = refl;
          told = refl;
          own = record { number = (let g : 0 + w ≡ w = omega arith in g); order = tt; stage = refl; fetched = tt };
          loads = λ e c load. let none = c.1 in absurd (omega arith);
          scanned = λ l e. ([], sym (replicate_at shape.workers w l e));
        };
    each_version = λ m b r pages e f g.
        let held : HoldsForm shape (rows_begin shape) (start_of shape config stored).words 0 config named = holds-on shape 0 (rows_begin shape) stored (start_of shape config stored).words 0 config named h.some_row (λ i l. words_at stored i ∙ ap (λ (k : ℕ). get_or stored k 0) (let g : i ≡ 0 + i = omega arith in g)) h.held in
        inr (
          subst (HoldsForm shape (rows_begin shape) (start_of shape config stored).words r b) (sym (only named pages m g).1) (subst (λ (y : C). HoldsForm shape (rows_begin shape) (start_of shape config stored).words r y named) (sym (only config b m e).1)
              (subst (λ (k : ℕ). HoldsForm shape (rows_begin shape) (start_of shape config stored).words k config named) (sym (only 0 r m f).1) held)),
          ap (pages_named shape stored) (only 0 r m f).1 ∙ sym (only named pages m g).1,
        );
  }

  Coheres-scanned : (s : State C) → Coheres shape s → (place x : ℕ) → IsLegalStep shape s (Scan place) x → Coheres shape (after_step shape s (Scan place) x)
  Coheres-scanned s h place x may = let is : place - 1 ≡ may.0 = let e = may.2 in omega arith in
      Coheres-after_scan shape s h (place - 1) x (may.3 ∙ ap (slice_index s.words) (let e = may.2 in let g : place ≡ 1 + (place - 1) = omega arith in g))

  pub Coheres-after_event : (s : State C) → Coheres shape s → (event : Event C) → IsLegalEvent shape s event → Coheres shape (after_event shape s event)
  Coheres-after_event s h (Stepped (Peek w) x) may = Coheres-after_peek shape s h w x may
  Coheres-after_event s h (Stepped (Announce w) x) may = Coheres-after_announce shape s h w x may
  Coheres-after_event s h (Stepped (Pin w) x) may = Coheres-after_pin shape s h w x may
  Coheres-after_event s h (Stepped (Fetch w p) x) may = Coheres-after_fetch shape s h w p x may
  Coheres-after_event s h (Stepped (Leave w) x) may = Coheres-after_leave shape s h w x may
  Coheres-after_event s h (Stepped (Fill p y) x) may = Coheres-after_fill shape s h p y x may
  Coheres-after_event s h (Stepped (Publish r) x) may = Coheres-after_publish shape s h r x may
  Coheres-after_event s h (Stepped (Scan p) x) may = Coheres-scanned s h p x may
  Coheres-after_event s h (Proposed config) may = Coheres-after_proposal shape s h config

  pub Coheres-trace : (s : State C) → Coheres shape s → (trace : List (Event C)) → IsLegal shape s trace → Coheres shape (state_after shape s trace)
  Coheres-trace s h [] legal = h
  Coheres-trace s h (newest ∷ older) legal = Coheres-after_event (state_after shape s older) (Coheres-trace s h older legal.0) newest legal.1

  pub rule_of : (config : C) (stored : List ℕ) (trace : List (Event C)) → IsOpening shape config stored → IsLegal shape (start_of shape config stored) trace → Coheres shape (state_after shape (start_of shape config stored) trace)
  rule_of config stored trace opening legal = Coheres-trace (start_of shape config stored) (Coheres-start config stored opening) trace legal

  pub Coheres-reached : (s : State C) → IsReached shape s → Coheres shape s
  Coheres-reached s h = subst (Coheres shape) h.reached (rule_of h.config h.stored h.trace h.opening h.legal)

  -- free stays free
  pub free_on : (s : State C) (event : Event C) (n : ℕ) → IsFree shape n s.operator.log → IsFree shape n (after_event shape s event).operator.log
  free_on s (Stepped (Peek w) x) n h = h
  free_on s (Stepped (Announce w) x) n h = h
  free_on s (Stepped (Pin w) x) n h = h
  free_on s (Stepped (Fetch w p) x) n h = h
  free_on s (Stepped (Leave w) x) n h = h
  free_on s (Stepped (Fill p y) x) n h = IsFree-on shape n (entry (Fill p x) x) s.operator.log h
  free_on s (Stepped (Publish r) x) n h = IsFree-on shape n (entry (Publish r) x) s.operator.log h
  free_on s (Stepped (Scan p) x) n h = IsFree-on shape n (entry (Scan (1 + (p - 1))) x) s.operator.log h
  free_on s (Proposed config) n h = h

  loaded_word : (s : State C) (place x : ℕ) → IsWordAt s place x → s.words ≡ set s.words place x
  loaded_word s place x e = sym (ap (set s.words place) e ∙ set-get_or s.words place 0)

  -- a step loads or stores the word at its place, and changes no other
  pub one_word : (s : State C) (step : Step) (x : ℕ) → IsLegalStep shape s step x → (after_step shape s step x).words ≡ set s.words (place_of step) x
  one_word s (Peek w) x may = loaded_word s 0 x may.1
  one_word s (Announce w) x may = refl
  one_word s (Pin w) x may = loaded_word s 0 x may.1
  one_word s (Fetch w p) x may = loaded_word s p x may.2
  one_word s (Leave w) x may = ap (set s.words (1 + w)) (sym may.2.4)
  one_word s (Fill p y) x may = refl
  one_word s (Publish r) x may = refl
  one_word s (Scan p) x may = loaded_word s p x may.3
