-- The rule is kept by each step of a worker.
use Rattle.std.proofs.Common.{◌≡◌, ℕ, ◌+◌, ◌/◌, ◌%◌, ◌<◌, ◌≤◌, [], ap, arith, get_or-set_other, get_or-set_same, length, length-set, refl, set, slice_index_or, subst, sym, ◌∙◌}
use mathlib.Core.Option.{some}
use lib.ListN.{get_elem?}
use Rattle.versions.specs.declared.step.Step.TheVariants.{Announce, Fetch, Leave, Peek, Pin}
use Rattle.versions.specs.Layout.{Shape}
use Rattle.versions.specs.Step.{entry}
use Rattle.versions.specs.View.{after_announce, after_fetch, after_leave, after_peek, after_pin, read_word_of, stage_after_peek, stage_after_pin, up_to}
use Rattle.versions.specs.Free.{number_after}
use Rattle.versions.specs.State.{State, after_step}
use Rattle.versions.specs.Legal.{IsLegalStep}
use Rattle.versions.proofs.ListLemmas.{elem_below, elem_front, elem_prefix, elem_there, get_elem_or}
use Rattle.versions.proofs.LogLemmas.{IsReplaced-scanned_clear}
use Rattle.versions.proofs.Coherence.{Bounds, Coheres, begins_further, bounds-peek, current_is, loads-on, own_log-on, read_word-peek, seen_below, seen_is, worker_keeps}
use Rattle.versions.proofs.HeldVersions.{held_after_peek, held_place, may_fetch, of_fetches_on}
use Rattle.versions.specs.Safety.{IsHeldPlace}

module _ {C : Type 0} (shape : Shape C) where
  pub Coheres-after_peek : (s : State C) → Coheres shape s → (w x : ℕ) → IsLegalStep shape s (Peek w) x → Coheres shape (after_step shape s (Peek w) x)
  Coheres-after_peek s h w x may =
      let view = may.0.0 in let ok = h.each_worker w view may.0.1 in let now = current_is shape s h x may.1 in let top = now.0 in let seen = seen_is shape s h x may.1 in
      let before = seen_below shape s h w view ok in let long = seen.1 in
      let all = up_to (x / shape.rows) s.operator.published in
      let more : (k : ℕ) (config : C) → get_elem? view.seen k ≡ some config → get_elem? all k ≡ some config = λ k config at. let below = elem_below view.seen k config at in
      elem_front all seen.0.0 k config (omega arith) (sym (ap (λ l. get_elem? l k) seen.0.1) ∙ (ap (λ l. get_elem? l k) ok.begins.1 ∙ elem_prefix view.seen ok.begins.0 k config at)) in
      let held : (place : ℕ) → IsHeldPlace shape view place → IsHeldPlace shape (after_peek shape.rows x all view) place =
      λ place. held_after_peek shape view.seen all view.pages (x / shape.rows) place view.stage may.0.2 more in
      worker_keeps shape s h w view (after_peek shape.rows x (up_to (x / shape.rows) s.operator.published)) s.words may.0.1 refl (λ j k. refl) record {
        read_word = ok.read_word ∙ sym (read_word-peek view.stage (x / shape.rows) may.0.2);
        bounds = bounds-peek w s.operator (length view.seen) (length (up_to (x / shape.rows) s.operator.published)) view.stage (x / shape.rows) may.0.2 (omega arith) (omega arith) ok.bounds;
        begins = seen.0;
        up_to_last = seen.1;
        pages = ok.pages;
        told = read_word-peek view.stage (x / shape.rows) may.0.2 ∙ ok.told;
        own = own_log-on shape w view _ (Peek view.number) x ok.own refl ok.own.number may.0.2 tt (of_fetches_on (IsHeldPlace shape view) _ held view.log ok.own.fetched) refl (ap (λ q. stage_after_peek q (x / shape.rows)) ok.own.stage);
        loads = loads-on shape (number_after s.operator.log) (entry (Peek view.number) x) view.log (λ t. omega arith) ok.loads;
        scanned = λ l e. begins_further (entry (Peek view.number) x) (ok.scanned l e);
      }

  pub Coheres-after_announce : (s : State C) → Coheres shape s → (w x : ℕ) → IsLegalStep shape s (Announce w) x → Coheres shape (after_step shape s (Announce w) x)
  Coheres-after_announce s h w x may =
      let view = may.0 in let n = may.2.0 in let ok = h.each_worker w view may.1 in let below = elem_below s.workers w view may.1 in let many = h.workers_length in let wide = h.words_length in
      let was : n ≤ number_after s.operator.log = subst (Bounds w s.operator (length view.seen)) may.2.1 ok.bounds in let is = may.2.2 in
      worker_keeps shape s h w view (after_announce x) (set s.words (1 + w) x) may.1 (length-set s.words (1 + w) x) (λ j k. get_or-set_other s.words (1 + w) j x 0 k) record {
        read_word = get_or-set_same s.words (1 + w) x 0 (omega arith);
        bounds = (omega arith, omega arith);
        begins = ok.begins;
        up_to_last = ok.up_to_last;
        pages = ok.pages;
        told = refl;
        own = own_log-on shape w view _ (Announce view.number) x ok.own refl ok.own.number may.2 tt tt refl refl;
        loads = loads-on shape (number_after s.operator.log) (entry (Announce view.number) x) view.log (λ t. absurd t) ok.loads;
        scanned = λ l e. begins_further (entry (Announce view.number) x) (ok.scanned l e);
      }

  pub Coheres-after_pin : (s : State C) → Coheres shape s → (w x : ℕ) → IsLegalStep shape s (Pin w) x → Coheres shape (after_step shape s (Pin w) x)
  Coheres-after_pin s h w x may =
      let view = may.0.0 in let k = may.0.2.0 in let ok = h.each_worker w view may.0.1 in let now = current_is shape s h x may.1 in let top = now.0 in let seen = seen_is shape s h x may.1 in
      let long = seen.1 in
      let was : (0 < k) × (k ≤ number_after s.operator.log + 1) = subst (Bounds w s.operator (length view.seen)) may.0.2.1 ok.bounds in let is : read_word_of view.stage ≡ k = ap read_word_of may.0.2.1 in
      let all = h.version_pages_length in let pages = elem_there s.operator.version_pages (x / shape.rows) (omega arith) in
      worker_keeps shape s h w view (after_pin shape.rows x (up_to (x / shape.rows) s.operator.published) (slice_index_or s.operator.version_pages (x / shape.rows) [])) s.words may.0.1 refl (λ j k. refl) record {
        read_word = ok.read_word;
        bounds = (omega arith, omega arith, omega arith, omega arith, ap (get_elem? s.operator.version_rows) top ∙ now.1, λ m c. let l = IsReplaced-scanned_clear w m s.operator.log c in omega arith);
        begins = seen.0;
        up_to_last = seen.1;
        pages = pages.1 ∙ ap some (sym (get_elem_or s.operator.version_pages (x / shape.rows) pages.0 [] pages.1));
        told = ok.told;
        own = own_log-on shape w view _ (Pin view.number) x ok.own refl ok.own.number may.0.2 tt tt refl (ap (λ q. stage_after_pin q (x / shape.rows) (x % shape.rows)) ok.own.stage);
        loads = loads-on shape (number_after s.operator.log) (entry (Pin view.number) x) view.log (λ t. omega arith) ok.loads;
        scanned = λ l e. begins_further (entry (Pin view.number) x) (ok.scanned l e);
      }

  pub Coheres-after_fetch : (s : State C) → Coheres shape s → (w p x : ℕ) → IsLegalStep shape s (Fetch w p) x → Coheres shape (after_step shape s (Fetch w p) x)
  Coheres-after_fetch s h w p x may =
      let held = may.1.2 in let view = held.0 in let ok = h.each_worker w view held.2 in
      let here : IsHeldPlace shape view p = held_place shape s h w may.1.0 may.1.1 held p may.1.3 in
      worker_keeps shape s h w view (after_fetch p x) s.words held.2 refl (λ j k. refl) record {
        read_word = ok.read_word;
        bounds = ok.bounds;
        begins = ok.begins;
        up_to_last = ok.up_to_last;
        pages = ok.pages;
        told = ok.told;
        own = own_log-on shape w view _ (Fetch view.number p) x ok.own refl ok.own.number (held.1, may.1.0, may.1.1, held.3) (may_fetch shape s h w may.1.0 may.1.1 held p here) (here, ok.own.fetched) refl ok.own.stage;
        loads = loads-on shape (number_after s.operator.log) (entry (Fetch view.number p) x) view.log (λ t. absurd t) ok.loads;
        scanned = λ l e. begins_further (entry (Fetch view.number p) x) (ok.scanned l e);
      }

  pub Coheres-after_leave : (s : State C) → Coheres shape s → (w x : ℕ) → IsLegalStep shape s (Leave w) x → Coheres shape (after_step shape s (Leave w) x)
  Coheres-after_leave s h w x may =
      let view = may.0 in let ok = h.each_worker w view may.1 in let below = elem_below s.workers w view may.1 in let many = h.workers_length in let wide = h.words_length in
      worker_keeps shape s h w view after_leave (set s.words (1 + w) 0) may.1 (length-set s.words (1 + w) 0) (λ j k. get_or-set_other s.words (1 + w) j 0 0 k) record {
        read_word = get_or-set_same s.words (1 + w) 0 0 (omega arith);
        bounds = tt;
        begins = ok.begins;
        up_to_last = ok.up_to_last;
        pages = ok.pages;
        told = refl;
        own = own_log-on shape w view _ (Leave view.number) 0 ok.own refl ok.own.number (may.2.0, may.2.1, may.2.2, may.2.3, refl) tt tt refl refl;
        loads = loads-on shape (number_after s.operator.log) (entry (Leave view.number) 0) view.log (λ t. absurd t) ok.loads;
        scanned = λ l e. begins_further (entry (Leave view.number) 0) (ok.scanned l e);
      }
