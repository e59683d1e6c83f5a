-- Of the operator's history: rows that were published in again, and the last scan of each worker.
use Rattle.std.proofs.Common.{◌≡◌, ℕ, ◌+◌, ◌-◌, ◌<◌, List, [], ◌∷◌, ap, arith, get_or, sym, ◌∙◌, ⊎_elim}
use mathlib.Core.Option.{some}
use lib.ListN.{get_elem?}
use Rattle.versions.specs.declared.step.Step.TheVariants.{Announce, Fetch, Fill, Leave, Peek, Pin, Publish, Scan}
use Rattle.versions.specs.declared.step.Entry.{Entry}
use Rattle.versions.specs.declared.step.Event.{Event}
use Rattle.versions.specs.declared.step.Event.TheVariants.{Proposed, Stepped}
use Rattle.versions.specs.declared.view.OperatorView.{OperatorView}
use Rattle.versions.specs.Layout.{Shape, pages_named}
use Rattle.versions.specs.Step.{entry}
use Rattle.versions.specs.View.{after_publish, read_word_after}
use Rattle.versions.specs.Free.{IsFree, IsFreeRow, IsLastScan}
use Rattle.versions.specs.State.{IsOpening, State, after_event, log_of, start_of, state_after}
use Rattle.versions.specs.Legal.{IsLegal, IsLegalEvent, IsLegalStep}
use Rattle.versions.proofs.ListLemmas.{at_set, elem_below, elem_snoc, elem_there}
use Rattle.versions.proofs.LogLemmas.{IsFree-of_row, IsFree-on}
use Rattle.versions.proofs.Coherence.{Coheres, log_of_is}
use Rattle.versions.proofs.TraceLemmas.{Coheres-start, Coheres-trace, free_on, only}

module _ {C : Type 0} (shape : Shape C) where
  -- where a row was published in again, the earlier version is free
  abbrev pub IsFreeBefore : OperatorView C → Type 0
  IsFreeBefore view = (m later r : ℕ) → m < later → get_elem? view.version_rows m ≡ some r → get_elem? view.version_rows later ≡ some r → IsFree shape m view.log

  pub IsFreeBefore-published : (view : OperatorView C) (r x : ℕ) (pages : List ℕ) → IsFreeBefore view → IsFreeRow shape view r → IsFreeBefore (after_publish r x pages view)
  IsFreeBefore-published view r x pages h free m later q up at again =
      let rows = view.version_rows in let on : IsFree shape m view.log → IsFree shape m (entry (Publish r) x ∷ view.log) = IsFree-on shape m (entry (Publish r) x) view.log in
      ⊎_elim
      (λ old. ⊎_elim (λ was. on (h m later q up was old)) (λ t. let k = t.0 in let low = elem_below rows later q old in absurd (omega arith)) (elem_snoc rows r q m at))
      (λ new. let k = new.0 in ⊎_elim (λ was. on (IsFree-of_row shape view r m free (was ∙ ap some (sym new.1)))) (λ t. let j = t.0 in absurd (omega arith)) (elem_snoc rows r q m at))
      (elem_snoc rows r q later again)

  IsFreeBefore-event : (s : State C) (event : Event C) → IsFreeBefore s.operator → IsLegalEvent shape s event → IsFreeBefore (after_event shape s event).operator
  IsFreeBefore-event s (Stepped (Peek w) x) h may = h
  IsFreeBefore-event s (Stepped (Announce w) x) h may = h
  IsFreeBefore-event s (Stepped (Pin w) x) h may = h
  IsFreeBefore-event s (Stepped (Fetch w p) x) h may = h
  IsFreeBefore-event s (Stepped (Leave w) x) h may = h
  IsFreeBefore-event s (Stepped (Fill p y) x) h may = λ m later r up at again. free_on shape s (Stepped (Fill p y) x) m (h m later r up at again)
  IsFreeBefore-event s (Stepped (Publish r) x) h may = IsFreeBefore-published s.operator r x (pages_named shape s.operator.stored r) h may.0.free
  IsFreeBefore-event s (Stepped (Scan p) x) h may = λ m later r up at again. free_on shape s (Stepped (Scan p) x) m (h m later r up at again)
  IsFreeBefore-event s (Proposed config) h may = h

  pub reused_is_free : (config : C) (rows : List ℕ) (trace : List (Event C)) → IsLegal shape (start_of shape config rows) trace → IsFreeBefore (state_after shape (start_of shape config rows) trace).operator
  reused_is_free config rows [] legal = λ m later r up at again. let a = (only 0 r m at).0 in let b = (only 0 r later again).0 in absurd (omega arith)
  reused_is_free config rows (newest ∷ older) legal =
      IsFreeBefore-event (state_after shape (start_of shape config rows) older) newest (reused_is_free config rows older legal.0) legal.1

  -- the read word after the kept log of each worker is what the last scan of it gave
  abbrev pub IsLastScanKept : State C → Type 0
  IsLastScanKept s = (w x : ℕ) (log : List Entry) → get_elem? s.operator.scanned_logs w ≡ some log → IsLastScan w x s.operator.log → x ≡ read_word_after log

  IsLastScanKept-scan : (s : State C) → Coheres shape s → IsLastScanKept s → (p y : ℕ) → IsLegalStep shape s (Scan p) y → IsLastScanKept (after_event shape s (Stepped (Scan p) y))
  IsLastScanKept-scan s h was p y may w x log at last =
      let v = may.0 in let is = may.2 in let many = h.workers_length in let view = elem_there s.workers v (omega arith) in let ok = h.each_worker v view.0 view.1 in
      let kept = at_set s.operator.scanned_logs (p - 1) w (log_of s.workers (p - 1)) log at in
      let loaded : y ≡ read_word_after view.0.log = may.3 ∙ (ap (λ (k : ℕ). get_or s.words k 0) is ∙ (ok.read_word ∙ ok.told)) in
      let log_is : log_of s.workers (p - 1) ≡ view.0.log = ap (log_of s.workers) (let g : p - 1 ≡ v = omega arith in g) ∙ log_of_is s.workers v view.0 view.1 in
      ⊎_elim
      (λ (now : (1 + (p - 1) ≡ 1 + w) × (y ≡ x)). let here = now.0 in
      ⊎_elim (λ (t : (w ≡ p - 1) × (log_of s.workers (p - 1) ≡ log)). sym now.1 ∙ (loaded ∙ ap read_word_after (sym log_is ∙ t.1))) (λ t. absurd (t.0 (omega arith))) kept)
      (λ older. let other = older.0 in ⊎_elim (λ t. let k = t.0 in absurd (other (omega arith))) (λ t. was w x log t.1 older.1) kept)
      last

  IsLastScanKept-event : (s : State C) → Coheres shape s → (event : Event C) → IsLastScanKept s → IsLegalEvent shape s event → IsLastScanKept (after_event shape s event)
  IsLastScanKept-event s h (Stepped (Peek w) x) was may = was
  IsLastScanKept-event s h (Stepped (Announce w) x) was may = was
  IsLastScanKept-event s h (Stepped (Pin w) x) was may = was
  IsLastScanKept-event s h (Stepped (Fetch w p) x) was may = was
  IsLastScanKept-event s h (Stepped (Leave w) x) was may = was
  IsLastScanKept-event s h (Stepped (Fill p y) x) was may = was
  IsLastScanKept-event s h (Stepped (Publish r) x) was may = was
  IsLastScanKept-event s h (Stepped (Scan p) x) was may = IsLastScanKept-scan s h was p x may
  IsLastScanKept-event s h (Proposed config) was may = was

  pub last_scan_kept : (config : C) (rows : List ℕ) (trace : List (Event C)) → IsOpening shape config rows → IsLegal shape (start_of shape config rows) trace → IsLastScanKept (state_after shape (start_of shape config rows) trace)
  last_scan_kept config rows [] opening legal = λ w x log at last. absurd last
  last_scan_kept config rows (newest ∷ older) opening legal =
      IsLastScanKept-event (state_after shape (start_of shape config rows) older) (Coheres-trace shape (start_of shape config rows) (Coheres-start shape config rows opening) older legal.0) newest
      (last_scan_kept config rows older opening legal.0) legal.1
