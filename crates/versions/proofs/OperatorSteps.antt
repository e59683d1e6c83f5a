-- The rule is kept by each step of the operator, and by a proposal.
use Rattle.std.proofs.Common.{◌≡◌, ◌⊎◌, ℕ, suc, ◌+◌, ◌-◌, ◌*◌, ◌<◌, ◌≤◌, List, Option, Some, [], ◌∷◌, ◌++◌, ap, append_assoc, arith, get_or, get_or-set_other, get_or-set_same, inl, inr, length, length-append, length-set, mul-le-mul_right, set, slice_get, slice_index, subst, suc-mul, sym, ◌∙◌, ⊎_elim}
use mathlib.Core.Logic.{dite}
use native.Mathlib.Decide.{ℕ_discrete}
use mathlib.Core.Option.{some}
use lib.ListN.{get_elem?}
use Rattle.versions.specs.declared.step.Step.TheVariants.{Fill, Publish}
use Rattle.versions.specs.Layout.{HoldsForm, Shape, all_rows, pages_named, rows_begin, stored_words}
use Rattle.versions.specs.View.{after_fill, after_proposal, after_publish, after_scan, listed, read_word_of}
use Rattle.versions.specs.Free.{IsFree, IsScannedClear, number_after}
use Rattle.versions.specs.State.{State, after_step, log_of}
use Rattle.versions.specs.Legal.{IsLegalStep, MayFill}
use Rattle.versions.proofs.ListLemmas.{at_set, beside_row, beside_set, elem_below, elem_end, elem_prefix, elem_snoc, has_or_not, row_inside, same_row}
use Rattle.versions.proofs.LogLemmas.{IsFree-of_row}
use Rattle.versions.proofs.Coherence.{Bounds, Coheres, bounds-on, holds-on, holds-set, log_of_is}

module _ {C : Type 0} (shape : Shape C) where
  -- where a fill may go: how far behind the rows' beginning, and that a version which is not free keeps its row and its pages
  record FillsBeside (s : State C) (p x : ℕ) : Type 0 where
    off : ℕ
    at : p ≡ rows_begin shape + off
    inside : off < stored_words shape
    kept : (m : ℕ) (config : C) (q : ℕ) (pages : List ℕ) → get_elem? s.operator.version_rows m ≡ some q → get_elem? s.operator.version_pages m ≡ some pages
        → IsFree shape m s.operator.log ⊎ (HoldsForm shape (rows_begin shape) s.words q config pages → HoldsForm shape (rows_begin shape) (set s.words p x) q config pages)
        × (pages_named shape (set s.operator.stored off x) q ≡ pages_named shape s.operator.stored q)

  fills_beside : (s : State C) → Coheres shape s → (p x : ℕ) → MayFill shape s.operator p → FillsBeside s p x
  fills_beside s h p x (inl (r, free, (i, small, is))) = let inside = row_inside r shape.rows i shape.row_words free.0 small in record {
    off = r * shape.row_words + i;
    at = omega arith;
    inside = omega arith;
    kept = λ m config q pages f g. dite (ℕ_discrete q r)
        (λ same. inl (IsFree-of_row shape s.operator r m free (f ∙ ap some same)))
        (λ other. inr (
          holds-set shape (rows_begin shape) s.words p x q config pages
              (λ j l e. other (same_row shape.row_words q r j i l small (omega arith)))
              (λ index page k at l e. omega arith),
          ap shape.form.named (beside_set s.operator.stored (q * shape.row_words) shape.row_words (r * shape.row_words + i) x (beside_row q r i shape.row_words small other)),
        ));
  }
  fills_beside s h p x (inr (q, free, (k, small, is))) = let inside = row_inside q shape.pages k shape.page_words free.0 small in record {
    off = all_rows shape + (q * shape.page_words + k);
    at = omega arith;
    inside = omega arith;
    kept = λ m config r pages f g. ⊎_elim
        (λ (t : (j : ℕ) × (slice_get pages j ≡ Some q)). inl (free.1 m (pages, g, t)))
        (λ none. let low = h.rows_below m r f in inr (
          holds-set shape (rows_begin shape) s.words p x r config pages
              (λ j l e. let in_rows = row_inside r shape.rows j shape.row_words low l in omega arith)
              (λ index page j at l e. none index (at ∙ ap Some (same_row shape.page_words page q j k l small (omega arith)))),
          ap shape.form.named (beside_set s.operator.stored (r * shape.row_words) shape.row_words (all_rows shape + (q * shape.page_words + k)) x
              (inr (let under : suc r * shape.row_words ≤ shape.rows * shape.row_words = mul-le-mul_right shape.row_words low in omega (arith, suc-mul r shape.row_words)))),
        ))
        (has_or_not pages q);
  }

  pub Coheres-after_fill : (s : State C) → Coheres shape s → (p y x : ℕ) → IsLegalStep shape s (Fill p y) x → Coheres shape (after_step shape s (Fill p y) x)
  Coheres-after_fill s h p y x may =
      let to = fills_beside s h p x may.0 in let wide = h.words_length in let stored = h.stored_length in let many = h.workers_length in let at = to.at in let inside = to.inside in
      let off : p - (1 + shape.workers) ≡ to.off = omega arith in record {
        words_length = length-set s.words p x ∙ h.words_length;
        workers_length = h.workers_length;
        stored_length = length-set s.operator.stored (p - (1 + shape.workers)) x ∙ h.stored_length;
        stored = λ j l. dite (ℕ_discrete j (p - (1 + shape.workers)))
            (λ e. let here : (1 + shape.workers) + j ≡ p = omega arith in
            ap (λ (k : ℕ). get_or (set s.words p x) k 0) here ∙ (get_or-set_same s.words p x 0 (omega arith)
            ∙ sym (ap (λ (k : ℕ). get_or (set s.operator.stored (p - (1 + shape.workers)) x) k 0) e ∙ get_or-set_same s.operator.stored (p - (1 + shape.workers)) x 0 (omega arith))))
            (λ ne. get_or-set_other s.words p ((1 + shape.workers) + j) x 0 (λ e. ne (omega arith)) ∙ (h.stored j l ∙ sym (get_or-set_other s.operator.stored (p - (1 + shape.workers)) j x 0 ne)));
        published_length = h.published_length;
        version_rows_length = h.version_rows_length;
        version_pages_length = h.version_pages_length;
        current = (h.current.0, h.current.1, get_or-set_other s.words p 0 x 0 (λ e. omega arith) ∙ h.current.2);
        numbered = h.numbered;
        rows_below = h.rows_below;
        pages_below = h.pages_below;
        each_worker = λ w view at. let ok = h.each_worker w view at in let below = elem_below s.workers w view at in record {
          read_word = get_or-set_other s.words p (1 + w) x 0 (λ e. omega arith) ∙ ok.read_word;
          bounds = bounds-on w s.operator (after_fill (1 + shape.workers) p x s.operator) (length view.seen) view.stage (omega arith) (λ n q e. e) (λ k n q e m c. inr c) ok.bounds;
          begins = ok.begins;
          up_to_last = ok.up_to_last;
          pages = ok.pages;
          told = ok.told;
          own = ok.own;
          loads = ok.loads;
          scanned = ok.scanned;
        };
        each_version = λ m config q pages e f g. ⊎_elim inl
            (λ was. ⊎_elim inl
            (λ kept. inr (kept.0 was.0, ap (λ (k : ℕ). pages_named shape (set s.operator.stored k x) q) off ∙ (kept.1 ∙ was.1)))
            (to.kept m config q pages f g))
            (h.each_version m config q pages e f g);
      }

  pub Coheres-after_publish : (s : State C) → Coheres shape s → (r x : ℕ) → IsLegalStep shape s (Publish r) x → Coheres shape (after_step shape s (Publish r) x)
  Coheres-after_publish s h r x may =
      let config = may.0.config in let free = may.0.free in let named = pages_named shape s.operator.stored r in let d = s.operator in let n = number_after d.log in let wide = h.words_length in let many = h.workers_length in let long = h.published_length in
      let laid = h.version_rows_length in
      let news : d.published ++ listed d.proposal ≡ d.published ++ config ∷ [] = ap (λ (o : Option C). d.published ++ listed o) may.0.proposed in let is = may.1 in
      let still : (q : ℕ) (b : C) (pages : List ℕ) → q < shape.rows → HoldsForm shape (rows_begin shape) s.words q b pages → HoldsForm shape (rows_begin shape) (set s.words 0 x) q b pages =
      λ q b pages low. holds-on shape (rows_begin shape) (rows_begin shape) s.words (set s.words 0 x) q b pages low (λ i l. get_or-set_other s.words 0 (rows_begin shape + i) x 0 (λ e. omega arith)) in
      let long' : length (d.published ++ listed d.proposal) ≡ suc (suc n) = ap length news ∙ omega (arith, length-append d.published (config ∷ [])) in
      record {
        words_length = length-set s.words 0 x ∙ h.words_length;
        workers_length = h.workers_length;
        stored_length = h.stored_length;
        stored = λ i l. get_or-set_other s.words 0 ((1 + shape.workers) + i) x 0 (λ e. omega arith) ∙ h.stored i l;
        published_length = long';
        version_rows_length = omega (arith, length-append d.version_rows (r ∷ []));
        version_pages_length = let all = h.version_pages_length in omega (arith, length-append d.version_pages (named ∷ []));
        current = (r, elem_end d.version_rows r (suc n) laid, get_or-set_same s.words 0 x 0 (omega arith) ∙ (is ∙ ap (λ (k : ℕ). k * shape.rows + r) (let g : n + 1 ≡ suc n = omega arith in g)));
        numbered = (let small = may.0.number in omega arith);
        rows_below = λ m q e. ⊎_elim (h.rows_below m q) (λ t. subst (λ (k : ℕ). k < shape.rows) t.1 free.0) (elem_snoc d.version_rows r q m e);
        each_worker = λ w view at. let ok = h.each_worker w view at in record {
          read_word = get_or-set_other s.words 0 (1 + w) x 0 (λ e. omega arith) ∙ ok.read_word;
          bounds = bounds-on w d (after_publish r x named d) (length view.seen) view.stage (omega arith) (λ m q e. elem_prefix d.version_rows (r ∷ []) m q e) (λ k m q e j l. inr l) ok.bounds;
          begins = (ok.begins.0 ++ listed d.proposal, ap (λ l. l ++ listed d.proposal) ok.begins.1 ∙ append_assoc view.seen ok.begins.0 (listed d.proposal));
          up_to_last = ok.up_to_last;
          pages = elem_prefix d.version_pages (named ∷ []) _ view.pages ok.pages;
          told = ok.told;
          own = ok.own;
          loads = λ e c load. let t = ok.loads e c load in omega arith;
          scanned = ok.scanned;
        };
        pages_below = λ m page names. ⊎_elim
            (λ was. h.pages_below m page (names.0, was, names.2))
            (λ new. may.0.holds.below names.2.0 page (ap (λ l. slice_get l names.2.0) new.1 ∙ names.2.1))
            (elem_snoc d.version_pages named names.0 m names.1);
        each_version = λ m b q pages e f g. ⊎_elim
            (λ was. let low = elem_below d.published m b was in
            ⊎_elim (λ old. ⊎_elim (λ old'. ⊎_elim (λ t. let k = t.0 in inl (omega arith, t.1)) (λ t. inr (still q b pages (h.rows_below m q old) t.0, t.1)) (h.each_version m b q pages was old old'))
            (λ t. let u = t.0 in let all = h.version_pages_length in absurd (omega arith)) (elem_snoc d.version_pages named pages m g))
            (λ t. let u = t.0 in absurd (omega arith)) (elem_snoc d.version_rows r q m f))
            (λ new. let u = new.0 in
            ⊎_elim (λ old. let v = elem_below d.version_rows m q old in absurd (omega arith))
            (λ t. ⊎_elim (λ old. let v = elem_below d.version_pages m pages old in let all = h.version_pages_length in absurd (omega arith))
            (λ last. inr (
              subst (HoldsForm shape (rows_begin shape) (set s.words 0 x) q b) last.1 (subst (λ (y : C). HoldsForm shape (rows_begin shape) (set s.words 0 x) q y named) new.1
                  (subst (λ (k : ℕ). HoldsForm shape (rows_begin shape) (set s.words 0 x) k config named) t.1 (still r config named free.0 may.0.holds))),
              ap (pages_named shape d.stored) (sym t.1) ∙ last.1,
            )) (elem_snoc d.version_pages named pages m g)) (elem_snoc d.version_rows r q m f))
            (elem_snoc d.published config b m (subst (λ l. get_elem? l m ≡ some b) news e));
      }

  pub Coheres-after_scan : (s : State C) → Coheres shape s → (w x : ℕ) → x ≡ slice_index s.words (1 + w) → Coheres shape (record s { operator = after_scan w x (log_of s.workers w) s.operator })
  Coheres-after_scan s h w x loaded = let d = s.operator in record {
    words_length = h.words_length;
    workers_length = h.workers_length;
    stored_length = h.stored_length;
    stored = h.stored;
    published_length = h.published_length;
    version_rows_length = h.version_rows_length;
    version_pages_length = h.version_pages_length;
    current = h.current;
    numbered = h.numbered;
    rows_below = h.rows_below;
    pages_below = h.pages_below;
    each_worker = λ v view at. let ok = h.each_worker v view at in record {
      read_word = ok.read_word;
      bounds = bounds-on v d (after_scan w x (log_of s.workers w) d) (length view.seen) view.stage (omega arith) (λ n r e. e)
          (λ k n r e m c. ⊎_elim (λ t. let held : (0 < k) × (k ≤ n + 1) × (n ≤ number_after d.log) × (n < length view.seen) × (get_elem? d.version_rows n ≡ some r) × ((j : ℕ) → IsScannedClear v j d.log → j < n) = subst (Bounds v d (length view.seen)) e ok.bounds in
          let same : w ≡ v = omega (arith, t.0) in
          let read : x ≡ k = loaded ∙ (ap (λ (j : ℕ). slice_index s.words (1 + j)) same ∙ (ok.read_word ∙ ap read_word_of e)) in
          let some_k = held.0 in let low = held.1 in inl (⊎_elim (λ none. absurd (omega arith)) (λ up. let g : m + 2 ≤ x = up in omega arith) t.2)) inr c) ok.bounds;
      begins = ok.begins;
      up_to_last = ok.up_to_last;
      pages = ok.pages;
      told = ok.told;
      own = ok.own;
      loads = ok.loads;
      scanned = λ l e. ⊎_elim (λ (t : (v ≡ w) × (log_of s.workers w ≡ l)). ([], sym (log_of_is s.workers w view (subst (λ (j : ℕ). get_elem? s.workers j ≡ some view) t.0 at)) ∙ t.1))
          (λ t. ok.scanned l t.1) (at_set d.scanned_logs w v (log_of s.workers w) l e);
    };
    each_version = λ m config r pages e f g. ⊎_elim (λ t. inl (t.0, λ v l. inr (t.1 v l))) inr (h.each_version m config r pages e f g);
  }

  pub Coheres-after_proposal : (s : State C) → Coheres shape s → (config : C) → Coheres shape (record s { operator = after_proposal config s.operator })
  Coheres-after_proposal s h config = record {
    words_length = h.words_length;
    workers_length = h.workers_length;
    stored_length = h.stored_length;
    stored = h.stored;
    published_length = h.published_length;
    version_rows_length = h.version_rows_length;
    version_pages_length = h.version_pages_length;
    current = h.current;
    numbered = h.numbered;
    rows_below = h.rows_below;
    pages_below = h.pages_below;
    each_worker = λ v view at. let ok = h.each_worker v view at in record {
      read_word = ok.read_word;
      bounds = bounds-on v s.operator (after_proposal config s.operator) (length view.seen) view.stage (omega arith) (λ n r e. e) (λ k n r e m l. inr l) ok.bounds;
      begins = ok.begins;
      up_to_last = ok.up_to_last;
      pages = ok.pages;
      told = ok.told;
      own = ok.own;
      loads = ok.loads;
      scanned = ok.scanned;
    };
    each_version = h.each_version;
  }
