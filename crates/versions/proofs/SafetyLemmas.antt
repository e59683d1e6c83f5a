-- What keeps the rule is safe: the promises of `every_trace`.
use Rattle.std.proofs.Common.{◌≡◌, ◌⊎◌, ℕ, suc, ◌+◌, ◌*◌, ◌<◌, List, Some, [], ◌∷◌, ap, arith, get_or, inl, inr, slice_index, subst, sym, ◌∙◌, ⊎_elim}
use Rattle.std.proofs.lemmas.Option.{slice_get-get_or}
use mathlib.Core.Option.{some}
use lib.ListN.{get_elem?}
use Rattle.versions.specs.declared.step.Step.{Step}
use Rattle.versions.specs.declared.step.Step.TheVariants.{Announce, Fetch, Fill, Leave, Peek, Pin, Publish, Scan}
use Rattle.versions.specs.declared.step.Event.{Event}
use Rattle.versions.specs.declared.step.Event.TheVariants.{Proposed, Stepped}
use Rattle.versions.specs.Layout.{HoldsForm, IsInPage, IsInRow, IsPartPlace, Shape, all_rows, page_begin, rows_begin}
use Rattle.versions.specs.Step.{LoadsCurrent}
use Rattle.versions.specs.Free.{IsFree, Names, number_after}
use Rattle.versions.specs.State.{IsWordOf, State, start_of, state_after}
use Rattle.versions.specs.Legal.{IsLegal, IsLegalEvent, IsLegalStep, IsWordAt, MayFill}
use Rattle.versions.specs.Reclaimed.{IsReclaimed, Reclaims}
use Rattle.versions.specs.Safety.{FetchesPublished, InEveryTrace, IsFormWord, IsNewest, KeepsHeld, KeepsPool, ListsVersions, LoadsNewest, OfEveryTrace, ReclaimsNoneHeld, ScansTell, SeesUpToLastLoad, StepsOnOneWord, ViewsTellTable}
use Rattle.versions.proofs.ListLemmas.{elem_below, elem_same, elem_there, row_inside, same_row}
use Rattle.versions.proofs.LogLemmas.{IsFree-of_row}
use Rattle.versions.proofs.Coherence.{Coheres, current_is}
use Rattle.versions.proofs.HeldVersions.{IsKept, held_bounds, held_is_kept}
use Rattle.versions.proofs.TraceLemmas.{Coheres-reached, Coheres-start, Coheres-trace, free_on, one_word, rule_of}
use Rattle.versions.proofs.ReuseLemmas.{IsFreeBefore, IsLastScanKept, last_scan_kept, reused_is_free}

module _ {C : Type 0} (shape : Shape C) where
  -- a page place of a version that is not free is in the page that the version names for it
  part_page : (s : State C) (r : ℕ) (config : C) (pages : List ℕ) (place : ℕ) → HoldsForm shape (rows_begin shape) s.words r config pages → (at : IsPartPlace shape config pages place)
      → (at.page < shape.pages) × (at.k < shape.page_words)
  part_page s r config pages place holds at = let inside = at.inside in let fit = holds.fits at.index at.part at.part_is in (holds.below at.index at.page at.page_is, omega arith)

  -- a fill of a word of a version comes only where the version is free
  fill_is_free : (s : State C) → Coheres shape s → (p y x n : ℕ) → IsLegalStep shape s (Fill p y) x → IsWordOf shape s n p → IsFree shape n s.operator.log
  fill_is_free s h p y x n may (inl (r, at, (i, small, here))) = by_fill may.0
    where
      by_fill : MayFill shape s.operator p → IsFree shape n s.operator.log
      by_fill (inl (q, free, (j, small', there))) = IsFree-of_row shape s.operator q n free (at ∙ ap some (same_row shape.row_words r q i j small small' (omega arith)))
      by_fill (inr (q, free, (k, small', there))) = let inside = row_inside r shape.rows i shape.row_words (h.rows_below n r at) small in absurd (omega arith)
  fill_is_free s h p y x n may (inr (config, pages, published, named, part)) =
      let low = elem_below s.operator.published n config published in let many = h.published_length in let all = h.version_rows_length in let row = elem_there s.operator.version_rows n (omega arith) in
      ⊎_elim (λ free. free) (λ stands. by_fill may.0 (part_page s row.0 config pages p stands.0 part)) (h.each_version n config row.0 pages published row.1 named)
    where
      here : p ≡ page_begin shape part.page + part.k
      here = part.at

      by_fill : MayFill shape s.operator p → (part.page < shape.pages) × (part.k < shape.page_words) → IsFree shape n s.operator.log
      by_fill (inl (q, free, (j, small', there))) low = let inside = row_inside q shape.rows j shape.row_words free.0 small' in absurd (omega arith)
      by_fill (inr (q, free, (k, small', there))) low = free.1 n (pages, named, (part.index, part.page_is ∙ ap Some (same_row shape.page_words part.page q part.k k low.1 small' (omega arith))))

  reclaims_free : (s : State C) → Coheres shape s → (event : Event C) (n : ℕ) → IsLegalEvent shape s event → Reclaims shape s n event → IsFree shape n s.operator.log
  reclaims_free s h (Stepped (Peek w) x) n may t = absurd t
  reclaims_free s h (Stepped (Announce w) x) n may t = absurd t
  reclaims_free s h (Stepped (Pin w) x) n may t = absurd t
  reclaims_free s h (Stepped (Fetch w p) x) n may t = absurd t
  reclaims_free s h (Stepped (Leave w) x) n may t = absurd t
  reclaims_free s h (Stepped (Fill p y) x) n may t = fill_is_free s h p y x n may t.1
  reclaims_free s h (Stepped (Publish r) x) n may t = absurd t
  reclaims_free s h (Stepped (Scan p) x) n may t = absurd t
  reclaims_free s h (Proposed config) n may t = absurd t

  -- a reclaimed version is free
  pub reclaimed_is_free : (s : State C) → Coheres shape s → (trace : List (Event C)) → IsLegal shape s trace → (n : ℕ) → IsReclaimed shape s trace n → IsFree shape n (state_after shape s trace).operator.log
  reclaimed_is_free s h [] legal n t = absurd t
  reclaimed_is_free s h (newest ∷ older) legal n t = free_on shape (state_after shape s older) newest n
      (⊎_elim (reclaimed_is_free s h older legal.0 n) (λ now. reclaims_free (state_after shape s older) (Coheres-trace shape s h older legal.0) newest n legal.1 now) t)

  newest_is : (s : State C) → Coheres shape s → (x : ℕ) → IsWordAt s 0 x → IsNewest shape s x
  newest_is s h x loaded = let now = current_is shape s h x loaded in let top = now.0 in let long = h.published_length in record {
    last = ap suc now.0 ∙ sym h.published_length;
    in_its_row = ap (get_elem? s.operator.version_rows) now.0 ∙ now.1;
    since_loads = λ w view e at c load. let low = (h.each_worker w view at).loads e c load in omega arith;
    since_publications = λ n config at. let below = elem_below s.operator.published n config at in omega arith;
  }

  newest_load : (s : State C) → Coheres shape s → (step : Step) (x : ℕ) → LoadsCurrent step → IsLegalStep shape s step x → IsNewest shape s x
  newest_load s h (Peek w) x load may = newest_is s h x may.1
  newest_load s h (Announce w) x load may = absurd load
  newest_load s h (Pin w) x load may = newest_is s h x may.1
  newest_load s h (Fetch w p) x load may = absurd load
  newest_load s h (Leave w) x load may = absurd load
  newest_load s h (Fill p y) x load may = absurd load
  newest_load s h (Publish r) x load may = absurd load
  newest_load s h (Scan p) x load may = absurd load

  pub loads_newest : InEveryTrace shape (LoadsNewest shape)
  loads_newest s reached = let h = Coheres-reached shape s reached in record {
    loads = newest_load s h;
    logged = λ w view e at c load. let low = (h.each_worker w view at).loads e c load in let long = h.published_length in omega arith;
  }

  pub sees_up_to_last_load : InEveryTrace shape (SeesUpToLastLoad shape)
  sees_up_to_last_load s reached = let h = Coheres-reached shape s reached in record {
    seen = λ w view at. let ok = h.each_worker w view at in record { begins = ok.begins; up_to_last = ok.up_to_last; pages = ok.pages };
  }

  pub reclaims_none_held : OfEveryTrace shape (ReclaimsNoneHeld shape)
  reclaims_none_held config stored trace opening legal = let s = state_after shape (start_of shape config stored) trace in let h = rule_of shape config stored trace opening legal in record {
    not_reclaimed = λ w n r holds t. (held_is_kept shape s h w n r holds).not_free (reclaimed_is_free (start_of shape config stored) (Coheres-start shape config stored opening) trace legal n t);
  }

  pub keeps_held : InEveryTrace shape (KeepsHeld shape)
  keeps_held s reached = let h = Coheres-reached shape s reached in let reused = subst (λ (st : State C). IsFreeBefore shape st.operator) reached.reached (reused_is_free shape reached.config reached.stored reached.trace reached.legal) in record {
    words_stand = λ w n r holds. let kept = held_is_kept shape s h w n r holds in (kept.config, kept.pages, kept.published, kept.in_pages, kept.holds);
    not_filled = λ w n r p y x holds may word. (held_is_kept shape s h w n r holds).not_free (fill_is_free s h p y x n may word);
    not_free = λ w n r holds. (held_is_kept shape s h w n r holds).not_free;
    clear_below = λ w n r m holds. (held_bounds shape s h w n r holds).5 m;
    last_in_row = λ w n r holds. let kept = held_is_kept shape s h w n r holds in (kept.in_row, λ later up at. kept.not_free (reused n later r up kept.in_row at));
  }

  filled_page_is_free : (s : State C) → Coheres shape s → (q n p : ℕ) → MayFill shape s.operator p → IsInPage shape q p → Names s.operator n q → IsFree shape n s.operator.log
  filled_page_is_free s h q n p (inl (r, free, (i, small, at))) in_page names = let inside = row_inside r shape.rows i shape.row_words free.0 small in let there = in_page.2 in absurd (omega arith)
  filled_page_is_free s h q n p (inr (page, free, (k, small, at))) (j, small', there) names =
      free.1 n (subst (Names s.operator n) (same_row shape.page_words q page j k small' small (omega arith)) names)

  pub keeps_pool : InEveryTrace shape (KeepsPool shape)
  keeps_pool s reached = let h = Coheres-reached shape s reached in record {
    stands = λ n r config pages published in_row named not_free. ⊎_elim (λ free. absurd (not_free free)) (λ stands. stands.0) (h.each_version n config r pages published in_row named);
    pool_kept = λ n q p y x may in_page names. filled_page_is_free s h q n p may.0 in_page names;
    not_current = λ q p y x may in_page names. let replaced = (filled_page_is_free s h q (number_after s.operator.log) p may.0 in_page names).0 in omega arith;
    not_held = λ w n r q p y x holds may in_page names. (held_is_kept shape s h w n r holds).not_free (filled_page_is_free s h q n p may.0 in_page names);
    names_stand = λ n r pages in_row named not_free.
        let low = elem_below s.operator.version_rows n r in_row in let long = h.published_length in let all = h.version_rows_length in let config = elem_there s.operator.published n (omega arith) in
        ⊎_elim (λ free. absurd (not_free free)) (λ stands. stands.1) (h.each_version n config.0 r pages config.1 in_row named);
  }

  -- what the form has at a place of the version held is what stands there
  pub form_word : (s : State C) (r : ℕ) (config : C) (pages : List ℕ) (place : ℕ) → HoldsForm shape (rows_begin shape) s.words r config pages → IsInRow shape r place ⊎ IsPartPlace shape config pages place
      → IsFormWord shape r config pages place (slice_index s.words place)
  form_word s r config pages place holds (inl (i, small, at)) = inl (i, small, at, ap (slice_index s.words) (let g : place ≡ rows_begin shape + (r * shape.row_words + i) = omega arith in g) ∙ holds.row i small)
  form_word s r config pages place holds (inr part) = inr (
    part,
    slice_get-get_or part.part part.k 0 part.inside ∙ ap Some (sym (ap (slice_index s.words) (let e = part.at in let g : place ≡ rows_begin shape + (all_rows shape + (part.page * shape.page_words + part.k)) = omega arith in g)
        ∙ holds.standing part.index part.page part.k (get_or part.part part.k 0) part.part part.page_is part.part_is (slice_get-get_or part.part part.k 0 part.inside))),
  )

  -- and the word that the form has there is the only one
  pub word_is_form : (s : State C) (r : ℕ) (config : C) (pages : List ℕ) (place x : ℕ) → HoldsForm shape (rows_begin shape) s.words r config pages → IsFormWord shape r config pages place x → slice_index s.words place ≡ x
  word_is_form s r config pages place x holds (inl (i, small, at, is)) = ap (slice_index s.words) (let g : place ≡ rows_begin shape + (r * shape.row_words + i) = omega arith in g) ∙ (holds.row i small ∙ sym is)
  word_is_form s r config pages place x holds (inr (part, is)) = ap (slice_index s.words) (let e = part.at in let g : place ≡ rows_begin shape + (all_rows shape + (part.page * shape.page_words + part.k)) = omega arith in g)
      ∙ holds.standing part.index part.page part.k x part.part part.page_is part.part_is is

  pub version_place : (s : State C) (n r place : ℕ) (kept : IsKept shape s n r) → IsWordOf shape s n place → IsInRow shape r place ⊎ IsPartPlace shape kept.config kept.pages place
  version_place s n r place kept (inl (q, at, in_row)) = inl (subst (λ (k : ℕ). IsInRow shape k place) (elem_same s.operator.version_rows n q r at kept.in_row) in_row)
  version_place s n r place kept (inr (config, pages, published, named, part)) = inr (subst (λ l. IsPartPlace shape kept.config l place) (elem_same s.operator.version_pages n pages kept.pages named kept.in_pages)
      (subst (λ (c : C). IsPartPlace shape c pages place) (elem_same s.operator.published n config kept.config published kept.published) part))

  pub fetches_published : InEveryTrace shape (FetchesPublished shape)
  fetches_published s reached = let h = Coheres-reached shape s reached in record {
    fetches = λ w p x may. let n = may.1.0 in let r = may.1.1 in let held = may.1.2 in let kept = held_is_kept shape s h w n r held in record {
      version = n;
      row = r;
      config = kept.config;
      pages = kept.pages;
      held = held;
      published = kept.published;
      named = kept.in_pages;
      word = subst (IsFormWord shape r kept.config kept.pages p) (sym may.2) (form_word s r kept.config kept.pages p kept.holds (version_place s n r p kept may.1.3));
    };
  }

  pub scans_tell : InEveryTrace shape (ScansTell shape)
  scans_tell s reached = let h = Coheres-reached shape s reached in record {
    own_log = λ w view at. (h.each_worker w view at).own;
    scanned = λ w x view at may. let ok = h.each_worker w view at in may.3 ∙ (ok.read_word ∙ ok.told);
    goes_on = λ w view log at told. (h.each_worker w view at).scanned log told;
    kept = subst (IsLastScanKept shape) reached.reached (last_scan_kept shape reached.config reached.stored reached.trace reached.opening reached.legal);
  }

  pub views_tell_table : InEveryTrace shape (ViewsTellTable shape)
  views_tell_table s reached = let h = Coheres-reached shape s reached in record {
    words_length = h.words_length;
    current = h.current;
    workers_length = h.workers_length;
    read_words = λ w view at. (h.each_worker w view at).read_word;
    stored_length = h.stored_length;
    stored = h.stored;
  }

  pub lists_versions : InEveryTrace shape (ListsVersions shape)
  lists_versions s reached = let h = Coheres-reached shape s reached in record {
    published_length = h.published_length;
    version_rows_length = h.version_rows_length;
    version_pages_length = h.version_pages_length;
    last_number = h.numbered;
    a_row = h.rows_below;
    a_page = h.pages_below;
  }

  pub steps_on_one_word : InEveryTrace shape (StepsOnOneWord shape)
  steps_on_one_word s reached = record { one_word = one_word shape s }
