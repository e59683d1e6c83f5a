-- The version that a worker holds: it is not free, so its row and its pages hold it, and the worker knows which they are.
use Rattle.std.proofs.Common.{◌≡◌, ◌⊎◌, ℕ, List, [], ◌∷◌, ap, arith, inl, inr, length, subst, sym, ◌∙◌, ⊎_elim}
use mathlib.Core.Option.{some}
use lib.ListN.{get_elem?}
use Rattle.versions.specs.declared.step.Step.{Step}
use Rattle.versions.specs.declared.step.Step.TheVariants.{Announce, Fetch, Fill, Leave, Peek, Pin, Publish, Scan}
use Rattle.versions.specs.declared.step.Entry.{Entry}
use Rattle.versions.specs.declared.view.Stage.{Stage}
use Rattle.versions.specs.declared.view.Stage.TheVariants.{Announced, Inside, Outside, Peeked}
use Rattle.versions.specs.declared.view.WorkerView.{WorkerView}
use Rattle.versions.specs.Layout.{HoldsForm, IsInRow, IsPartPlace, Shape, pages_named, rows_begin}
use Rattle.versions.specs.View.{OfFetches, OfFetchesBy, stage_after_peek}
use Rattle.versions.specs.Free.{IsFree}
use Rattle.versions.specs.State.{HoldsVersion, IsWordOf, State}
use Rattle.versions.specs.Legal.{IsInPool, MayFetch, MayPeek}
use Rattle.versions.specs.Safety.{IsHeldPlace, IsHeldPlaceAt, IsSeenPlace}
use Rattle.versions.proofs.ListLemmas.{elem_below, elem_front, elem_same, elem_there}
use Rattle.versions.proofs.Coherence.{Bounds, Coheres, WorkerRule, pinned_stage}

of_fetches_by : (P Q : ℕ → Type 0) → ((place : ℕ) → P place → Q place) → (before before' : Type 0) → (before → before') → (step : Step) → OfFetchesBy P step before → OfFetchesBy Q step before'
of_fetches_by P Q f before before' g (Peek w) h = g h
of_fetches_by P Q f before before' g (Announce w) h = tt
of_fetches_by P Q f before before' g (Pin w) h = tt
of_fetches_by P Q f before before' g (Fetch w place) h = (f place h.0, g h.1)
of_fetches_by P Q f before before' g (Leave w) h = tt
of_fetches_by P Q f before before' g (Fill place word) h = tt
of_fetches_by P Q f before before' g (Publish r) h = tt
of_fetches_by P Q f before before' g (Scan place) h = tt

-- a fact of fetches that follows from another
pub of_fetches_on : (P Q : ℕ → Type 0) → ((place : ℕ) → P place → Q place) → (log : List Entry) → OfFetches P log → OfFetches Q log
of_fetches_on P Q f [] h = tt
of_fetches_on P Q f (newest ∷ older) h = of_fetches_by P Q f (OfFetches P older) (OfFetches Q older) (of_fetches_on P Q f older) newest.step h

module _ {C : Type 0} (shape : Shape C) where
  -- a peek takes no place from those that are held
  pub held_after_peek : (seen seen' : List C) (pages : List ℕ) (n place : ℕ) (stage : Stage) → MayPeek stage → ((k : ℕ) (config : C) → get_elem? seen k ≡ some config → get_elem? seen' k ≡ some config)
      → IsHeldPlaceAt shape stage seen pages place → IsHeldPlaceAt shape (stage_after_peek stage n) seen' pages place
  held_after_peek seen seen' pages n place Outside may more held = absurd held
  held_after_peek seen seen' pages n place (Peeked m) may more held = absurd held
  held_after_peek seen seen' pages n place (Announced k) may more held = absurd may
  held_after_peek seen seen' pages n place (Inside k m r) may more (inl in_row) = inl in_row
  held_after_peek seen seen' pages n place (Inside k m r) may more (inr (config, at, part)) = inr (config, more m config at, part)

  -- a held version is not free, so its row and its pages hold it
  pub record IsKept (s : State C) (n r : ℕ) : Type 0 where
    pub config : C
    pub pages : List ℕ
    pub published : get_elem? s.operator.published n ≡ some config
    pub in_row : get_elem? s.operator.version_rows n ≡ some r
    pub in_pages : get_elem? s.operator.version_pages n ≡ some pages
    pub holds : HoldsForm shape (rows_begin shape) s.words r config pages
    pub named : pages_named shape s.operator.stored r ≡ pages
    pub not_free : IsFree shape n s.operator.log → ⊥

  pub held_bounds : (s : State C) → Coheres shape s → (w n r : ℕ) (is : HoldsVersion s w n r) → Bounds w s.operator (length is.0.seen) (Inside is.1 n r)
  held_bounds s h w n r is = subst (Bounds w s.operator (length is.0.seen)) is.3 (h.each_worker w is.0 is.2).bounds

  pub held_is_kept : (s : State C) → Coheres shape s → (w n r : ℕ) → HoldsVersion s w n r → IsKept s n r
  held_is_kept s h w n r is =
      let below = elem_below s.workers w is.0 is.2 in let many = h.workers_length in let long = h.published_length in let all = h.version_pages_length in let knows = held_bounds s h w n r is in
      let not_free : IsFree shape n s.operator.log → ⊥ = λ f. let l = knows.5 n (f.1 w (omega arith)) in omega arith in
      let low = knows.2 in let there = elem_there s.operator.published n (omega arith) in let pages = elem_there s.operator.version_pages n (omega arith) in
      let stands = ⊎_elim (λ f. absurd (not_free f)) (λ t. t) (h.each_version n there.0 r pages.0 there.1 knows.4 pages.1) in record {
        config = there.0;
        pages = pages.0;
        published = there.1;
        in_row = knows.4;
        in_pages = pages.1;
        holds = stands.0;
        named = stands.1;
        not_free = not_free;
      }

  -- what the worker that holds version n in row r knows of it
  module _ (s : State C) (h : Coheres shape s) (w n r : ℕ) (is : HoldsVersion s w n r) where
    abbrev pub kept : IsKept s n r
    kept = held_is_kept s h w n r is

    abbrev pub view : WorkerView C
    view = is.0

    abbrev ok : WorkerRule shape s.words s.operator w view
    ok = h.each_worker w view is.2

    -- it knows the version's pages
    pub pages_known : view.pages ≡ kept.pages
    pages_known = elem_same s.operator.version_pages n view.pages kept.pages
        (ap (get_elem? s.operator.version_pages) (sym (pinned_stage shape.rows view.log is.1 n r (sym ok.own.stage ∙ is.3))) ∙ ok.pages) kept.in_pages

    -- it has seen what was published as version n, and that alone
    pub config_seen : get_elem? view.seen n ≡ some kept.config
    config_seen = elem_front view.seen ok.begins.0 n kept.config (held_bounds s h w n r is).3 (sym (ap (λ l. get_elem? l n) ok.begins.1) ∙ kept.published)

    pub same_row : (q : ℕ) → get_elem? s.operator.version_rows n ≡ some q → q ≡ r
    same_row q at = elem_same s.operator.version_rows n q r at kept.in_row

    pub word_seen : (place : ℕ) → IsWordOf shape s n place → IsSeenPlace shape view.seen view.pages n r place
    word_seen place (inl (q, at, in_row)) = inl (subst (λ (j : ℕ). IsInRow shape j place) (same_row q at) in_row)
    word_seen place (inr (config, pages, at, named, part)) = inr (
      config,
      (config_seen ∙ ap some (elem_same s.operator.published n kept.config config kept.published at)),
      subst (λ l. IsPartPlace shape config l place) (elem_same s.operator.version_pages n pages kept.pages named kept.in_pages ∙ sym pages_known) part,
    )

    pub word_of_seen : (place : ℕ) → IsSeenPlace shape view.seen view.pages n r place → IsWordOf shape s n place
    word_of_seen place (inl in_row) = inl (r, kept.in_row, in_row)
    word_of_seen place (inr (config, at, part)) = inr (
      config,
      view.pages,
      kept.published ∙ ap some (elem_same view.seen n kept.config config config_seen at),
      kept.in_pages ∙ ap some (sym pages_known),
      part,
    )

    pub held_place : (place : ℕ) → IsWordOf shape s n place → IsHeldPlace shape view place
    held_place place word = subst (λ stage. IsHeldPlaceAt shape stage view.seen view.pages place) (sym is.3) (word_seen place word)

    may_fetch_seen : (place : ℕ) → IsSeenPlace shape view.seen view.pages n r place → IsInRow shape r place ⊎ IsInPool shape place
    may_fetch_seen place (inl in_row) = inl in_row
    may_fetch_seen place (inr (config, at, part)) =
        let same : kept.config ≡ config = elem_same view.seen n kept.config config config_seen at in
        let holds : HoldsForm shape (rows_begin shape) s.words r config view.pages = subst (λ (c : C). HoldsForm shape (rows_begin shape) s.words r c view.pages) same (subst (HoldsForm shape (rows_begin shape) s.words r kept.config) (sym pages_known) kept.holds) in
        let inside = part.inside in let fit = holds.fits part.index part.part part.part_is in
        inr (part.page, holds.below part.index part.page part.page_is, (part.k, omega arith, part.at))

    pub may_fetch : (place : ℕ) → IsHeldPlace shape view place → MayFetch shape view.stage place
    may_fetch place held = subst (λ stage. MayFetch shape stage place) (sym is.3) (may_fetch_seen place (subst (λ stage. IsHeldPlaceAt shape stage view.seen view.pages place) is.3 held))
