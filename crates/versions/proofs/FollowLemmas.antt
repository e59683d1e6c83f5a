-- The kept numbers after a legal step mirror the state after it.
use Rattle.std.proofs.Common.{◌≡◌, ℕ, ◌+◌, ◌-◌, ◌/◌, ◌<◌, List, Some, [], ap, arith, length, refl, set, slice_get, slice_index_or, subst, sym, ◌∙◌, ⊎_elim}
use mathlib.Core.Option.{some}
use lib.ListN.{get_elem?}
use Rattle.config_image.specs.Image.{Group}
use Rattle.versions.specs.declared.layout.TheConstants.{LAST_NUMBER, PAGES, ROWS, TABLE_WORDS, WORKERS}
use Rattle.versions.specs.declared.progress.Progress.{Progress}
use Rattle.versions.specs.declared.step.Step.{Step}
use Rattle.versions.specs.declared.step.Step.TheVariants.{Announce, Fetch, Fill, Leave, Peek, Pin, Publish, Scan}
use Rattle.versions.specs.declared.view.Stage.TheVariants.{Outside}
use Rattle.versions.specs.declared.view.WorkerView.{WorkerView}
use Rattle.versions.specs.Layout.{pages_named, rows_begin}
use Rattle.versions.specs.View.{after_announce, after_fetch, after_fill, after_leave, after_peek, after_pin, after_publish, after_scan, next_stage, up_to}
use Rattle.versions.specs.State.{State, after_step, change, log_of}
use Rattle.versions.specs.Legal.{IsLegalStep, IsNextOf, IsReached}
use Rattle.versions.specs.declared.book.Book.{Book}
use Rattle.versions.specs.Book.{IsBook, IsCleared, with_version_in}
use Rattle.versions.specs.body.Mirror.{IsMirror, moved}
use Rattle.versions.proofs.BookLemmas.{IsBook-filled, IsBook-published, IsBook-scanned}
use Rattle.versions.specs.Table.{the_shape}
use Rattle.versions.specs.Pooled.{pages_in}
use Rattle.versions.proofs.DecisionLemmas.{pages_same}
use Rattle.versions.proofs.ListLemmas.{elem_below}
use Rattle.versions.proofs.MirrorLemmas.{IsMirror-moved, IsMirror-operator, stage_there}
use Rattle.versions.proofs.TraceLemmas.{Coheres-reached}
use Rattle.versions.proofs.ShapeLemmas.{last_number_is, page_below, pages_is, place_below, rows_is, workers_is}

module _ {A : Type 0} (s : State (List Group)) (reached : IsReached the_shape s) (words : List ℕ) (progress : Progress A) (m : IsMirror the_shape s words progress) where
  pub worker_below : (w : ℕ) (step : Step) (x : ℕ) → IsNextOf s w step x → w < WORKERS
  worker_below w step x next = let h = Coheres-reached the_shape s reached in let low = elem_below s.workers w next.0 next.1 in omega (arith, workers_is, h.workers_length)

  moved_on : (w : ℕ) (view : WorkerView (List Group)) (f : WorkerView (List Group) → WorkerView (List Group)) (words' kept' : List ℕ) (step : Step) (x : ℕ) → get_elem? s.workers w ≡ some view
      → (f view).stage ≡ next_stage the_shape.rows view.stage step x → kept' ≡ words' → IsMirror the_shape (record s { words = words'; workers = change w f s.workers }) kept' (moved w step x progress)
  moved_on w view f words' kept' step x at is same = IsMirror-moved the_shape s words progress m w view f words' kept' (next_stage ROWS (slice_index_or progress.stages w Outside) step x) at
      (is ∙ (ap (λ (k : ℕ). next_stage k view.stage step x) rows_is ∙ ap (λ q. next_stage ROWS q step x) (sym (stage_there the_shape s words progress m w view at)))) same

  pub follows_peek : (w x : ℕ) → IsLegalStep the_shape s (Peek w) x → IsMirror the_shape (after_step the_shape s (Peek w) x) words (moved w (Peek w) x progress)
  follows_peek w x legal = moved_on w legal.0.0 (after_peek the_shape.rows x (up_to (x / the_shape.rows) s.operator.published)) s.words words (Peek w) x legal.0.1 refl m.words_same

  pub follows_announce : (w x : ℕ) → IsLegalStep the_shape s (Announce w) x → IsMirror the_shape (after_step the_shape s (Announce w) x) (set words (1 + w) x) (moved w (Announce w) x progress)
  follows_announce w x legal = moved_on w legal.0 (after_announce x) (set s.words (1 + w) x) (set words (1 + w) x) (Announce w) x legal.1 refl (ap (λ l. set l (1 + w) x) m.words_same)

  pub follows_pin : (w x : ℕ) → IsLegalStep the_shape s (Pin w) x → IsMirror the_shape (after_step the_shape s (Pin w) x) words (moved w (Pin w) x progress)
  follows_pin w x legal = moved_on w legal.0.0 (after_pin the_shape.rows x (up_to (x / the_shape.rows) s.operator.published) (slice_index_or s.operator.version_pages (x / the_shape.rows) [])) s.words words (Pin w) x legal.0.1 refl m.words_same

  pub follows_fetch : (w place x : ℕ) → IsLegalStep the_shape s (Fetch w place) x → IsMirror the_shape (after_step the_shape s (Fetch w place) x) words (moved w (Fetch w place) x progress)
  follows_fetch w place x legal = moved_on w legal.0.0 (after_fetch place x) s.words words (Fetch w place) x legal.0.1 refl m.words_same

  pub follows_leave : (w x : ℕ) → IsLegalStep the_shape s (Leave w) x → IsMirror the_shape (after_step the_shape s (Leave w) x) (set words (1 + w) x) (moved w (Leave w) x progress)
  follows_leave w x legal = moved_on w legal.0 after_leave (set s.words (1 + w) 0) (set words (1 + w) x) (Leave w) x legal.1 refl (ap (λ l. set l (1 + w) x) m.words_same ∙ ap (set s.words (1 + w)) legal.2.4)

  pub follows_fill : (place word x : ℕ) → IsLegalStep the_shape s (Fill place word) x → IsMirror the_shape (after_step the_shape s (Fill place word) x) (set words place x) progress
  follows_fill place word x legal = IsMirror-operator the_shape s words progress m (after_fill (rows_begin the_shape) place x s.operator) (set s.words place x) (set words place x) progress refl
      (IsBook-filled the_shape s.operator progress.book m.book (rows_begin the_shape) place x) (ap (λ l. set l place x) m.words_same)

  pub follows_publish : (r x : ℕ) (pages : List ℕ) → pages ≡ pages_in words r → IsLegalStep the_shape s (Publish r) x → IsMirror the_shape (after_step the_shape s (Publish r) x) (set words 0 x) (record progress { book = with_version_in r pages progress.book })
  follows_publish r x pages is legal =
      let h = Coheres-reached the_shape s reached in let named = pages_named the_shape s.operator.stored r in let book : Book A = with_version_in r pages progress.book in
      IsMirror-operator the_shape s words progress m (after_publish r x named s.operator) (set s.words 0 x) (set words 0 x) (record progress { book = book }) refl
      (subst (λ l. IsBook the_shape (after_publish r x named s.operator) (with_version_in r l progress.book)) (sym (is ∙ pages_same s reached words progress m r legal.0.free.0))
      (IsBook-published the_shape s.operator progress.book m.book r x named legal.0.free.0 h.version_rows_length h.version_pages_length legal.0.holds.below)) (ap (λ l. set l 0 x) m.words_same)

  -- the pages that the row names are pages of the pool
  pub published_pages : (r x : ℕ) (pages : List ℕ) → pages ≡ pages_in words r → IsLegalStep the_shape s (Publish r) x → (index page : ℕ) → slice_get pages index ≡ Some page → page < PAGES
  published_pages r x pages is legal index page at = let low = legal.0.holds.below index page (ap (λ l. slice_get l index) (sym (is ∙ pages_same s reached words progress m r legal.0.free.0)) ∙ at) in omega (arith, pages_is)

  pub follows_scan : (place x : ℕ) (book' : Book A) → (length progress.book.cleared ≡ WORKERS → IsCleared (place - 1) x progress.book book') → IsLegalStep the_shape s (Scan place) x
      → IsMirror the_shape (after_step the_shape s (Scan place) x) words (record progress { book = book' })
  follows_scan place x book' cleared legal = let c = cleared (m.book.cleared_length ∙ workers_is) in
      IsMirror-operator the_shape s words progress m (after_scan (place - 1) x (log_of s.workers (place - 1)) s.operator) s.words words (record progress { book = book' }) refl
      (IsBook-scanned the_shape s.operator progress.book m.book (place - 1) x (log_of s.workers (place - 1)) book' c) m.words_same

  pub fill_below : (place word x : ℕ) → IsLegalStep the_shape s (Fill place word) x → place < TABLE_WORDS
  fill_below place word x legal = ⊎_elim (λ t. place_below t.0 place t.1.0 t.2) (λ t. page_below t.0 place t.1.0 t.2) legal.0

  pub publish_below : (r x : ℕ) → IsLegalStep the_shape s (Publish r) x → (r < ROWS) × (progress.book.number < LAST_NUMBER)
  publish_below r x legal = let low = legal.0.free.0 in let number = legal.0.number in (omega (arith, rows_is), omega (arith, last_number_is, m.book.number))
