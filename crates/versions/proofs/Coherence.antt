-- The rule that each legal step keeps: how the words of the table, the workers' views and the operator's view go together.
use Rattle.std.proofs.Common.{Contains, ◌≡◌, ◌≢◌, ◌⊎◌, ℕ, zero, suc, ◌+◌, ◌*◌, ◌/◌, ◌%◌, ◌<◌, ◌≤◌, List, [], ◌∷◌, Some, drop, get_or, get_or-set_other, inl, inr, length, length-append, refl, set, slice_get, slice_index, sym, ap, ◌∙◌, subst, ⊎_elim, arith}
use Rattle.std.proofs.lemmas.List.{length-take-le, take-append-drop}
use Rattle.std.proofs.lemmas.Nat.{div-mul-add, mod-mul-add}
use Rattle.std.proofs.lemmas.Option.{slice_get_within}
use mathlib.Core.Option.{some, some-injective, some-ne-none}
use lib.ListN.{get_elem?}
use Rattle.versions.specs.declared.step.Step.{Step}
use Rattle.versions.specs.declared.step.Step.TheVariants.{Announce, Fetch, Fill, Leave, Peek, Pin, Publish, Scan}
use Rattle.versions.specs.declared.step.Entry.{Entry}
use Rattle.versions.specs.declared.view.Stage.{Stage}
use Rattle.versions.specs.declared.view.Stage.TheVariants.{Announced, Inside, Outside, Peeked}
use Rattle.versions.specs.declared.view.WorkerView.{WorkerView}
use Rattle.versions.specs.declared.view.OperatorView.{OperatorView}
use Rattle.versions.specs.Layout.{HoldsForm, Shape, all_rows, current_word, pages_named, rows_begin, stored_words}
use Rattle.versions.specs.Step.{IsStepOf, LoadsCurrent}
use Rattle.versions.specs.View.{BeginsWith, BeginsWithLog, OfFetches, last_pinned, last_seen, next_stage, pinned_by, read_word_after, read_word_of, stage_after, stage_after_peek, up_to}
use Rattle.versions.specs.Free.{IsFree, IsScannedClear, Names, number_after}
use Rattle.versions.specs.State.{State, change, log_of}
use Rattle.versions.specs.Legal.{FetchesInReach, IsInOrder, IsLogOf, MayPeek}
use Rattle.versions.specs.Safety.{IsHeldPlace, IsOwnLog}
use Rattle.versions.proofs.ListLemmas.{change_at, change_length, contains_first, elem_below, elem_same, row_inside}

pub read_word-peek : (stage : Stage) (n : ℕ) → MayPeek stage → read_word_of (stage_after_peek stage n) ≡ read_word_of stage
read_word-peek Outside n h = refl
read_word-peek (Peeked m) n h = refl
read_word-peek (Announced k) n h = absurd h
read_word-peek (Inside k m r) n h = refl

peeked_inside : (m k n r : ℕ) → Peeked m ≡ Inside k n r → ⊥
peeked_inside m k n r e = cc

announced_inside : (m k n r : ℕ) → Announced m ≡ Inside k n r → ⊥
announced_inside m k n r e = cc

outside_inside : (k n r : ℕ) → Outside ≡ Inside k n r → ⊥
outside_inside k n r e = cc

pub version_inside : (j m q k n r : ℕ) → Inside j m q ≡ Inside k n r → m ≡ n
version_inside j m q k n r e = cc

pub begins_further : (e : Entry) {log older : List Entry} → BeginsWithLog log older → BeginsWithLog (e ∷ log) older
begins_further e h = (e ∷ h.0, ap (λ l. e ∷ l) h.1)

pinned_by_step : (rows k n r x before : ℕ) (stage : Stage) (step : Step) → ((j m q : ℕ) → stage ≡ Inside j m q → before ≡ m) → next_stage rows stage step x ≡ Inside k n r → pinned_by rows step x before ≡ n
pinned_by_step rows k n r x before Outside (Peek w) h e = absurd (peeked_inside (x / rows) k n r e)
pinned_by_step rows k n r x before (Peeked m) (Peek w) h e = absurd (peeked_inside (x / rows) k n r e)
pinned_by_step rows k n r x before (Announced m) (Peek w) h e = absurd (peeked_inside (x / rows) k n r e)
pinned_by_step rows k n r x before (Inside j m q) (Peek w) h e = h k n r e
pinned_by_step rows k n r x before stage (Announce w) h e = absurd (announced_inside x k n r e)
pinned_by_step rows k n r x before stage (Pin w) h e = version_inside _ _ _ _ _ _ e
pinned_by_step rows k n r x before stage (Fetch w p) h e = h k n r e
pinned_by_step rows k n r x before stage (Leave w) h e = absurd (outside_inside k n r e)
pinned_by_step rows k n r x before stage (Fill p y) h e = h k n r e
pinned_by_step rows k n r x before stage (Publish q) h e = h k n r e
pinned_by_step rows k n r x before stage (Scan p) h e = h k n r e

-- a worker that is inside holds the version of its last pin
pub pinned_stage : (rows : ℕ) (log : List Entry) (k n r : ℕ) → stage_after rows log ≡ Inside k n r → last_pinned rows log ≡ n
pinned_stage rows [] k n r e = absurd (outside_inside k n r e)
pinned_stage rows (newest ∷ older) k n r e = pinned_by_step rows k n r newest.word (last_pinned rows older) (stage_after rows older) newest.step (pinned_stage rows older) e

module _ {C : Type 0} where
  pub log_of_is : (views : List (WorkerView C)) (w : ℕ) (view : WorkerView C) → get_elem? views w ≡ some view → log_of views w ≡ view.log
  log_of_is [] w view e = absurd (some-ne-none view (sym e))
  log_of_is (v ∷ views) zero view e = ap (λ (y : WorkerView C). y.log) (some-injective v view e)
  log_of_is (v ∷ views) (suc w) view e = log_of_is views w view e

  -- what bounds worker w, of which `seen` versions were seen: it announces no later version than the current one, and no
  -- version from the held one on was scanned clear for it. The last is what a grace period rests on
  abbrev pub Bounds : ℕ → OperatorView C → ℕ → Stage → Type 0
  Bounds w operator seen Outside = Unit {0}
  Bounds w operator seen (Peeked n) = n ≤ number_after operator.log
  Bounds w operator seen (Announced k) = (0 < k) × (k ≤ number_after operator.log + 1)
  Bounds w operator seen (Inside k n r) =
      (0 < k) × (k ≤ n + 1) × (n ≤ number_after operator.log) × (n < seen) × (get_elem? operator.version_rows n ≡ some r) × ((m : ℕ) → IsScannedClear w m operator.log → m < n)

  pub bounds-peek : (w : ℕ) (operator : OperatorView C) (few many : ℕ) (stage : Stage) (n : ℕ) → MayPeek stage → n ≤ number_after operator.log → few ≤ many
      → Bounds w operator few stage → Bounds w operator many (stage_after_peek stage n)
  bounds-peek w operator few many Outside n h low up b = low
  bounds-peek w operator few many (Peeked m) n h low up b = low
  bounds-peek w operator few many (Announced k) n h low up b = absurd h
  bounds-peek w operator few many (Inside k m r) n h low up b = let t = b.3 in (b.0, b.1, b.2, omega arith, b.4, b.5)

  -- a step of the operator
  pub bounds-on : (w : ℕ) (before after : OperatorView C) (seen : ℕ) (stage : Stage) → number_after before.log ≤ number_after after.log
      → ((n r : ℕ) → get_elem? before.version_rows n ≡ some r → get_elem? after.version_rows n ≡ some r)
      → ((k n r : ℕ) → stage ≡ Inside k n r → (m : ℕ) → IsScannedClear w m after.log → (m < n) ⊎ IsScannedClear w m before.log)
      → Bounds w before seen stage → Bounds w after seen stage
  bounds-on w before after seen Outside more kept clear b = tt
  bounds-on w before after seen (Peeked n) more kept clear b = let t : n ≤ number_after before.log = b in omega arith
  bounds-on w before after seen (Announced k) more kept clear b = let t = b.1 in (b.0, omega arith)
  bounds-on w before after seen (Inside k n r) more kept clear b =
      let t = b.2 in (b.0, b.1, omega arith, b.3, kept n r b.4, λ m c. ⊎_elim (λ l. l) (b.5 m) (clear k n r refl m c))

module _ {C : Type 0} (shape : Shape C) where
  -- how what worker w knows goes with the words of the table and the operator's view
  pub record WorkerRule (words : List ℕ) (operator : OperatorView C) (w : ℕ) (view : WorkerView C) : Type 0 where
    pub read_word : slice_index words (1 + w) ≡ read_word_of view.stage
    pub bounds : Bounds w operator (length view.seen) view.stage
    pub begins : BeginsWith operator.published view.seen
    pub up_to_last : length view.seen ≡ suc (last_seen shape.rows view.log)
    pub pages : get_elem? operator.version_pages (last_pinned shape.rows view.log) ≡ some view.pages
    pub told : read_word_of view.stage ≡ read_word_after view.log
    pub own : IsOwnLog shape w view
    pub loads : (e : Entry) → Contains view.log e → LoadsCurrent e.step → e.word / shape.rows ≤ number_after operator.log
    pub scanned : (log : List Entry) → get_elem? operator.scanned_logs w ≡ some log → BeginsWithLog view.log log

  -- row r and these pages hold the configuration, and the row names the pages
  abbrev pub Stands : List ℕ → OperatorView C → ℕ → C → List ℕ → Type 0
  Stands words operator r config pages = HoldsForm shape (rows_begin shape) words r config pages × (pages_named shape operator.stored r ≡ pages)

  -- each version that is not free stands in its row and its pages
  pub record Coheres (s : State C) : Type 0 where
    pub words_length : length s.words ≡ (1 + shape.workers) + stored_words shape
    pub workers_length : length s.workers ≡ shape.workers
    pub stored_length : length s.operator.stored ≡ stored_words shape
    pub stored : (i : ℕ) → i < stored_words shape → slice_index s.words ((1 + shape.workers) + i) ≡ slice_index s.operator.stored i
    pub published_length : length s.operator.published ≡ suc (number_after s.operator.log)
    pub version_rows_length : length s.operator.version_rows ≡ suc (number_after s.operator.log)
    pub version_pages_length : length s.operator.version_pages ≡ suc (number_after s.operator.log)
    pub current : (r : ℕ) × (get_elem? s.operator.version_rows (number_after s.operator.log) ≡ some r) × (slice_index s.words 0 ≡ current_word shape (number_after s.operator.log) r)
    pub numbered : number_after s.operator.log ≤ shape.last_number
    pub rows_below : (m r : ℕ) → get_elem? s.operator.version_rows m ≡ some r → r < shape.rows
    pub each_worker : (w : ℕ) (view : WorkerView C) → get_elem? s.workers w ≡ some view → WorkerRule s.words s.operator w view
    pub pages_below : (m page : ℕ) → Names s.operator m page → page < shape.pages
    pub each_version : (m : ℕ) (config : C) (r : ℕ) (pages : List ℕ) → get_elem? s.operator.published m ≡ some config → get_elem? s.operator.version_rows m ≡ some r
        → get_elem? s.operator.version_pages m ≡ some pages → IsFree shape m s.operator.log ⊎ Stands s.words s.operator r config pages

  -- what a load of `current` gives
  pub current_is : (s : State C) → Coheres s → (x : ℕ) → x ≡ slice_index s.words 0
      → (x / shape.rows ≡ number_after s.operator.log) × (get_elem? s.operator.version_rows (number_after s.operator.log) ≡ some (x % shape.rows))
  current_is s h x e =
      let r = h.current.0 in let low = h.rows_below _ r h.current.1 in let is : x ≡ number_after s.operator.log * shape.rows + r = e ∙ h.current.2 in (
        ap (λ (k : ℕ). k / shape.rows) is ∙ div-mul-add (number_after s.operator.log) shape.rows r low,
        h.current.1 ∙ ap some (sym (ap (λ (k : ℕ). k % shape.rows) is ∙ mod-mul-add (number_after s.operator.log) shape.rows r low)),
      )

  -- words that are the same in rows and pool hold the same
  pub holds-on : (from from' : ℕ) (words words' : List ℕ) (r : ℕ) (config : C) (pages : List ℕ) → r < shape.rows
      → ((i : ℕ) → i < stored_words shape → get_or words' (from' + i) 0 ≡ get_or words (from + i) 0)
      → HoldsForm shape from words r config pages → HoldsForm shape from' words' r config pages
  holds-on from from' words words' r config pages low same h = record {
    counted = h.counted;
    below = h.below;
    fits = h.fits;
    row = λ i small. let inside = row_inside r shape.rows i shape.row_words low small in same (r * shape.row_words + i) (omega arith) ∙ h.row i small;
    standing = λ index page k x part at cut word.
        let small = slice_get_within part k x word in let fit = h.fits index part cut in let inside = row_inside page shape.pages k shape.page_words (h.below index page at) (omega arith) in
        same (all_rows shape + (page * shape.page_words + k)) (omega arith) ∙ h.standing index page k x part at cut word;
  }

  -- what is set beside the row and the parts changes neither
  pub holds-set : (from : ℕ) (words : List ℕ) (p x r : ℕ) (config : C) (pages : List ℕ) → ((i : ℕ) → i < shape.row_words → from + (r * shape.row_words + i) ≢ p)
      → ((index page k : ℕ) → slice_get pages index ≡ Some page → k < shape.page_words → from + (all_rows shape + (page * shape.page_words + k)) ≢ p)
      → HoldsForm shape from words r config pages → HoldsForm shape from (set words p x) r config pages
  holds-set from words p x r config pages beside_row beside_parts h = record {
    counted = h.counted;
    below = h.below;
    fits = h.fits;
    row = λ i small. get_or-set_other words p (from + (r * shape.row_words + i)) x 0 (beside_row i small) ∙ h.row i small;
    standing = λ index page k y part at cut word.
        let small = slice_get_within part k y word in let fit = h.fits index part cut in
        get_or-set_other words p (from + (all_rows shape + (page * shape.page_words + k))) x 0 (beside_parts index page k at (omega arith)) ∙ h.standing index page k y part at cut word;
  }

  -- a log of worker w, one step longer
  pub own_log-on : (w : ℕ) (view view' : WorkerView C) (step : Step) (x : ℕ) → IsOwnLog shape w view → view'.number ≡ view.number → IsStepOf w step → IsInOrder view.stage step x → FetchesInReach shape view.stage step
      → OfFetches (IsHeldPlace shape view') (record { step = step; word = x } ∷ view.log) → view'.log ≡ record { step = step; word = x } ∷ view.log → view'.stage ≡ stage_after shape.rows (record { step = step; word = x } ∷ view.log) → IsOwnLog shape w view'
  own_log-on w view view' step x h number mine order place fetched log stage = record {
    number = number ∙ h.number;
    order = subst (IsLogOf shape w) (sym log) (h.order, mine, subst (λ q. IsInOrder q step x) h.stage order, subst (λ q. FetchesInReach shape q step) h.stage place);
    stage = stage ∙ ap (stage_after shape.rows) (sym log);
    fetched = subst (OfFetches (IsHeldPlace shape view')) (sym log) fetched;
  }

  -- a step of worker w
  pub worker_keeps : (s : State C) → Coheres s → (w : ℕ) (view : WorkerView C) (f : WorkerView C → WorkerView C) (words' : List ℕ) → get_elem? s.workers w ≡ some view
      → length words' ≡ length s.words → ((j : ℕ) → j ≢ 1 + w → get_or words' j 0 ≡ get_or s.words j 0) → WorkerRule words' s.operator w (f view)
      → Coheres (record s { words = words'; workers = change w f s.workers })
  worker_keeps s h w view f words' at long same ok = let many = h.workers_length in let below = elem_below s.workers w view at in record {
    words_length = long ∙ h.words_length;
    workers_length = change_length f s.workers w ∙ h.workers_length;
    stored_length = h.stored_length;
    stored = λ i l. same ((1 + shape.workers) + i) (λ e. omega arith) ∙ h.stored i l;
    published_length = h.published_length;
    version_rows_length = h.version_rows_length;
    version_pages_length = h.version_pages_length;
    current = (h.current.0, h.current.1, same 0 (λ e. omega arith) ∙ h.current.2);
    numbered = h.numbered;
    rows_below = h.rows_below;
    each_worker = λ j b there. ⊎_elim
        (λ (t : (j ≡ w) × ((x : WorkerView C) × (get_elem? s.workers w ≡ some x) × (b ≡ f x))).
        let is : b ≡ f view = t.1.2 ∙ ap f (elem_same s.workers w t.1.0 view t.1.1 at) in
        subst (λ (v : ℕ). WorkerRule words' s.operator v b) (sym t.0) (subst (λ (y : WorkerView C). WorkerRule words' s.operator w y) (sym is) ok))
        (λ (t : (j ≢ w) × (get_elem? s.workers j ≡ some b)). let was = h.each_worker j b t.1 in let k = t.0 in
        record { read_word = same (1 + j) (λ e. k (omega arith)) ∙ was.read_word; bounds = was.bounds; begins = was.begins; up_to_last = was.up_to_last; pages = was.pages; told = was.told; own = was.own; loads = was.loads; scanned = was.scanned })
        (change_at f s.workers w j b there);
    pages_below = h.pages_below;
    each_version = λ m config r pages p q u. ⊎_elim inl
        (λ t. inr (holds-on (rows_begin shape) (rows_begin shape) s.words words' r config pages (h.rows_below m r q) (λ i l. same (rows_begin shape + i) (λ e. omega arith)) t.0, t.1)) (h.each_version m config r pages p q u);
  }

  -- what a worker sees when a load of `current` gives x
  pub seen_is : (s : State C) → Coheres s → (x : ℕ) → x ≡ slice_index s.words 0
      → BeginsWith s.operator.published (up_to (x / shape.rows) s.operator.published) × (length (up_to (x / shape.rows) s.operator.published) ≡ suc (x / shape.rows))
  seen_is s h x e = let now = (current_is s h x e).0 in let long = h.published_length in (
    (drop (suc (x / shape.rows)) s.operator.published, sym (take-append-drop (suc (x / shape.rows)) s.operator.published)),
    length-take-le (suc (x / shape.rows)) s.operator.published (omega arith),
  )

  pub seen_below : (s : State C) → Coheres s → (w : ℕ) (view : WorkerView C) → WorkerRule s.words s.operator w view → length view.seen ≤ suc (number_after s.operator.log)
  seen_below s h w view ok = let long = h.published_length in omega (arith, ap length ok.begins.1, length-append view.seen ok.begins.0)

  -- the loads of a log that is one step longer
  pub loads-on : (n : ℕ) (newest : Entry) (log : List Entry) → (LoadsCurrent newest.step → newest.word / shape.rows ≤ n)
      → ((e : Entry) → Contains log e → LoadsCurrent e.step → e.word / shape.rows ≤ n) → (e : Entry) → Contains (newest ∷ log) e → LoadsCurrent e.step → e.word / shape.rows ≤ n
  loads-on n newest log first rest e c load = ⊎_elim
      (λ is. let P : Entry → Type 0 = λ y. LoadsCurrent y.step → y.word / shape.rows ≤ n in (subst P is first) load)
      (λ old. rest e old load) (contains_first newest e log c)
