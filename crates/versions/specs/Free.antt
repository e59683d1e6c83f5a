-- When a replaced version is free, and when a row or a page is: the end of a grace period (Desnoyers et al. 2012; docs/TABLE.md,
-- "When a version is free"). The operator's own log alone decides whether a version is free; that log and the rows and pages of
-- the versions decide whether a row or a page is. The log has the newest entry first.
use Rattle.std.specs.Prelude.{◌≡◌, ◌+◌, ◌<◌, ◌≤◌, ◌⊎◌, ◌∷◌, List, Some, [], slice_get, suc, ℕ}
use mathlib.Core.Option.{some}
use lib.ListN.{get_elem?}
use Rattle.versions.specs.declared.step.Step.{Step}
use Rattle.versions.specs.declared.step.Step.TheVariants.{Publish, Scan}
use Rattle.versions.specs.declared.step.Entry.{Entry}
use Rattle.versions.specs.declared.view.OperatorView.{OperatorView}
use Rattle.versions.specs.Layout.{Shape}

abbrev pub number_by : Step → ℕ → ℕ
number_by (Publish r) before = suc before
number_by _ before = before

-- the number of the current version after a log of the operator: the number of its publications
abbrev pub number_after : List Entry → ℕ
number_after [] = 0
number_after (newest ∷ older) = number_by newest.step (number_after older)

-- version m is replaced from the publication of the next one on
abbrev pub IsReplaced : ℕ → List Entry → Type 0
IsReplaced m log = m < number_after log

-- a read word that does not hold back version m: it is 0, or it announces a later version than m, which its worker's pin
-- comes after
abbrev pub IsClear : ℕ → ℕ → Type 0
IsClear m x = (x ≡ 0) ⊎ (m + 2 ≤ x)

-- this step, made when the log was `older`, scans worker w clear for m after m was replaced, or an older step did
abbrev pub ClearsBy : ℕ → ℕ → List Entry → Step → ℕ → Type 0 → Type 0
ClearsBy w m older (Scan place) x before = ((place ≡ 1 + w) × IsReplaced m older × IsClear m x) ⊎ before
ClearsBy w m older _ x before = before

-- since version m was replaced, the read word of worker w was once scanned clear for m
abbrev pub IsScannedClear : ℕ → ℕ → List Entry → Type 0
IsScannedClear w m [] = ⊥
IsScannedClear w m (newest ∷ older) = ClearsBy w m older newest.step newest.word (IsScannedClear w m older)

-- a step that loads `word` scans worker w and loads x; or it does not scan w, and the last scan before it loaded x
abbrev pub GivesLast : ℕ → ℕ → Step → ℕ → Type 0 → Type 0
GivesLast w x (Scan place) word before = ((place ≡ 1 + w) × (word ≡ x)) ⊎ ((place ≡ 1 + w → ⊥) × before)
GivesLast w x _ word before = before

-- the operator's last scan of worker w loaded x
abbrev pub IsLastScan : ℕ → ℕ → List Entry → Type 0
IsLastScan w x [] = ⊥
IsLastScan w x (newest ∷ older) = GivesLast w x newest.step newest.word (IsLastScan w x older)

-- version m is the last one that was published in row r
abbrev pub IsLastIn : ℕ → ℕ → List ℕ → Type 0
IsLastIn r m version_rows = (get_elem? version_rows m ≡ some r) × ((later : ℕ) → m < later → get_elem? version_rows later ≡ some r → ⊥)

module _ {C : Type 0} where
  -- version n names page q: the row of the version, at its publication or at the opening, named the page
  abbrev pub Names : OperatorView C → ℕ → ℕ → Type 0
  Names view n q = (pages : List ℕ) × (get_elem? view.version_pages n ≡ some pages) × ((index : ℕ) × (slice_get pages index ≡ Some q))

module _ {C : Type 0} (shape : Shape C) where
  -- a replaced version is free if since then the read word of each worker was once scanned clear for it
  abbrev pub IsFree : ℕ → List Entry → Type 0
  IsFree m log = IsReplaced m log × ((w : ℕ) → w < shape.workers → IsScannedClear w m log)

  -- a row is free if it was never used, or its last version is free
  abbrev pub IsFreeRow : OperatorView C → ℕ → Type 0
  IsFreeRow view r = (r < shape.rows) × ((m : ℕ) → IsLastIn r m view.version_rows → IsFree m view.log)

  -- a page is free if each version that names it is free. A page is free as a whole, with its end after the part
  abbrev pub IsFreePage : OperatorView C → ℕ → Type 0
  IsFreePage view q = (q < shape.pages) × ((n : ℕ) → Names view n q → IsFree n view.log)

  -- whatever the operator does next, a free version stays free
  abbrev pub FreeStaysFree : Type 0
  FreeStaysFree = (n : ℕ) (newest : Entry) (older : List Entry) → IsFree n older → IsFree n (newest ∷ older)

  -- the versions before a free one are free
  abbrev pub FreeBelow : Type 0
  FreeBelow = (m n : ℕ) (log : List Entry) → m ≤ n → IsFree n log → IsFree m log

  -- each version that was published in a free row is free, not only the last
  abbrev pub FreeRowsAreFree : Type 0
  FreeRowsAreFree = (view : OperatorView C) (r n : ℕ) → IsFreeRow view r → get_elem? view.version_rows n ≡ some r → IsFree n view.log
