-- What the operator's log tells: numbers, scans that clear, rows that are free.
use Rattle.std.proofs.Common.{◌≡◌, ◌≢◌, ◌⊎◌, ℕ, zero, suc, ◌<◌, ◌≤◌, List, [], ◌∷◌, sym, ap, inl, inr, ⊎_elim, arith}
use Rattle.std.proofs.lemmas.Bool.{cases_lt}
use mathlib.Core.Logic.{dite}
use mathlib.Core.Option.{some, some-injective, some-ne-none}
use native.Mathlib.Decide.{ℕ_discrete}
use lib.ListN.{get_elem?}
use Rattle.versions.specs.declared.step.Step.{Step}
use Rattle.versions.specs.declared.step.Step.TheVariants.{Announce, Fetch, Fill, Leave, Peek, Pin, Publish, Scan}
use Rattle.versions.specs.declared.step.Entry.{Entry}
use Rattle.versions.specs.declared.view.OperatorView.{OperatorView}
use Rattle.versions.specs.Layout.{Shape}
use Rattle.versions.specs.Free.{ClearsBy, IsFree, IsFreeRow, IsLastIn, IsReplaced, IsScannedClear, number_after, number_by}

replaced_by : (w m x : ℕ) (older : List Entry) (before : Type 0) (step : Step) → (before → m < number_after older) → ClearsBy w m older step x before → m < number_by step (number_after older)
replaced_by w m x older before (Peek v) h t = h t
replaced_by w m x older before (Announce v) h t = h t
replaced_by w m x older before (Pin v) h t = h t
replaced_by w m x older before (Fetch v p) h t = h t
replaced_by w m x older before (Leave v) h t = h t
replaced_by w m x older before (Fill p y) h t = h t
replaced_by w m x older before (Publish r) h t = let a = h t in omega arith
replaced_by w m x older before (Scan v) h (inl t) = t.1
replaced_by w m x older before (Scan v) h (inr t) = h t

-- a version that was scanned clear was replaced before
pub IsReplaced-scanned_clear : (w m : ℕ) (log : List Entry) → IsScannedClear w m log → IsReplaced m log
IsReplaced-scanned_clear w m [] h = absurd h
IsReplaced-scanned_clear w m (newest ∷ older) h =
    replaced_by w m newest.word older (IsScannedClear w m older) newest.step (IsReplaced-scanned_clear w m older) h

clears_less : (w m n x : ℕ) (older : List Entry) (before before' : Type 0) (step : Step) → m ≤ n → (before → before') → ClearsBy w n older step x before → ClearsBy w m older step x before'
clears_less w m n x older before before' (Peek v) low f t = f t
clears_less w m n x older before before' (Announce v) low f t = f t
clears_less w m n x older before before' (Pin v) low f t = f t
clears_less w m n x older before before' (Fetch v p) low f t = f t
clears_less w m n x older before before' (Leave v) low f t = f t
clears_less w m n x older before before' (Fill p y) low f t = f t
clears_less w m n x older before before' (Publish r) low f t = f t
clears_less w m n x older before before' (Scan v) low f (inl t) = let k = t.1 in inl (t.0, omega arith, ⊎_elim (λ e. inl e) (λ l. inr (omega arith)) t.2)
clears_less w m n x older before before' (Scan v) low f (inr t) = inr (f t)

-- what clears a version clears each earlier one
pub IsScannedClear-earlier : (w m n : ℕ) (log : List Entry) → m ≤ n → IsScannedClear w n log → IsScannedClear w m log
IsScannedClear-earlier w m n [] low h = absurd h
IsScannedClear-earlier w m n (newest ∷ older) low h =
    clears_less w m n newest.word older (IsScannedClear w n older) (IsScannedClear w m older) newest.step low (IsScannedClear-earlier w m n older low) h

clears_on : (w m x : ℕ) (older : List Entry) (before : Type 0) (step : Step) → before → ClearsBy w m older step x before
clears_on w m x older before (Peek v) h = h
clears_on w m x older before (Announce v) h = h
clears_on w m x older before (Pin v) h = h
clears_on w m x older before (Fetch v p) h = h
clears_on w m x older before (Leave v) h = h
clears_on w m x older before (Fill p y) h = h
clears_on w m x older before (Publish r) h = h
clears_on w m x older before (Scan v) h = inr h

replaced_on : (m n : ℕ) (step : Step) → m < n → m < number_by step n
replaced_on m n (Peek v) h = h
replaced_on m n (Announce v) h = h
replaced_on m n (Pin v) h = h
replaced_on m n (Fetch v p) h = h
replaced_on m n (Leave v) h = h
replaced_on m n (Fill p y) h = h
replaced_on m n (Publish r) h = omega arith
replaced_on m n (Scan v) h = h

later_none : (q r l : ℕ) (rows : List ℕ) → ((later : ℕ) → l < later → get_elem? rows later ≡ some r → ⊥) → (later : ℕ) → suc l < later → get_elem? (q ∷ rows) later ≡ some r → ⊥
later_none q r l rows none zero up at = absurd (omega arith)
later_none q r l rows none (suc later) up at = none later (omega arith) at

first_none : (q r : ℕ) (rows : List ℕ) → ((m : ℕ) → get_elem? rows m ≡ some r → ⊥) → (later : ℕ) → 0 < later → get_elem? (q ∷ rows) later ≡ some r → ⊥
first_none q r rows none zero up at = absurd (omega arith)
first_none q r rows none (suc later) up at = none later at

still_none : (q r : ℕ) (rows : List ℕ) → q ≢ r → ((m : ℕ) → get_elem? rows m ≡ some r → ⊥) → (m : ℕ) → get_elem? (q ∷ rows) m ≡ some r → ⊥
still_none q r rows other none zero at = other (some-injective q r at)
still_none q r rows other none (suc m) at = none m at

-- a row has a last version, or none
last_or_none : (rows : List ℕ) (r : ℕ) → ((l : ℕ) × IsLastIn r l rows) ⊎ ((m : ℕ) → get_elem? rows m ≡ some r → ⊥)
last_or_none [] r = inr (λ m at. some-ne-none r (sym at))
last_or_none (q ∷ rows) r = ⊎_elim
    (λ (t : (l : ℕ) × IsLastIn r l rows). inl (suc t.0, (t.1.0, later_none q r t.0 rows t.1.1)))
    (λ none. dite (ℕ_discrete q r) (λ e. inl (0, (ap some e, first_none q r rows none))) (λ other. inr (still_none q r rows other none)))
    (last_or_none rows r)

-- the last version of a row, from a version of it on
pub last_in : (rows : List ℕ) (r m : ℕ) → get_elem? rows m ≡ some r → (l : ℕ) × (m ≤ l) × IsLastIn r l rows
last_in rows r m at = ⊎_elim
    (λ (t : (l : ℕ) × IsLastIn r l rows). ⊎_elim (λ (up : t.0 < m). absurd (t.1.1 m up at)) (λ (low : m ≤ t.0). (t.0, low, t.1)) (cases_lt t.0 m))
    (λ none. absurd (none m at))
    (last_or_none rows r)

module _ {C : Type 0} (shape : Shape C) where
  -- free stays free
  pub IsFree-on : (m : ℕ) (newest : Entry) (older : List Entry) → IsFree shape m older → IsFree shape m (newest ∷ older)
  IsFree-on m newest older h = (
    replaced_on m (number_after older) newest.step h.0,
    λ w low. clears_on w m newest.word older (IsScannedClear w m older) newest.step (h.1 w low),
  )

  -- the versions before a free one are free
  pub IsFree-earlier : (m n : ℕ) (log : List Entry) → m ≤ n → IsFree shape n log → IsFree shape m log
  IsFree-earlier m n log low h = let replaced = h.0 in (omega arith, λ w l. IsScannedClear-earlier w m n log low (h.1 w l))

  -- each version of a free row is free
  pub IsFree-of_row : (view : OperatorView C) (r m : ℕ) → IsFreeRow shape view r → get_elem? view.version_rows m ≡ some r → IsFree shape m view.log
  IsFree-of_row view r m free at = let t = last_in view.version_rows r m at in IsFree-earlier m t.0 view.log t.1 (free.1 t.0 t.2)
