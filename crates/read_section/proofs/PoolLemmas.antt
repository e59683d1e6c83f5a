-- The pool never runs short: free pages are left where a row is free.
use Rattle.std.proofs.Common.{◌≡◌, ◌≢◌, ◌⊎◌, ℕ, zero, suc, ◌+◌, ◌-◌, ◌*◌, ◌<◌, ◌≤◌, List, Some, [], ◌∷◌, ◌++◌, ap, arith, inl, inr, length, length-append, refl, slice_get, slice_index, slice_index_or, suc-mul, sym, ◌∙◌, ⊎_elim}
use Rattle.std.proofs.lemmas.Bool.{cases_lt}
use mathlib.Core.Logic.{dite}
use native.Mathlib.Decide.{ℕ_discrete}
use mathlib.Core.Option.{some}
use lib.ListN.{get_elem?}
use Rattle.config_image.specs.declared.TheConstants.{PAGE_LIMIT}
use Rattle.config_image.specs.Image.{Group}
use Rattle.versions.specs.declared.book.Book.{Book}
use Rattle.versions.specs.declared.layout.TheConstants.{PAGES, ROWS}
use Rattle.versions.specs.declared.view.OperatorView.{OperatorView}
use Rattle.versions.specs.Free.{IsFree, IsFreeRow, Names}
use Rattle.versions.specs.Table.{the_shape}
use Rattle.versions.proofs.BookLemmas.{free_below, free_row_is}
use Rattle.versions.proofs.ListLemmas.{elem_below, elem_there, get_elem_or, has_or_not}
use Rattle.versions.proofs.ShapeLemmas.{pages_is, rows_is, workers_is}
use Rattle.read_section.specs.body.OperatorKept.{IsKeptBy}
use Rattle.read_section.proofs.KeeperLemmas.{row_below}
use Rattle.read_section.specs.Operator.{NeverShort}

-- a list without the element at a place
without : ℕ → List ℕ → List ℕ
without j [] = []
without zero (x ∷ xs) = xs
without (suc j) (x ∷ xs) = x ∷ without j xs

length-without : (xs : List ℕ) (j x : ℕ) → slice_get xs j ≡ Some x → suc (length (without j xs)) ≡ length xs
unfolding without
length-without [] j x at = absurd (Rattle.versions.proofs.ListLemmas.none_of_none x j at)
length-without (y ∷ ys) zero x at = refl
length-without (y ∷ ys) (suc j) x at = ap suc (length-without ys j x at)

some_same : (x y : ℕ) → Some x ≡ Some y → x ≡ y
some_same x y e = cc

-- another number is still there
still_there : (xs : List ℕ) (j x i y : ℕ) → slice_get xs j ≡ Some x → slice_get xs i ≡ Some y → y ≢ x → (k : ℕ) × (slice_get (without j xs) k ≡ Some y)
unfolding without
still_there [] j x i y at there other = absurd (Rattle.versions.proofs.ListLemmas.none_of_none y i there)
still_there (z ∷ zs) zero x zero y at there other = absurd (other (some_same y x (sym there ∙ at)))
still_there (z ∷ zs) zero x (suc i) y at there other = (i, there)
still_there (z ∷ zs) (suc j) x zero y at there other = (zero, there)
still_there (z ∷ zs) (suc j) x (suc i) y at there other = let t = still_there zs j x i y at there other in (suc t.0, t.1)

abbrev IsMissing : List ℕ → ℕ → ℕ → Type 0
IsMissing xs n q = (q < n) × ((i : ℕ) → slice_get xs i ≡ Some q → ⊥)

-- a list with fewer than n elements misses a number below n
missing : (n : ℕ) (xs : List ℕ) → length xs < n → (q : ℕ) × IsMissing xs n q
missing zero xs few = absurd (omega arith)
missing (suc n) xs few = ⊎_elim
    (λ (t : (j : ℕ) × (slice_get xs j ≡ Some n)).
    let less = length-without xs t.0 n t.1 in let found = missing n (without t.0 xs) (omega arith) in let low = found.1.0 in
    (found.0, (omega arith, λ i at. let still = still_there xs t.0 n i found.0 t.1 at (λ e. omega arith) in found.1.1 still.0 still.1)))
    (λ none. (n, (omega arith, none)))
    (has_or_not xs n)

-- what a front or a back has, both have together
in_front : (xs ys : List ℕ) (i q : ℕ) → slice_get xs i ≡ Some q → (k : ℕ) × (slice_get (xs ++ ys) k ≡ Some q)
in_front [] ys i q at = absurd (Rattle.versions.proofs.ListLemmas.none_of_none q i at)
in_front (x ∷ xs) ys zero q at = (zero, at)
in_front (x ∷ xs) ys (suc i) q at = let t = in_front xs ys i q at in (suc t.0, t.1)

in_back : (xs ys : List ℕ) (i q : ℕ) → slice_get ys i ≡ Some q → (k : ℕ) × (slice_get (xs ++ ys) k ≡ Some q)
in_back [] ys i q at = (i, at)
in_back (x ∷ xs) ys i q at = let t = in_back xs ys i q at in (suc t.0, t.1)

module _ {A : Type 0} (view : OperatorView (List Group)) (config : List Group) (book : Book A) (reported : ℕ) (zeros words pages : List ℕ) (h : IsKeptBy view config book reported zeros words pages) where
  some_worker : 0 < the_shape.workers
  some_worker = omega (arith, workers_is)

  -- what the last version of a row names, where it is not free
  abbrev held_of : (last : ℕ) → (book.free < last) ⊎ (last ≤ book.free) → List ℕ
  held_of last (inl held) = slice_index_or view.version_pages (last - 1) []
  held_of last (inr free) = []

  abbrev held : ℕ → List ℕ
  held r = held_of (slice_index book.last r) (cases_lt book.free (slice_index book.last r))

  -- the pages that the rows below r name
  abbrev all_held : ℕ → List ℕ
  all_held zero = []
  all_held (suc r) = held r ++ all_held r

  few_held : (r : ℕ) → length (held r) ≤ PAGE_LIMIT
  few_held r = go (slice_index book.last r) refl (cases_lt book.free (slice_index book.last r))
    where
      go : (last : ℕ) → slice_index book.last r ≡ last → (d : (book.free < last) ⊎ (last ≤ book.free)) → length (held_of last d) ≤ PAGE_LIMIT
      go zero e (inl up) = absurd (omega arith)
      go (suc m) e (inl up) =
          let in_row = h.steps_told.last_there r m e in let below = elem_below view.version_rows m r in_row in let rows = h.version_rows_length in let pages = h.version_pages_length in
          let there = elem_there view.version_pages m (omega arith) in let few = h.few_pages m there.0 there.1 in
          let is : slice_index_or view.version_pages (suc m - 1) [] ≡ there.0 = ap (λ (k : ℕ). slice_index_or view.version_pages k []) (let g : suc m - 1 ≡ m = omega arith in g) ∙ get_elem_or view.version_pages m there.0 [] there.1 in
          omega (arith, ap length is)
      go last e (inr free) = omega arith

  none_held : (r : ℕ) → IsFreeRow the_shape view r → length (held r) ≡ 0
  none_held r free = let low = free_row_is the_shape view book h.steps_told book.free r some_worker h.steps_told.free free in go (slice_index book.last r) low (cases_lt book.free (slice_index book.last r))
    where
      go : (last : ℕ) → last ≤ book.free → (d : (book.free < last) ⊎ (last ≤ book.free)) → length (held_of last d) ≡ 0
      go last low (inl up) = absurd (omega arith)
      go last low (inr free) = refl

  bound : (r : ℕ) → length (all_held r) ≤ r * PAGE_LIMIT
  bound zero = omega arith
  bound (suc r) = let before = bound r in let few = few_held r in omega (arith, length-append (held r) (all_held r), suc-mul r PAGE_LIMIT)

  -- with a free row among them there is room for a version more
  bound_free : (free r : ℕ) → IsFreeRow the_shape view free → free < r → length (all_held r) + PAGE_LIMIT ≤ r * PAGE_LIMIT
  bound_free free zero is low = absurd (omega arith)
  bound_free free (suc r) is low = dite (ℕ_discrete free r)
      (λ e. let none = ap (λ (k : ℕ). length (held k)) (sym e) ∙ none_held free is in let before = bound r in omega (arith, length-append (held r) (all_held r), suc-mul r PAGE_LIMIT))
      (λ other. let before = bound_free free r is (omega arith) in let few = few_held r in omega (arith, length-append (held r) (all_held r), suc-mul r PAGE_LIMIT))

  -- a page that a version names which is not free is among them
  named_is_held : (n q r : ℕ) → Names view n q → (n < book.free → ⊥) → get_elem? view.version_rows n ≡ some r → (k : ℕ) × (slice_get (held r) k ≡ Some q)
  named_is_held n q r (pages, at, (index, there)) not_free in_row = go (slice_index book.last r) refl (cases_lt book.free (slice_index book.last r))
    where
      is_last : (m : ℕ) → slice_index book.last r ≡ suc m → m ≡ n
      is_last m e = let below = h.steps_told.below_last r n in_row in ⊎_elim
          (λ (up : n < m). let free = (free_below the_shape view book h.steps_told book.free some_worker h.steps_told.free n).0 (h.reused n m r up in_row (h.steps_told.last_there r m e)) in absurd (not_free free))
          (λ (low : m ≤ n). omega arith)
          (cases_lt n m)

      go : (last : ℕ) → slice_index book.last r ≡ last → (d : (book.free < last) ⊎ (last ≤ book.free)) → (k : ℕ) × (slice_get (held_of last d) k ≡ Some q)
      go zero e d = let below = h.steps_told.below_last r n in_row in absurd (omega arith)
      go (suc m) e (inl up) = (index, ap (λ l. slice_get l index) (ap (λ (k : ℕ). slice_index_or view.version_pages k []) (let same = is_last m e in let g : suc m - 1 ≡ n = omega arith in g) ∙ get_elem_or view.version_pages n pages [] at) ∙ there)
      go (suc m) e (inr low) = let same = is_last m e in absurd (not_free (omega arith))

  held_is_among : (q r rows k : ℕ) → r < rows → slice_get (held r) k ≡ Some q → (j : ℕ) × (slice_get (all_held rows) j ≡ Some q)
  held_is_among q r zero k low at = absurd (omega arith)
  held_is_among q r (suc rows) k low at = dite (ℕ_discrete r rows)
      (λ e. in_front (held rows) (all_held rows) k q (ap (λ (j : ℕ). slice_get (held j) k) (sym e) ∙ at))
      (λ other. let t = held_is_among q r rows k (omega arith) at in in_back (held rows) (all_held rows) t.0 q t.1)

  pub never_short : NeverShort view
  never_short (row, free) taken few =
      let low : row < ROWS = omega (arith, free.0, rows_is) in let most = bound_free row ROWS free low in
      let found = missing PAGES (taken ++ all_held ROWS) (omega (arith, length-append taken (all_held ROWS))) in (
        found.0,
        (omega (arith, found.1.0, pages_is), λ n names. version_free n names found.1.1),
        λ index at. let t = in_front taken (all_held ROWS) index found.0 at in found.1.1 t.0 t.1,
      )
    where
      version_free : (n : ℕ) {q : ℕ} → Names view n q → ((i : ℕ) → slice_get (taken ++ all_held ROWS) i ≡ Some q → ⊥) → IsFree the_shape n view.log
      version_free n {q} names none = ⊎_elim
          (λ (below : n < book.free). (free_below the_shape view book h.steps_told book.free some_worker h.steps_told.free n).1 below)
          (λ (up : book.free ≤ n).
          let paged = elem_below view.version_pages n names.0 names.1 in let pages = h.version_pages_length in let rows = h.version_rows_length in
          let in_row = elem_there view.version_rows n (omega arith) in let there = named_is_held n q in_row.0 names (λ below. omega arith) in_row.1 in
          let below = h.steps_told.below_last in_row.0 n in_row.1 in
          let among = held_is_among q in_row.0 ROWS there.0 (row_below _ _ _ _ _ _ _ h in_row.0 n in_row.1) there.1 in let all = in_back taken (all_held ROWS) among.0 q among.1 in absurd (none all.0 all.1))
          (cases_lt n book.free)
