-- What the operator's book tells of free versions and rows, and that it goes on telling it after each of the operator's steps.
use Rattle.std.specs.List.{range_with_len}
use Rattle.std.proofs.Common.{◌-◌, ◌≡◌, ◌≢◌, ℕ, zero, suc, ◌+◌, ◌<◌, ◌≤◌, ◌↔◌, ◌⊎◌, List, Some, [], ◌∷◌, ◌++◌, ap, drop, arith, get_or, get_or-set_other, get_or-set_same, inl, inr, length, length-append, length-set, refl, replicate, set, slice_get, slice_index, sym, ◌∙◌, ⊎_elim}
use Rattle.std.proofs.lemmas.List.{length-replicate}
use mathlib.Core.Logic.{dite}
use native.Mathlib.Decide.{ℕ_discrete}
use mathlib.Core.Option.{some}
use lib.ListN.{get_elem?}
use Rattle.config_image.specs.Image.{Group}
use Rattle.versions.specs.declared.book.Book.{Book}
use Rattle.versions.specs.declared.step.Entry.{Entry}
use Rattle.versions.specs.declared.view.OperatorView.{OperatorView}
use Rattle.versions.specs.Layout.{Shape, pages_named}
use Rattle.versions.specs.View.{after_fill, after_proposal, after_publish, after_scan}
use Rattle.versions.specs.Free.{IsClear, IsFree, IsFreePage, IsFreeRow, IsScannedClear, number_after}
use Rattle.versions.specs.State.{new_operator}
use Rattle.versions.specs.Book.{IsBook, IsBookAtStart, IsCleared, IsLeast, used_by, with_version_in}
use Rattle.versions.specs.Table.{the_shape}
use Rattle.versions.proofs.ListLemmas.{elem_below, elem_end, elem_prefix, elem_snoc, none_at, none_of_none}
use Rattle.versions.proofs.LogLemmas.{IsFree-of_row, IsReplaced-scanned_clear}
use Rattle.versions.proofs.ShapeLemmas.{rows_is, workers_is}
use Rattle.versions.proofs.TraceLemmas.{only}

-- the numbers of pages after a version named these
pub length-used : (number : ℕ) (pages numbers : List ℕ) → length (used_by number pages numbers) ≡ length numbers
length-used number [] numbers = refl
length-used number (page ∷ pages) numbers = length-used number pages (set numbers page number) ∙ length-set numbers page number

-- a page that is among them has the number, and another page has what it had
pub used_at : (number : ℕ) (pages numbers : List ℕ) → ((index q : ℕ) → slice_get pages index ≡ Some q → q < length numbers) → (page : ℕ)
    → (((index : ℕ) × (slice_get pages index ≡ Some page)) × (slice_index (used_by number pages numbers) page ≡ number))
    ⊎ (((index : ℕ) → slice_get pages index ≡ Some page → ⊥) × (slice_index (used_by number pages numbers) page ≡ slice_index numbers page))
used_at number [] numbers below page = inr (none_of_none page, refl)
used_at number (p ∷ pages) numbers below page = ⊎_elim
    (λ t. inl ((suc t.0.0, t.0.1), t.1))
    (λ t. dite (ℕ_discrete page p)
    (λ same. let low = below zero p refl in inl ((zero, ap Some (sym same)), t.1 ∙ (ap (λ (k : ℕ). get_or (set numbers p number) k 0) same ∙ get_or-set_same numbers p number 0 low)))
    (λ other. inr (none_at p page pages (λ e. other (sym e)) t.0, t.1 ∙ get_or-set_other numbers p page number 0 other)))
    (used_at number pages (set numbers p number) (λ index q at. let low = below (suc index) q at in let long = length-set numbers p number in omega arith) page)

pub named_at : (number : ℕ) (pages numbers : List ℕ) → ((index q : ℕ) → slice_get pages index ≡ Some q → q < length numbers) → (page index : ℕ) → slice_get pages index ≡ Some page
    → slice_index (used_by number pages numbers) page ≡ number
named_at number pages numbers below page index at = ⊎_elim (λ t. t.1) (λ t. absurd (t.0 index at)) (used_at number pages numbers below page)

-- one page more
used_next : (number : ℕ) (pages uses : List ℕ) (i : ℕ) → i < length pages → used_by number (drop (suc i) pages) (set uses (get_or pages i 0) number) ≡ used_by number (drop i pages) uses
used_next number [] uses i low = absurd (omega arith)
used_next number (p ∷ pages) uses zero low = refl
used_next number (p ∷ pages) uses (suc i) low = used_next number pages uses i (omega arith)

pub used_more : (number k : ℕ) (pages uses : List ℕ) (i : ℕ) → i < length pages → k ≡ number → used_by number (drop (i + 1) pages) (set uses (get_or pages i 0) k) ≡ used_by number (drop i pages) uses
used_more number k pages uses i low is = ap (λ (j : ℕ). used_by number (drop j pages) (set uses (get_or pages i 0) k)) (let g : i + 1 ≡ suc i = omega arith in g)
    ∙ (ap (λ (j : ℕ). used_by number (drop (suc i) pages) (set uses (get_or pages i 0) j)) is ∙ used_next number pages uses i low)

-- the pages from one on, up to a number of them
pub used_first : (page count : ℕ) (uses : List ℕ) → page < count → used_by 1 (range_with_len (page + 1) (count - (page + 1))) (set uses page 1) ≡ used_by 1 (range_with_len page (count - page)) uses
used_first page count uses low = ap (λ (n : ℕ). used_by 1 (range_with_len page n) uses) (let g : suc (count - (page + 1)) ≡ count - page = omega arith in g)

pub used_none : (page count : ℕ) (uses : List ℕ) → count ≤ page → uses ≡ used_by 1 (range_with_len page (count - page)) uses
used_none page count uses up = ap (λ (n : ℕ). used_by 1 (range_with_len page n) uses) (let g : 0 ≡ count - page = omega arith in g)

used_up : (number : ℕ) (pages uses : List ℕ) (i : ℕ) → length pages ≤ i → used_by number (drop i pages) uses ≡ uses
used_up number [] uses zero up = refl
used_up number [] uses (suc i) up = refl
used_up number (p ∷ pages) uses zero up = absurd (omega arith)
used_up number (p ∷ pages) uses (suc i) up = used_up number pages uses i (omega arith)

-- the book after all pages were counted
pub counted_version : {A : Type 0} → (r i : ℕ) (pages : List ℕ) (before after : Book A) → after.number ≡ before.number + 1 → after.last ≡ set before.last r (before.number + 2)
    → after.cleared ≡ before.cleared → after.free ≡ before.free → length pages ≤ i → used_by (before.number + 2) (drop i pages) after.last_use ≡ used_by (before.number + 2) pages before.last_use
    → after ≡ with_version_in r pages before
counted_version {A} r i pages before after number last cleared free up uses = λ j. let book : Book A = record {
  number = number j;
  last = last j;
  last_use = (sym (used_up (before.number + 2) pages after.last_use i up) ∙ uses) j;
  cleared = cleared j;
  free = free j;
} in book

module _ {C : Type 0} {A : Type 0} (shape : Shape C) (view : OperatorView C) (book : Book A) (h : IsBook shape view book) where
  pub free_below : (l : ℕ) → 0 < shape.workers → IsLeast book.cleared l → (m : ℕ) → IsFree shape m view.log ↔ (m < l)
  free_below l some_worker least m = (
    (λ f. let t = least.1 in let long = h.cleared_length in let low : t.0 < shape.workers = omega arith in let g = (h.cleared t.0 m low).0 (f.1 t.0 low) in omega arith),
    λ lt. let all : (w : ℕ) → w < shape.workers → IsScannedClear w m view.log = λ w low. let long = h.cleared_length in let g = least.0 w (omega arith) in (h.cleared w m low).1 (omega arith) in
        (IsReplaced-scanned_clear 0 m view.log (all 0 some_worker), all),
  )

  pub row_is_free : (l r : ℕ) → 0 < shape.workers → IsLeast book.cleared l → r < shape.rows → slice_index book.last r ≤ l → IsFreeRow shape view r
  row_is_free l r some_worker least low up = (low, λ m at. (free_below l some_worker least m).1 (let t = h.below_last r m at.0 in omega arith))

  pub free_row_is : (l r : ℕ) → 0 < shape.workers → IsLeast book.cleared l → IsFreeRow shape view r → slice_index book.last r ≤ l
  free_row_is l r some_worker least f = go (slice_index book.last r) refl
    where
      go : (k : ℕ) → slice_index book.last r ≡ k → k ≤ l
      go zero e = omega arith
      go (suc m) e = let t = (free_below l some_worker least m).0 (IsFree-of_row shape view r m f (h.last_there r m e)) in omega arith

  pub IsBook-filled : (begin p x : ℕ) → IsBook shape (after_fill begin p x view) book
  IsBook-filled begin p x = record {
    number = h.number;
    last_length = h.last_length;
    cleared_length = h.cleared_length;
    cleared = h.cleared;
    below_last = h.below_last;
    last_there = h.last_there;
    last_use_length = h.last_use_length;
    below_use = h.below_use;
    use_there = h.use_there;
    free = h.free;
  }

  pub IsBook-proposed : (config : C) → IsBook shape (after_proposal config view) book
  IsBook-proposed config = record {
    number = h.number;
    last_length = h.last_length;
    cleared_length = h.cleared_length;
    cleared = h.cleared;
    below_last = h.below_last;
    last_there = h.last_there;
    last_use_length = h.last_use_length;
    below_use = h.below_use;
    use_there = h.use_there;
    free = h.free;
  }

  -- free pages, as free rows
  pub page_is_free : (page : ℕ) → 0 < shape.workers → page < shape.pages → slice_index book.last_use page ≤ book.free → IsFreePage shape view page
  page_is_free page some_worker low up = (low, λ m names. (free_below book.free some_worker h.free m).1 (let t = h.below_use m page names in omega arith))

  pub free_page_is : (page : ℕ) → 0 < shape.workers → IsFreePage shape view page → slice_index book.last_use page ≤ book.free
  free_page_is page some_worker f = go (slice_index book.last_use page) refl
    where
      go : (k : ℕ) → slice_index book.last_use page ≡ k → k ≤ book.free
      go zero e = omega arith
      go (suc m) e = let t = (free_below book.free some_worker h.free m).0 (f.1 m (h.use_there m page e)) in omega arith

  pub IsBook-published : (r x : ℕ) (pages : List ℕ) → r < shape.rows → length view.version_rows ≡ suc (number_after view.log) → length view.version_pages ≡ suc (number_after view.log)
      → ((index page : ℕ) → slice_get pages index ≡ Some page → page < shape.pages) → IsBook shape (after_publish r x pages view) (with_version_in r pages book)
  IsBook-published r x pages low laid paged below = let n = h.number in let long = h.last_length in let wide = h.last_use_length in
      let within : (index page : ℕ) → slice_get pages index ≡ Some page → page < length book.last_use = λ index page at. let small = below index page at in omega arith in record {
        number = omega arith;
        last_length = length-set book.last r (book.number + 2) ∙ h.last_length;
        cleared_length = h.cleared_length;
        cleared = h.cleared;
        below_last = λ q m at. dite (ℕ_discrete q r)
            (λ e. let here : get_or (set book.last r (book.number + 2)) q 0 ≡ book.number + 2 = ap (λ (k : ℕ). get_or (set book.last r (book.number + 2)) k 0) e ∙ get_or-set_same book.last r (book.number + 2) 0 (omega arith) in
            let near = elem_below (view.version_rows ++ r ∷ []) m q at in let more = length-append view.version_rows (r ∷ []) in omega arith)
            (λ ne. let here : get_or (set book.last r (book.number + 2)) q 0 ≡ get_or book.last q 0 = get_or-set_other book.last r q (book.number + 2) 0 ne in
            ⊎_elim (λ was. let t = h.below_last q m was in omega arith) (λ t. absurd (ne (sym t.1))) (elem_snoc view.version_rows r q m at));
        free = h.free;
        last_use_length = length-used (book.number + 2) pages book.last_use ∙ h.last_use_length;
        below_use = λ m page names. ⊎_elim
            (λ was. let t = h.below_use m page (names.0, was, names.2) in let near = elem_below view.version_pages m names.0 was in
            ⊎_elim (λ new. let e = new.1 in omega arith) (λ old. let e = old.1 in omega arith) (used_at (book.number + 2) pages book.last_use within page))
            (λ last. let m_is = last.0 in let e = named_at (book.number + 2) pages book.last_use within page names.2.0 (ap (λ l. slice_get l names.2.0) last.1 ∙ names.2.1) in omega arith)
            (elem_snoc view.version_pages pages names.0 m names.1);
        use_there = λ m page e. ⊎_elim
            (λ new. let is = new.1 in (pages, elem_end view.version_pages pages m (omega arith), new.0))
            (λ old. let was = h.use_there m page (sym old.1 ∙ e) in (was.0, elem_prefix view.version_pages (pages ∷ []) m was.0 was.1, was.2))
            (used_at (book.number + 2) pages book.last_use within page);
        last_there = λ q m e. dite (ℕ_discrete q r)
            (λ same. let here : get_or (set book.last r (book.number + 2)) q 0 ≡ book.number + 2 = ap (λ (k : ℕ). get_or (set book.last r (book.number + 2)) k 0) same ∙ get_or-set_same book.last r (book.number + 2) 0 (omega arith) in
            elem_end view.version_rows r m (omega arith) ∙ ap some (sym same))
            (λ ne. elem_prefix view.version_rows (r ∷ []) m q (h.last_there q m (sym (get_or-set_other book.last r q (book.number + 2) 0 ne) ∙ e)));
      }

  -- a scan of worker w
  pub IsBook-scanned : (w x : ℕ) (log : List Entry) (book' : Book A) → IsCleared w x book book' → IsBook shape (after_scan w x log view) book'
  IsBook-scanned w x log book' c = record {
    number = c.number ∙ h.number;
    last_length = ap length c.last ∙ h.last_length;
    cleared_length = c.cleared_length ∙ h.cleared_length;
    cleared = λ v m low. dite (ℕ_discrete v w)
        (λ e. let at : slice_index book'.cleared v ≡ slice_index book'.cleared w = ap (slice_index book'.cleared) e in let was : slice_index book.cleared v ≡ slice_index book.cleared w = ap (slice_index book.cleared) e in
        let t = c.here m in let o = h.cleared v m low in let n = h.number in (
          (λ s. ⊎_elim (λ now. let l = now.1 in let f = t.1 (inl (omega arith, now.2)) in omega arith) (λ old. let f = t.1 (inr (let g = o.0 old in omega arith)) in omega arith) s),
          λ lt. ⊎_elim (λ g. let l = g.0 in inl (omega arith, omega arith, g.1)) (λ l. inr (o.1 (omega arith))) (t.0 (omega arith)),
        ))
        (λ ne. let at = c.others v ne in let o = h.cleared v m low in (
          (λ s. ⊎_elim (λ now. let e = now.0 in absurd (ne (omega arith))) (λ old. let g = o.0 old in omega arith) s),
          λ lt. inr (o.1 (omega arith)),
        ));
    below_last = λ r m at. let t = h.below_last r m at in let e = ap (λ l. slice_index l r) c.last in omega arith;
    last_there = λ r m e. h.last_there r m (ap (λ l. slice_index l r) (sym c.last) ∙ e);
    last_use_length = ap length c.last_use ∙ h.last_use_length;
    below_use = λ m page names. let t = h.below_use m page names in let e = ap (λ l. slice_index l page) c.last_use in omega arith;
    use_there = λ m page e. h.use_there m page (ap (λ l. slice_index l page) (sym c.last_use) ∙ e);
    free = c.free h.free;
  }

zeros_at : (n r : ℕ) → ◌≡◌ {A = ℕ} (get_or (replicate n 0) r 0) 0
zeros_at zero r = refl
zeros_at (suc n) zero = refl
zeros_at (suc n) (suc r) = zeros_at n r

-- the row of version 0, and no other, has a version
first_last : (n r : ℕ) → 0 < n → (◌≡◌ {A = ℕ} (get_or (set (replicate n 0) 0 1) 0 0) 1) × (r ≢ 0 → ◌≡◌ {A = ℕ} (get_or (set (replicate n 0) 0 1) r 0) 0)
first_last n r some_row = (
  get_or-set_same {A = ℕ} (replicate n 0) 0 1 0 (omega (arith, length-replicate {A = ℕ} n 0)),
  λ ne. get_or-set_other {A = ℕ} (replicate n 0) 0 r 1 0 ne ∙ zeros_at n r,
)

-- where one of the numbers grows none is below what was the least
pub grown_not_below : (numbers : List ℕ) (w below least : ℕ) → w < length numbers → slice_index numbers w < below → IsLeast numbers least
    → (v : ℕ) → v < length (set numbers w below) → least ≤ slice_index (set numbers w below) v
grown_not_below numbers w below least low more h v inside = let same_length = length-set numbers w below in
    dite (ℕ_discrete v w)
    (λ e. let here = ap (λ (k : ℕ). get_or (set numbers w below) k 0) e ∙ get_or-set_same numbers w below 0 low in let was = h.0 w low in omega arith)
    (λ ne. let there = get_or-set_other numbers w v below 0 ne in let was = h.0 v (omega arith) in omega arith)

-- one of the numbers grows that is not the least
pub least_kept : (numbers : List ℕ) (w below least : ℕ) → w < length numbers → slice_index numbers w < below → slice_index numbers w ≢ least → IsLeast numbers least → IsLeast (set numbers w below) least
least_kept numbers w below least low more other h = let at = h.1 in let same_length = length-set numbers w below in (
  grown_not_below numbers w below least low more h,
  (
    at.0,
    omega arith,
    get_or-set_other numbers w at.0 below 0 (λ e. other (ap (λ (k : ℕ). get_or numbers k 0) (sym e) ∙ at.2)) ∙ at.2,
  ),
)

-- a scan shows more versions clear of worker w than before
pub IsCleared-grown : {A : Type 0} → (w x below free : ℕ) (book : Book A) → w < length book.cleared → slice_index book.cleared w < below → ((m : ℕ) → (m < below) ↔ ((m < book.number) × IsClear m x))
    → (IsLeast book.cleared book.free → IsLeast (set book.cleared w below) free) → IsCleared w x book (record book { cleared = set book.cleared w below; free = free })
IsCleared-grown w x below free book low more shown least = let here = get_or-set_same book.cleared w below 0 low in record {
  number = refl;
  last = refl;
  last_use = refl;
  cleared_length = length-set book.cleared w below;
  others = λ v ne. get_or-set_other book.cleared w v below 0 ne;
  here = λ m. ((λ l. inl ((shown m).0 (omega arith))), ⊎_elim (λ t. let l = (shown m).1 t in omega arith) (λ l. omega arith));
  free = least;
}

-- the book of an operator that made no step
pub IsBook-opened : {A : Type 0} → (config : List Group) (stored : List ℕ) (book : Book A) → ((index page : ℕ) → slice_get (pages_named the_shape stored 0) index ≡ Some page → page < the_shape.pages)
    → IsBookAtStart (pages_named the_shape stored 0) book → IsBook the_shape (new_operator the_shape config stored) book
IsBook-opened config stored book below h = let some_row : 0 < the_shape.rows = omega (arith, rows_is) in let named = pages_named the_shape stored 0 in let none : List ℕ = replicate the_shape.pages 0 in
    let within : (index page : ℕ) → slice_get named index ≡ Some page → page < length none = λ index page at. let small = below index page at in omega (arith, length-replicate {A = ℕ} the_shape.pages 0) in record {
      number = h.number;
      last_length = ap length h.last ∙ (length-set (replicate the_shape.rows 0) 0 1 ∙ length-replicate {A = ℕ} the_shape.rows 0);
      cleared_length = ap length h.cleared ∙ length-replicate {A = ℕ} the_shape.workers 0;
      free = (
        λ w low. omega (arith, h.free),
        (0, omega (arith, ap length h.cleared, length-replicate {A = ℕ} the_shape.workers 0, workers_is), ap (λ l. slice_index l 0) h.cleared ∙ zeros_at the_shape.workers 0 ∙ sym h.free),
      );
      last_use_length = ap length h.last_use ∙ (length-used 1 named none ∙ length-replicate {A = ℕ} the_shape.pages 0);
      below_use = λ m page names. let t = only named names.0 m names.1 in let m_is = t.0 in let here : slice_get named names.2.0 ≡ Some page = ap (λ l. slice_get l names.2.0) (sym t.1) ∙ names.2.1 in
          let e = ap (λ l. slice_index l page) h.last_use ∙ named_at 1 named none within page names.2.0 here in omega arith;
      use_there = λ m page e. let is = ap (λ l. slice_index l page) h.last_use in ⊎_elim
          (λ new. let one = new.1 in let m_is : m ≡ 0 = omega arith in (named, ap (get_elem? (named ∷ [])) m_is, new.0))
          (λ old. let zero_there = zeros_at the_shape.pages page in let same = old.1 in absurd (omega arith))
          (used_at 1 named none within page);
      cleared = λ w m low. ((λ none. absurd none), λ lt. let e : slice_index book.cleared w ≡ 0 = ap (λ l. slice_index l w) h.cleared ∙ zeros_at the_shape.workers w in absurd (omega arith));
      below_last = λ r m at. let t = only 0 r m at in let m_is = t.0 in
          let e : slice_index book.last r ≡ 1 = ap (slice_index book.last) t.1 ∙ (ap (λ l. slice_index l 0) h.last ∙ (first_last the_shape.rows 0 some_row).0) in omega arith;
      last_there = λ r m e. dite (ℕ_discrete r 0)
          (λ zero_is. let one : slice_index book.last r ≡ 1 = ap (slice_index book.last) zero_is ∙ (ap (λ l. slice_index l 0) h.last ∙ (first_last the_shape.rows 0 some_row).0) in
          let m_is : m ≡ 0 = omega arith in ap (get_elem? (0 ∷ [])) m_is ∙ ap some (sym zero_is))
          (λ other. let none : slice_index book.last r ≡ 0 = ap (λ l. slice_index l r) h.last ∙ (first_last the_shape.rows r some_row).1 other in absurd (omega arith));
    }
