-- What the operator keeps stays true after each of its steps.
use Rattle.std.proofs.Common.{◌↔◌, ◌≡◌, ℕ, zero, suc, ◌+◌, ◌-◌, ◌*◌, ◌<◌, ◌≤◌, List, Some, [], ◌∷◌, ap, arith, get_or, get_or-set_other, get_or-set_same, length, length-append, length-set, refl, replicate, set, slice_get, slice_index, subst, suc-mul, sym, ◌∙◌, ⊎_elim}
use Rattle.std.proofs.lemmas.Bool.{cases_lt}
use Rattle.std.proofs.lemmas.List.{length-replicate}
use Rattle.std.proofs.lemmas.Option.{get_or_from_slice_get}
use mathlib.Core.Option.{some}
use lib.ListN.{get_elem?}
use mathlib.Core.Logic.{dite}
use native.Mathlib.Decide.{ℕ_discrete}
use Rattle.config_image.specs.Image.{Group, image}
use Rattle.config_image.specs.Pooled.{parts, pooled_row}
use Rattle.config_image.proofs.PooledLemmas.{row_tells_with_room}
use Rattle.config_image.proofs.LengthLemmas.{within_charge}
use Rattle.member_group.specs.Charge.{charge_of}
use Rattle.versions.specs.declared.step.Entry.{Entry}
use Rattle.config_image.specs.declared.TheConstants.{PAGE_LIMIT, PAGE_WORDS, ROW_WORDS}
use Rattle.versions.specs.declared.layout.TheConstants.{LAST_NUMBER, ROWS, ROWS_BEGIN, WORKERS}
use Rattle.versions.specs.declared.view.OperatorView.{OperatorView}
use Rattle.versions.specs.declared.step.Step.TheVariants.{Fill, Publish, Scan}
use Rattle.versions.specs.Layout.{HoldsForm, all_rows, current_word, page_begin, pages_named, row_begin, rows_begin}
use Rattle.versions.specs.Step.{entry}
use Rattle.versions.specs.View.{after_fill, after_proposal, after_scan}
use Rattle.versions.specs.Free.{IsFree, IsFreePage, IsFreeRow, number_after}
use Rattle.versions.specs.State.{new_operator}
use Rattle.versions.specs.Book.{IsBook, IsBookAtStart, IsCleared, with_version_in}
use Rattle.versions.specs.World.{first_pages, opened_with, opening_stored}
use Rattle.versions.specs.Pooled.{HasRoom}
use Rattle.versions.specs.Table.{the_shape}
use Rattle.versions.proofs.ListLemmas.{elem_end, elem_snoc, row_inside, same_row}
use Rattle.versions.proofs.Coherence.{holds-set}
use Rattle.versions.proofs.LogLemmas.{IsFree-on, IsFree-of_row}
use Rattle.versions.proofs.BookLemmas.{IsBook-filled, IsBook-proposed, IsBook-published, IsBook-scanned}
use Rattle.versions.proofs.OpenedLemmas.{HoldsForm-opened, all_rows_is, are_first_pages, few, named_first, other_row_word, row_word_is}
use Rattle.versions.proofs.ShapeLemmas.{page_words_is, row_words_is, rows_is, stored_is, workers_is}
use Rattle.versions.proofs.ReuseLemmas.{IsFreeBefore-published}
use Rattle.versions.proofs.TraceLemmas.{Coheres-start, only}
use Rattle.versions.proofs.WorldLemmas.{IsBook-start, IsOpening-stored, has_room, light}
use Rattle.versions.specs.declared.book.Book.{Book}
use Rattle.read_section.specs.Layout.{IsPublishable, IsZeroFrom}
use Rattle.read_section.specs.body.OperatorKept.{KeepsZeros}
use Rattle.read_section.specs.Operator.{IsReport, StandsIn, put_in}
use Rattle.read_section.specs.body.OperatorKept.{IsKeptBy}
use Rattle.read_section.proofs.FilledLemmas.{place_in_pool, place_in_rows, place_stored, rows_stored}

abbrev pub View : Type 0
View = OperatorView (List Group)

-- the words of a row, in numbers
IsZeroFrom-shape : (view : View) (r from : ℕ) → ((i : ℕ) → from ≤ i → i < the_shape.row_words → slice_index view.stored (r * the_shape.row_words + i) ≡ 0) → IsZeroFrom view r from
unfolding the_shape
IsZeroFrom-shape view r from h = h

-- behind its end a list gives 0
past : (xs : List ℕ) (i : ℕ) → length xs ≤ i → slice_index xs i ≡ 0
past [] i up = refl
past (x ∷ xs) zero up = absurd (omega arith)
past (x ∷ xs) (suc i) up = past xs i (omega arith)

module _ {A : Type 0} (view : View) (config : List Group) (book : Book A) (reported : ℕ) (zeros words pages : List ℕ) (h : IsKeptBy view config book reported zeros words pages) where
  zeros_stand-filled : (row place word from : ℕ) → row < ROWS → place < ROW_WORDS → KeepsZeros place word (slice_index zeros row) from
      → (q : ℕ) → q < ROWS → IsZeroFrom (after_fill (rows_begin the_shape) (row_begin the_shape row + place) word view) q (slice_index (set zeros row from) q)
  zeros_stand-filled row place word from low small keeps q low' i up inside =
      let p = (row_begin the_shape row + place) - rows_begin the_shape in let p_is = place_in_rows row place in let inside_all = rows_stored (row * ROW_WORDS + place) (place_stored row place low small) in let all = h.stored_length in let many = h.zeros_length in
      dite (ℕ_discrete q row)
      (λ same. let from_is : get_or (set zeros row from) q 0 ≡ from = ap (λ (k : ℕ). get_or (set zeros row from) k 0) same ∙ get_or-set_same zeros row from 0 (omega arith) in
      let same_begin : q * ROW_WORDS ≡ row * ROW_WORDS = ap (λ (k : ℕ). k * ROW_WORDS) same in
      let kept = keeps i (omega arith) in dite (ℕ_discrete i place)
      (λ here. ap (λ (k : ℕ). get_or (set view.stored p word) k 0) (let g : q * ROW_WORDS + i ≡ p = omega arith in g) ∙ (get_or-set_same view.stored p word 0 (omega arith) ∙ kept.0 here))
      (λ ne. get_or-set_other view.stored p (q * ROW_WORDS + i) word 0 (λ e. ne (omega arith))
      ∙ (ap (λ (k : ℕ). get_or view.stored (k + i) 0) same_begin ∙ h.zeros_stand row low i (kept.1 ne) inside)))
      (λ other. let from_is : get_or (set zeros row from) q 0 ≡ get_or zeros q 0 = get_or-set_other zeros row q from 0 other in
      get_or-set_other view.stored p (q * ROW_WORDS + i) word 0 (λ e. other (same_row ROW_WORDS q row i place inside small (omega arith))) ∙ h.zeros_stand q low' i (omega arith) inside)

  -- each version is in a row
  pub row_below : (r m : ℕ) → get_elem? view.version_rows m ≡ some r → r < ROWS
  row_below r m at = ⊎_elim (λ low. low)
      (λ (up : ROWS ≤ r). let below = h.steps_told.below_last r m at in let none = past book.last r (let long = h.steps_told.last_length in omega (arith, rows_is)) in absurd (omega arith))
      (cases_lt r ROWS)

  -- the current version is not replaced, so it is not free
  current_not_free : IsFree the_shape (number_after view.log) view.log → ⊥
  current_not_free free = let replaced = free.0 in omega arith

  -- it stands beside each place that may be filled
  stands-filled : (row place word : ℕ) → IsFreeRow the_shape view row → place < ROW_WORDS → StandsIn (after_fill (rows_begin the_shape) (row_begin the_shape row + place) word view) config pages
  stands-filled row place word free small =
      let p = (row_begin the_shape row + place) - rows_begin the_shape in let p_is : p ≡ row * the_shape.row_words + place = omega arith in let low : place < the_shape.row_words = omega (arith, row_words_is) in
      let inside = row_inside row the_shape.rows place the_shape.row_words free.0 low in record {
        row = h.stands.row;
        in_row = h.stands.in_row;
        holds = holds-set the_shape 0 view.stored p word h.stands.row config pages
            (λ j l e. current_not_free (IsFree-of_row the_shape view row (number_after view.log) free (h.stands.in_row ∙ ap some (same_row the_shape.row_words h.stands.row row j place l low (omega arith)))))
            (λ index page k at l e. omega arith) h.stands.holds;
        named = h.stands.named;
      }

  stands-filled_page : (page place word : ℕ) → IsFreePage the_shape view page → place < PAGE_WORDS → StandsIn (after_fill (rows_begin the_shape) (page_begin the_shape page + place) word view) config pages
  stands-filled_page page place word free small =
      let p = (page_begin the_shape page + place) - rows_begin the_shape in let p_is : p ≡ all_rows the_shape + (page * the_shape.page_words + place) = omega arith in let low : place < the_shape.page_words = omega (arith, page_words_is) in
      let row_low : h.stands.row < the_shape.rows = omega (arith, rows_is, row_below h.stands.row (number_after view.log) h.stands.in_row) in record {
        row = h.stands.row;
        in_row = h.stands.in_row;
        holds = holds-set the_shape 0 view.stored p word h.stands.row config pages
            (λ j l e. let in_rows = row_inside h.stands.row the_shape.rows j the_shape.row_words row_low l in omega arith)
            (λ index other k at l e. current_not_free (free.1 (number_after view.log) (pages, h.stands.named, (index, at ∙ ap Some (same_row the_shape.page_words other page k place l low (omega arith))))))
            h.stands.holds;
        named = h.stands.named;
      }

  pub IsKeptBy-filled : (row place word from k : ℕ) → IsFreeRow the_shape view row → row < ROWS → place < ROW_WORDS → KeepsZeros place word (slice_index zeros row) from → from ≤ ROW_WORDS → k ≡ ROWS_BEGIN + row * ROW_WORDS + place
      → IsKeptBy (after_fill (rows_begin the_shape) (row_begin the_shape row + place) word view) config book reported (set zeros row from) (set words k word) pages
  IsKeptBy-filled row place word from k free low small keeps fits k_is = let p_is = place_in_rows row place in let here = place_stored row place low small in let off : k ≡ ROWS_BEGIN + (row * ROW_WORDS + place) = omega arith in record {
    steps_told = IsBook-filled the_shape view book h.steps_told (rows_begin the_shape) (row_begin the_shape row + place) word;
    number_limited = h.number_limited;
    published_length = h.published_length;
    version_rows_length = h.version_rows_length;
    version_pages_length = h.version_pages_length;
    stored_length = length-set view.stored ((row_begin the_shape row + place) - rows_begin the_shape) word ∙ h.stored_length;
    words_length = length-set words k word ∙ h.words_length;
    words_same = λ i inside. let long = h.words_length in let all = h.stored_length in let within = rows_stored (row * ROW_WORDS + place) here in ap (λ (l : List ℕ). get_or l (ROWS_BEGIN + i) 0) (ap (λ (j : ℕ). set words j word) off) ∙ (dite (ℕ_discrete i (row * ROW_WORDS + place))
        (λ same. ap (λ (j : ℕ). get_or (set words (ROWS_BEGIN + (row * ROW_WORDS + place)) word) (ROWS_BEGIN + j) 0) same
        ∙ (get_or-set_same words (ROWS_BEGIN + (row * ROW_WORDS + place)) word 0 (omega arith)
        ∙ sym (ap (λ (j : ℕ). get_or (set view.stored ((row_begin the_shape row + place) - rows_begin the_shape) word) j 0) (same ∙ sym p_is) ∙ get_or-set_same view.stored ((row_begin the_shape row + place) - rows_begin the_shape) word 0 (omega arith))))
        (λ other. get_or-set_other words (ROWS_BEGIN + (row * ROW_WORDS + place)) (ROWS_BEGIN + i) word 0 (λ e. other (omega arith))
        ∙ (h.words_same i inside ∙ sym (get_or-set_other view.stored ((row_begin the_shape row + place) - rows_begin the_shape) i word 0 (λ e. other (omega arith))))));
    reused = λ m later r up at again. IsFree-on the_shape m (entry (Fill (row_begin the_shape row + place) word) word) view.log (h.reused m later r up at again);
    few_pages = h.few_pages;
    current = h.current;
    stands = stands-filled row place word free small;
    reported_free = h.reported_free;
    zeros_length = length-set zeros row from ∙ h.zeros_length;
    zeros_limited = λ q low'. dite (ℕ_discrete q row)
        (λ same. let many = h.zeros_length in let here : get_or (set zeros row from) q 0 ≡ from = ap (λ (k : ℕ). get_or (set zeros row from) k 0) same ∙ get_or-set_same zeros row from 0 (omega arith) in
        omega arith)
        (λ other. let here : get_or (set zeros row from) q 0 ≡ get_or zeros q 0 = get_or-set_other zeros row q from 0 other in let was = h.zeros_limited q low' in omega arith);
    zeros_stand = zeros_stand-filled row place word from low small keeps;
  }

  pub IsKeptBy-filled_page : (page place word : ℕ) → IsFreePage the_shape view page → place < PAGE_WORDS
      → IsKeptBy (after_fill (rows_begin the_shape) (page_begin the_shape page + place) word view) config book reported zeros words pages
  IsKeptBy-filled_page page place word free small = let p_is = place_in_pool page place in record {
    steps_told = IsBook-filled the_shape view book h.steps_told (rows_begin the_shape) (page_begin the_shape page + place) word;
    number_limited = h.number_limited;
    published_length = h.published_length;
    version_rows_length = h.version_rows_length;
    version_pages_length = h.version_pages_length;
    stored_length = length-set view.stored ((page_begin the_shape page + place) - rows_begin the_shape) word ∙ h.stored_length;
    words_length = h.words_length;
    words_same = λ i inside. h.words_same i inside ∙ sym (get_or-set_other view.stored ((page_begin the_shape page + place) - rows_begin the_shape) i word 0 (λ e. omega arith));
    reused = λ m later r up at again. IsFree-on the_shape m (entry (Fill (page_begin the_shape page + place) word) word) view.log (h.reused m later r up at again);
    few_pages = h.few_pages;
    current = h.current;
    stands = stands-filled_page page place word free small;
    reported_free = λ m l. IsFree-on the_shape m (entry (Fill (page_begin the_shape page + place) word) word) view.log (h.reported_free m l);
    zeros_length = h.zeros_length;
    zeros_limited = h.zeros_limited;
    zeros_stand = λ q low' i up inside. let here = place_stored q i low' inside in
        get_or-set_other view.stored ((page_begin the_shape page + place) - rows_begin the_shape) (q * ROW_WORDS + i) word 0 (λ e. omega arith) ∙ h.zeros_stand q low' i up inside;
  }

  pub IsKeptBy-published : (row : ℕ) (new : List Group) (new_pages : List ℕ) (book' : Book A) → IsFreeRow the_shape view row → book.number < LAST_NUMBER → HoldsForm the_shape 0 view.stored row new new_pages
      → pages_named the_shape view.stored row ≡ new_pages → length new_pages ≤ PAGE_LIMIT → book' ≡ with_version_in row new_pages book → IsKeptBy (put_in row new view) new book' reported zeros words new_pages
  IsKeptBy-published row new new_pages book' free number holds names few is = let named = pages_named the_shape view.stored row in
      subst (λ (b : Book A). IsKeptBy (put_in row new view) new b reported zeros words new_pages) (sym is) record {
        steps_told = subst (λ l. IsBook the_shape (put_in row new view) (with_version_in row l book)) names
            (IsBook-published the_shape (after_proposal new view) book (IsBook-proposed the_shape view book h.steps_told new) row (current_word the_shape (number_after view.log + 1) row) named free.0 h.version_rows_length h.version_pages_length
            (λ index page at. holds.below index page (ap (λ l. slice_get l index) (sym names) ∙ at)));
        number_limited = omega arith;
        published_length = omega (arith, length-append view.published (new ∷ []), h.published_length);
        version_rows_length = omega (arith, length-append view.version_rows (row ∷ []), h.version_rows_length);
        version_pages_length = omega (arith, length-append view.version_pages (named ∷ []), h.version_pages_length);
        stored_length = h.stored_length;
        words_length = h.words_length;
        words_same = h.words_same;
        reused = IsFreeBefore-published the_shape (after_proposal new view) row (current_word the_shape (number_after view.log + 1) row) named h.reused free;
        few_pages = λ n pages at. ⊎_elim (h.few_pages n pages) (λ last. omega (arith, ap length (sym last.1 ∙ names))) (elem_snoc view.version_pages named pages n at);
        current = (view.published, refl);
        stands = record {
          row = row;
          in_row = elem_end view.version_rows row (suc (number_after view.log)) h.version_rows_length;
          holds = holds;
          named = elem_end view.version_pages named (suc (number_after view.log)) h.version_pages_length ∙ ap some names;
        };
        reported_free = λ m l. IsFree-on the_shape m (entry (Publish row) (current_word the_shape (number_after view.log + 1) row)) view.log (h.reported_free m l);
        zeros_length = h.zeros_length;
        zeros_limited = h.zeros_limited;
        zeros_stand = h.zeros_stand;
      }

  -- another place is known from which on the words of a row are 0
  pub IsKeptBy-zeros : (row from : ℕ) → row < ROWS → from ≤ ROW_WORDS → IsZeroFrom view row from → IsKeptBy view config book reported (set zeros row from) words pages
  IsKeptBy-zeros row from low within zero_from = record {
    steps_told = h.steps_told;
    number_limited = h.number_limited;
    published_length = h.published_length;
    version_rows_length = h.version_rows_length;
    version_pages_length = h.version_pages_length;
    stored_length = h.stored_length;
    words_length = h.words_length;
    words_same = h.words_same;
    reused = h.reused;
    few_pages = h.few_pages;
    current = h.current;
    stands = h.stands;
    reported_free = h.reported_free;
    zeros_length = length-set zeros row from ∙ h.zeros_length;
    zeros_limited = λ q low'. dite (ℕ_discrete q row)
        (λ same. omega (arith, there q same))
        (λ other. omega (arith, get_or-set_other zeros row q from 0 other, h.zeros_limited q low'));
    zeros_stand = λ q low'. dite (ℕ_discrete q row)
        (λ same. subst (λ (k : ℕ). IsZeroFrom view q k) (sym (there q same)) (subst (λ (r : ℕ). IsZeroFrom view r from) (sym same) zero_from))
        (λ other. subst (λ (k : ℕ). IsZeroFrom view q k) (sym (get_or-set_other zeros row q from 0 other)) (h.zeros_stand q low'));
  }
    where
      there : (q : ℕ) → q ≡ row → slice_index (set zeros row from) q ≡ from
      there q same = ap (slice_index (set zeros row from)) same ∙ get_or-set_same zeros row from 0 (omega (arith, h.zeros_length))

  pub IsKeptBy-scanned : (w x : ℕ) (log : List Entry) (book' : Book A) → (length book.cleared ≡ WORKERS → IsCleared w x book book') → IsKeptBy (after_scan w x log view) config book' reported zeros words pages
  IsKeptBy-scanned w x log book' cleared = let c = cleared (h.steps_told.cleared_length ∙ workers_is) in record {
    steps_told = IsBook-scanned the_shape view book h.steps_told w x log book' c;
    number_limited = let same = c.number in let low = h.number_limited in omega arith;
    published_length = h.published_length;
    version_rows_length = h.version_rows_length;
    version_pages_length = h.version_pages_length;
    stored_length = h.stored_length;
    words_length = h.words_length;
    words_same = h.words_same;
    reused = λ m later r up at again. IsFree-on the_shape m (entry (Scan (1 + w)) x) view.log (h.reused m later r up at again);
    few_pages = h.few_pages;
    current = h.current;
    stands = record { row = h.stands.row; in_row = h.stands.in_row; holds = h.stands.holds; named = h.stands.named };
    reported_free = λ m l. IsFree-on the_shape m (entry (Scan (1 + w)) x) view.log (h.reported_free m l);
    zeros_length = h.zeros_length;
    zeros_limited = h.zeros_limited;
    zeros_stand = h.zeros_stand;
  }

  module _ (free : ℕ) (tells : (m : ℕ) → IsFree the_shape m view.log ↔ (m < free)) where
    pub reported_below : reported ≤ free
    reported_below = go reported refl
      where
        go : (k : ℕ) → reported ≡ k → k ≤ free
        go zero e = omega arith
        go (suc m) e = let t = (tells m).0 (h.reported_free m (omega arith)) in omega arith

    pub IsReport-now : IsReport view reported reported (free - reported)
    IsReport-now = let low = reported_below in record { from = refl; free = λ m up. ((λ f. let t = (tells m).0 f in omega arith), λ l. (tells m).1 (omega arith)) }

    pub IsKeptBy-reported : IsKeptBy view config book (reported + (free - reported)) zeros words pages
    IsKeptBy-reported = let low = reported_below in record {
      steps_told = h.steps_told;
      number_limited = h.number_limited;
      published_length = h.published_length;
      version_rows_length = h.version_rows_length;
      version_pages_length = h.version_pages_length;
      stored_length = h.stored_length;
      words_length = h.words_length;
      words_same = h.words_same;
      reused = h.reused;
      few_pages = h.few_pages;
      current = h.current;
      stands = h.stands;
      reported_free = λ m l. (tells m).1 (omega arith);
      zeros_length = h.zeros_length;
      zeros_limited = h.zeros_limited;
      zeros_stand = h.zeros_stand;
    }

zeros_everywhere : (n k : ℕ) → get_or {A = ℕ} (replicate n 0) k 0 ≡ 0
zeros_everywhere zero k = refl
zeros_everywhere (suc n) zero = refl
zeros_everywhere (suc n) (suc k) = zeros_everywhere n k

module _ (config : List Group) where
  -- the rows at the start: the configuration's, and zeros
  zeros_at_start : HasRoom config → (zeros : List ℕ) → zeros ≡ length (image config) ∷ replicate (the_shape.rows - 1) 0 → (q : ℕ) → q < the_shape.rows
      → (i : ℕ) → slice_index zeros q ≤ i → i < the_shape.row_words → slice_index (opening_stored config) (q * the_shape.row_words + i) ≡ 0
  zeros_at_start room zeros is zero low i up small =
      let first : slice_index zeros 0 ≡ length (image config) = ap (λ l. slice_index l 0) is in
      let told = row_tells_with_room config (first_pages (length (parts config))) room (are_first_pages config room) in
      ap (λ (k : ℕ). get_or (opening_stored config) k 0) (let g : 0 * the_shape.row_words + i ≡ i = omega arith in g)
      ∙ (row_word_is config room i (omega (arith, row_words_is))
      ∙ get_or_from_slice_get (pooled_row config (first_pages (length (parts config)))) i 0 0 (told.zeros i (omega (arith, told.inside)) (omega (arith, row_words_is))))
  zeros_at_start room zeros is (suc q) low i up small =
      let inside = row_inside (suc q) the_shape.rows i the_shape.row_words low small in
      other_row_word config room (suc q * the_shape.row_words + i) (omega (arith, suc-mul q the_shape.row_words, row_words_is)) (omega (arith, all_rows_is config room))

  pub IsKeptBy-opened : {A : Type 0} → (book : Book A) (zeros words : List ℕ) → IsPublishable config → IsBookAtStart (first_pages (length (parts config))) book → zeros ≡ length (image config) ∷ replicate (the_shape.rows - 1) 0 → words ≡ (opened_with config).words
      → IsKeptBy (new_operator the_shape config (opening_stored config)) config book 0 zeros words (first_pages (length (parts config)))
  IsKeptBy-opened book zeros words publishable start is same =
      let room = has_room config (charge_of config) publishable.0 refl publishable.1 in let opening = IsOpening-stored config room (light config (charge_of config) refl publishable.1) in let first = Coheres-start the_shape config (opening_stored config) opening in record {
        steps_told = IsBook-start config book room start;
        number_limited = let none = start.number in omega arith;
        published_length = refl;
        version_rows_length = refl;
        version_pages_length = refl;
        stored_length = opening.whole;
        words_length = ap length same ∙ (first.words_length ∙ omega (arith, workers_is, stored_is));
        words_same = λ i low. ap (λ (l : List ℕ). get_or l (ROWS_BEGIN + i) 0) same ∙ (ap (λ (k : ℕ). get_or (opened_with config).words k 0) (let g : ROWS_BEGIN + i ≡ (1 + the_shape.workers) + i = omega (arith, workers_is) in g) ∙ first.stored i (rows_stored i low));
        reused = λ m later r up at again. let a = (only 0 r m at).0 in let b = (only 0 r later again).0 in absurd (omega arith);
        few_pages = λ n pages at. omega (arith, ap length ((only (pages_named the_shape (opening_stored config) 0) pages n at).1 ∙ named_first config room), (are_first_pages config room).counted, few config room);
        current = ([], refl);
        stands = record { row = 0; in_row = refl; holds = HoldsForm-opened config room; named = ap some (named_first config room) };
        reported_free = λ m low. absurd (omega arith);
        zeros_length = ap length is ∙ (let n = length-replicate {A = ℕ} (the_shape.rows - 1) 0 in omega (arith, rows_is));
        zeros_limited = λ q low. limited q;
        zeros_stand = λ q low. IsZeroFrom-shape (new_operator the_shape config (opening_stored config)) q (slice_index zeros q) (zeros_at_start room zeros is q (omega (arith, rows_is)));
      }
    where
      limited : (q : ℕ) → slice_index zeros q ≤ ROW_WORDS
      limited q = subst (λ l. slice_index l q ≤ ROW_WORDS) (sym is) (go q)
        where
          go : (q : ℕ) → slice_index (length (image config) ∷ replicate (the_shape.rows - 1) 0) q ≤ ROW_WORDS
          go zero = let within = within_charge config publishable.0 in let charge = publishable.1 in omega arith
          go (suc q) = let e = zeros_everywhere (the_shape.rows - 1) q in omega arith
