-- Scans of all workers, and what a publication is made of.
use Rattle.std.proofs.Common.{Contains, IfNone, ◌-◌, ◌≡◌, ◌⊎◌, ℕ, ◌+◌, ◌*◌, ◌<◌, List, [], ◌∷◌, ◌++◌, None, Option, Some, ap, arith, drop, inl, inr, length, refl, replicate, slice_get, slice_index, subst, sym, take, ◌≤◌, ◌∙◌, ⊎_elim}
use mathlib.Core.Logic.{dite}
use mathlib.Core.Option.{some}
use lib.ListN.{get_elem?}
use native.Mathlib.Decide.{dec_le, ℕ_discrete}
use Rattle.config_image.specs.declared.TheConstants.{PAGE_WORDS, ROW_WORDS}
use Rattle.config_image.specs.Image.{Group, image, programs_begin}
use Rattle.config_image.specs.Pooled.{form_word, page_entries, parts, pooled_row}
use Rattle.config_image.proofs.PooledLemmas.{parts_stand}
use Rattle.std.proofs.lemmas.List.{length-take}
use Rattle.std.proofs.lemmas.Option.{slice_get_within}
use Rattle.versions.specs.declared.layout.TheConstants.{ROWS}
use Rattle.versions.specs.declared.step.Step.TheVariants.{Fill, Publish}
use Rattle.versions.specs.declared.step.Step.{Step}
use Rattle.versions.specs.declared.step.Entry.{Entry}
use Rattle.versions.specs.Layout.{HoldsForm, current_word, page_begin, pages_named, row_begin, rows_begin}
use Rattle.versions.specs.Step.{entry}
use Rattle.versions.specs.Free.{IsFree, IsFreePage, IsReplaced, IsScannedClear, number_after}
use Rattle.versions.specs.Table.{the_shape}
use Rattle.config_image.specs.Walk.{words_of_programs}
use Rattle.versions.proofs.ListLemmas as size
use Rattle.versions.proofs.ShapeLemmas.{pages_is}
use Rattle.read_section.proofs.FilledLemmas.{place_in_pool, place_in_rows, place_stored}
use Rattle.retire.specs.body.Filling.{Fills, FillsVersion, IsFillOfPart}
use Rattle.read_section.specs.Operator.{HasFreeRow, IsCurrent, OperatorValue, published_from, scanned}
use Rattle.retire.specs.Publish.{HasPages, HoldsBack, IsBusy, IsFillOf, IsFormFill, IsLeastFreeRow, LooksForRow, Publishes, Scanned, ScansEach, SharesEqualPrograms, StandsInRow, TellLogs, after_scans, pages_of_each}
use Rattle.read_section.specs.View.{TellsLog}
use Rattle.retire.proofs.FillingLemmas.{steps_on, steps_then}
use Rattle.retire.proofs.RowLemmas.{contains_later, worker_inside}
use Rattle.retire.proofs.AllocationLemmas.{current_held, own_held}

-- n workers were scanned so far
abbrev pub ScansSome : OperatorValue → OperatorValue → ℕ → Type 0
ScansSome before after n = (scans : List Scanned) × (length scans ≡ n) × TellLogs scans before × (after ≡ after_scans scans before)

pub one_scan_more : (before now after : OperatorValue) (w x : ℕ) (log : List Entry) → ScansSome before now w → TellsLog the_shape now.view w x log → after ≡ scanned w x log now → ScansSome before after (w + 1)
one_scan_more before now after w x log (scans, many, tell, is) told e = (
  record { word = x; log = log } ∷ scans,
  omega arith,
  (tell, subst (λ (k : ℕ). TellsLog the_shape (after_scans scans before).view k x log) (sym many) (subst (λ (o : OperatorValue). TellsLog the_shape o.view w x log) is told)),
  e ∙ ((λ i. scanned w x log (is i)) ∙ ap (λ (k : ℕ). scanned k x log (after_scans scans before)) (sym many)),
)

number_after-scans : (scans : List Scanned) (o : OperatorValue) → number_after (after_scans scans o).view.log ≡ number_after o.view.log
number_after-scans [] o = refl
number_after-scans (last ∷ earlier) o = number_after-scans earlier o

-- each worker that was scanned is clear of a replaced version, or a word holds it back
clear_or_held_back : (m : ℕ) (o : OperatorValue) → m < number_after o.view.log → (scans : List Scanned) → ((w : ℕ) → w < length scans → IsScannedClear w m (after_scans scans o).view.log) ⊎ HoldsBack m scans
clear_or_held_back m o low [] = inl (λ w l. absurd (omega arith))
clear_or_held_back m o low (last ∷ earlier) = ⊎_elim
    (λ clear. let replaced = number_after-scans earlier o in let x = last.word in dite (dec_le 1 x)
    (λ some. dite (dec_le x (m + 1))
    (λ small. inr (last, (0, omega arith, refl), some, small))
    (λ big. inl (λ w l. dite (ℕ_discrete w (length earlier)) (λ e. inl (omega arith, omega arith, inr (omega arith))) (λ ne. inr (clear w (omega arith))))))
    (λ none. inl (λ w l. dite (ℕ_discrete w (length earlier)) (λ e. inl (omega arith, omega arith, inl (omega arith))) (λ ne. inr (clear w (omega arith))))))
    (λ (t : HoldsBack m earlier). inr (t.0, contains_later last t.0 earlier t.1, t.2, t.3))
    (clear_or_held_back m o low earlier)

pub held_back : (before after : OperatorValue) (each : ScansEach before after) (m : ℕ) → IsReplaced m after.view.log → (IsFree the_shape m after.view.log → ⊥) → HoldsBack m each.scans
held_back before after each m replaced not_free =
    let same : number_after after.view.log ≡ number_after before.view.log = ap (λ (o : OperatorValue). number_after o.view.log) each.no_more ∙ number_after-scans each.scans before in
    let many = each.each in ⊎_elim
    (λ clear. absurd (not_free (replaced, λ w l. let low = worker_inside w l in subst (λ (o : OperatorValue). IsScannedClear w m o.view.log) (sym each.no_more) (clear w (omega arith)))))
    (λ t. t) (clear_or_held_back m before (omega arith) each.scans)

pub looked_keeps : {A : Type 0} → (f : OperatorValue → A) → ((w x : ℕ) (log : List Entry) (o : OperatorValue) → f (scanned w x log o) ≡ f o) → (scans : List Scanned) (o : OperatorValue) → f (after_scans scans o) ≡ f o
looked_keeps f keeps [] o = refl
looked_keeps f keeps (last ∷ earlier) o = keeps (length earlier) last.word last.log (after_scans earlier o) ∙ looked_keeps f keeps earlier o

found_keeps : {A : Type 0} → (f : OperatorValue → A) → ((w x : ℕ) (log : List Entry) (o : OperatorValue) → f (scanned w x log o) ≡ f o) → (before found : OperatorValue) → LooksForRow before found → f found ≡ f before
found_keeps f keeps before found looked = ⊎_elim (λ t. ap f t.1) (λ t. ap f t.1.no_more ∙ looked_keeps f keeps t.1.scans before) looked

pub number_found : (before found : OperatorValue) → LooksForRow before found → number_after found.view.log ≡ number_after before.view.log
number_found = found_keeps (λ (o : OperatorValue). number_after o.view.log) (λ w x log o. refl)

short_take : {A : Type 0} → (n : ℕ) (xs : List A) → length (take n xs) ≤ n
short_take n xs = omega (arith, length-take n xs)

-- the place of a fill
place_filled : Entry → ℕ
place_filled e = by e.step
  where
    by : Step → ℕ
    by (Fill place x) = place
    by _ = 0

-- a place of a row is none of a page
apart : (r place page k : ℕ) → r < ROWS → place < ROW_WORDS → row_begin the_shape r + place ≡ page_begin the_shape page + k → ⊥
apart r place page k low small same = let inside = place_stored r place low small in omega (arith, place_in_rows r place, place_in_pool page k, ap (λ (n : ℕ). n - rows_begin the_shape) same)

-- a place of a page is of no other page
same_page : (page k other j : ℕ) → k < PAGE_WORDS → j < PAGE_WORDS → page_begin the_shape page + k ≡ page_begin the_shape other + j → page ≡ other
same_page page k other j small short same = size.same_row PAGE_WORDS page other k j small short (omega (arith, place_in_pool page k, place_in_pool other j, ap (λ (n : ℕ). n - rows_begin the_shape) same))

module _ (found full : OperatorValue) (r : ℕ) (config : List Group) (pages : List ℕ) (h : FillsVersion found full r config pages) (low : r < ROWS) where
  row_short : length (pooled_row config pages) ≤ ROW_WORDS
  unfolding pooled_row
  row_short = short_take {A = ℕ} ROW_WORDS (form_word config ∷ (drop 1 (take (programs_begin config) (image config)) ++ page_entries (programs_begin config) (parts config) pages ++ replicate ROW_WORDS 0))

  -- all fills are of the pooled form
  form_steps : Fills found full (IsFormFill found.view r config pages)
  form_steps = steps_then (IsFormFill found.view r config pages) found h.middle full
      (steps_on (IsFillOfPart found pages (parts config)) (IsFormFill found.view r config pages)
      (λ e t. inr (record { index = t.index; page = t.page; k = t.k; x = t.x; part = t.part; page_is = t.page_is; free = t.free; part_is = t.part_is; word_is = t.word_is; fill = t.fill }))
      found h.middle h.parts_filled.fills.steps)
      (steps_on (IsFillOf h.middle.view.stored r (pooled_row config pages)) (IsFormFill found.view r config pages)
      (λ e t. inl (record { place = t.place; inside = t.inside; differs = λ same. t.differs (h.parts_filled.fills.rows r t.place low (omega (arith, t.inside, row_short)) ∙ same); fill = t.fill }))
      h.middle full h.row_filled.steps)

  page_low : (index page : ℕ) → slice_get pages index ≡ Some page → page < the_shape.pages
  page_low index page at = omega (arith, h.low index page at, pages_is)

  short_part : (index k x : ℕ) (part : List ℕ) → slice_get (parts config) index ≡ Some part → slice_get part k ≡ Some x → k < PAGE_WORDS
  short_part index k x part cut word = let fit = ((parts_stand config).sized index part cut).1 in omega (arith, slice_get_within part k x word)

  pub full_holds : HoldsForm the_shape 0 full.view.stored r config pages
  unfolding the_shape
  full_holds = record {
    counted = h.are.counted;
    below = page_low;
    fits = λ index part cut. ((parts_stand config).sized index part cut).1;
    row = λ i low. ap (λ (n : ℕ). slice_index full.view.stored n) (let g : 0 + (r * ROW_WORDS + i) ≡ r * ROW_WORDS + i = omega arith in g) ∙ h.row_held i low;
    standing = λ index page k x part at cut word.
        ap (λ (n : ℕ). slice_index full.view.stored n) (let g : 0 + (ROWS * ROW_WORDS + (page * PAGE_WORDS + k)) ≡ ROWS * ROW_WORDS + (page * PAGE_WORDS + k) = omega arith in g)
        ∙ h.row_filled.pool page k (page_low index page at) (short_part index k x part cut word) ∙ h.parts_filled.standing index page k x part at cut word;
  }

  pub version_number : number_after full.view.log ≡ number_after found.view.log
  version_number = form_steps.number

  module _ (before : OperatorValue) (looked : LooksForRow before found) (named : pages_named the_shape full.view.stored r ≡ pages) where
    -- what scans keep
    found_same : {A : Type 0} → (f : OperatorValue → A) → ((w x : ℕ) (log : List Entry) (o : OperatorValue) → f (scanned w x log o) ≡ f o) → f found ≡ f before
    found_same f keeps = found_keeps f keeps before found looked

    same_number : number_after found.view.log ≡ number_after before.view.log
    same_number = number_found before found looked

    earlier_is : IsCurrent before.view h.chosen.earlier
    earlier_is = (h.chosen.current.0, sym (found_same (λ (o : OperatorValue). o.view.published) (λ w x log o. refl)) ∙ h.chosen.current.1)

    current_named : get_elem? before.view.version_pages (number_after before.view.log) ≡ some h.chosen.current_pages
    current_named = ap (get_elem? before.view.version_pages) (sym same_number)
        ∙ (ap (λ l. get_elem? l (number_after found.view.log)) (sym (found_same (λ (o : OperatorValue). o.view.version_pages) (λ w x log o. refl))) ∙ h.chosen.stands.named)

    rows_are : (published_from r config full).view.version_rows ≡ before.view.version_rows ++ r ∷ []
    rows_are = ap (λ l. l ++ r ∷ []) (form_steps.version_rows ∙ found_same (λ (o : OperatorValue). o.view.version_rows) (λ w x log o. refl))

    pages_are : (published_from r config full).view.version_pages ≡ before.view.version_pages ++ pages ∷ []
    pages_are = ap (λ l. full.view.version_pages ++ l ∷ []) named ∙ ap (λ l. l ++ pages ∷ []) (form_steps.version_pages ∙ found_same (λ (o : OperatorValue). o.view.version_pages) (λ w x log o. refl))

    publication : IsLeastFreeRow found r → Publishes before (published_from r config full) config
    publication least = let number = form_steps.number ∙ same_number in record {
      found = found;
      looked = looked;
      taken = r;
      least = least;
      pages = pages;
      counted = h.are.counted;
      earlier = h.chosen.earlier;
      current = earlier_is;
      current_pages = h.chosen.current_pages;
      named = current_named;
      takes = h.chosen.takes;
      fills = form_steps.fills;
      filled = form_steps.filled;
      log = λ i. entry (Publish r) (current_word the_shape (number i + 1) r) ∷ form_steps.log i;
      published = ap (λ l. l ++ config ∷ []) (form_steps.published ∙ found_same (λ (o : OperatorValue). o.view.published) (λ w x log o. refl));
      version_rows = rows_are;
      version_pages = pages_are;
      proposal = refl;
      scanned_logs = form_steps.scanned_logs;
      table = form_steps.table ∙ found_same (λ (o : OperatorValue). o.table) (λ w x log o. refl);
      reported = form_steps.reported ∙ found_same (λ (o : OperatorValue). o.reported) (λ w x log o. refl);
    }

    pub publishes : (after : OperatorValue) → IsLeastFreeRow found r → after ≡ published_from r config full → Publishes before after config
    publishes after least e = subst (λ (o : OperatorValue). Publishes before o config) (sym e) (publication least)

    shared : (index : ℕ) (words own : List ℕ) → slice_get (words_of_programs config) index ≡ Some words → slice_get (pages_of_each (words_of_programs config) pages) index ≡ Some own
        → Contains (words_of_programs h.chosen.earlier) words → HasPages (words_of_programs h.chosen.earlier) h.chosen.current_pages words own
    shared index words own at there contained = ⊎_elim (λ has. has) (λ new. absurd (new.0 contained)) (h.chosen.takes.each index words own at there)

    pub shares : (after : OperatorValue) → IsLeastFreeRow found r → after ≡ published_from r config full → SharesEqualPrograms before after config
    unfolding the_shape place_filled publication
    shares after least e = subst (λ (o : OperatorValue). SharesEqualPrograms before o config) (sym e) (record {
      publication = publication least;
      shared = shared;
      unfilled = λ index i page words own at there contained here k x small filled.
          own_held found.view (words_of_programs h.chosen.earlier) h.chosen.current_pages words own (current_held found.view h.chosen.earlier h.chosen.current_pages h.chosen.stands) (shared index words own at there contained)
          i page here (filled_was_free k x page small (form_steps.filled _ filled));
    })
      where
        filled_was_free : (k x page : ℕ) → k < PAGE_WORDS → IsFormFill found.view r config pages (entry (Fill (page_begin the_shape page + k) x) x) → IsFreePage the_shape found.view page
        filled_was_free k x page small (inl row) = absurd (apart r row.place page k low (omega (arith, row.inside, row_short)) (ap place_filled (sym row.fill)))
        filled_was_free k x page small (inr part) =
            subst (λ (q : ℕ). IsFreePage the_shape found.view q) (same_page part.page part.k page k (short_part part.index part.k part.x part.part part.part_is part.word_is) small (ap place_filled (sym part.fill))) part.free

    pub stands_in_row : (after : OperatorValue) → after ≡ published_from r config full → StandsInRow before after config
    stands_in_row after e = subst (λ (o : OperatorValue). StandsInRow before o config) (sym e) record {
      found = found;
      looked = looked;
      taken = r;
      pages = pages;
      version_rows = rows_are;
      version_pages = pages_are;
      holds = full_holds;
      others = λ q i ne in_rows inside. h.row_filled.others q i ne in_rows inside
          ∙ (h.parts_filled.fills.rows q i in_rows inside ∙ ap (λ l. slice_index l (q * ROW_WORDS + i)) (found_same (λ (o : OperatorValue). o.view.stored) (λ w x log o. refl)));
      other_pages = λ q k none under inside. h.row_filled.pool q k under inside ∙ (h.parts_filled.fills.others q k none under inside
          ∙ ap (λ l. slice_index l (ROWS * ROW_WORDS + (q * PAGE_WORDS + k))) (found_same (λ (o : OperatorValue). o.view.stored) (λ w x log o. refl)));
    }

pub busy : (before after : OperatorValue) → (HasFreeRow before.view → ⊥) → ScansEach before after → (HasFreeRow after.view → ⊥) → IsBusy before after
busy before after none_before each none = record { none_before = none_before; scanned = each; none = none; held_back = held_back before after each }

pub none_then : {A : Type 0} → (o : Option A) (P Q : Type 0) → (P → Q) → IfNone o P → IfNone o Q
none_then None P Q f h = f h
none_then (Some x) P Q f h = h
