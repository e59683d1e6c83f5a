-- Pages: which are chosen, and what fills by the words of programs leave in them.
use Rattle.std.proofs.Common.{◌≡◌, ◌∙◌, ◌≢◌, ◌⊎◌, ℕ, ◌+◌, ◌-◌, ◌*◌, ◌/◌, ◌%◌, ◌<◌, ◌≤◌, List, Some, [], ◌∷◌, ◌++◌, ap, append_assoc, arith, drop, get_or, inl, inr, length, length-append, length-drop, refl, slice_get, slice_index, subst, suc, sym, take, zero, ⊎_elim}
use Rattle.std.specs.List.{flat_map}
use Rattle.std.proofs.lemmas.Bool.{cases_lt}
use Rattle.std.proofs.lemmas.List.{get_or-drop, get_or-take, length-take, length-take-le, append-nil, take-append-drop}
use Rattle.std.proofs.lemmas.List.Concat.{flat_map-cons}
use Rattle.std.proofs.lemmas.Option.{get_or_from_slice_get, slice_get-get_or, slice_get_within}
use mathlib.Core.Logic.{dite}
use native.Mathlib.Decide.{ℕ_discrete}
use Rattle.config_image.specs.declared.TheConstants.{PAGE_WORDS, ROW_WORDS}
use Rattle.config_image.specs.Pooled.{pages_for, parts_from, parts_of}
use Rattle.config_image.proofs.PartsLemmas.{length-parts_of, parts_of-cut}
use Rattle.versions.specs.declared.layout.TheConstants.{PAGES, ROWS}
use Rattle.versions.specs.declared.step.Entry.{Entry}
use Rattle.versions.specs.Free.{IsFreePage}
use Rattle.versions.specs.Layout.{page_begin, stored_words}
use Rattle.versions.specs.Table.{the_shape}
use Rattle.versions.proofs.MirrorLemmas.{none_some, some_same}
use Rattle.versions.proofs.OpenedLemmas.{part_word, slice_get-front_or_back}
use Rattle.versions.proofs.WorldLemmas.{slice_get-front}
use Rattle.read_section.specs.Operator.{OperatorValue, filled_page}
use Rattle.read_section.proofs.FilledLemmas.{page_word_filled, page_word_kept, row_word_kept}
use Rattle.retire.specs.body.Filling.{AreFreeBelow, AreFreePages, AreReady, BeginsIn, EachIsReady, Fills, FillsNew, FillsPages, FillsParts, IsFillOfPart, IsReady, PartsAre, StandsThere}
use Rattle.retire.specs.body.Allocation.{AllFree, IsCounted, NoneFree}
use Rattle.retire.proofs.SharingLemmas.{further_on, in_front, slice_get-back}
use Rattle.retire.proofs.FillingLemmas.{no_steps, one_step_more, steps_on, steps_then}

-- ---- places in lists

-- the last element of a list, or one before it
pub snoc_at : (xs : List ℕ) (x y : ℕ) (i : ℕ) → slice_get (xs ++ x ∷ []) i ≡ Some y → ((i < length xs) × (slice_get xs i ≡ Some y)) ⊎ ((i ≡ length xs) × (y ≡ x))
snoc_at [] x y zero at = inr (refl, some_same y x (sym at))
snoc_at [] x y (suc i) at = absurd (none_some y at)
snoc_at (z ∷ xs) x y zero at = inl (omega arith, at)
snoc_at (z ∷ xs) x y (suc i) at = ⊎_elim (λ t. inl (omega (arith, t.0), t.1)) (λ t. inr (omega (arith, t.0), t.1)) (snoc_at xs x y i at)

-- ---- the words of a program, part by part

word_part : (n : ℕ) (words : List ℕ) (j : ℕ) → j < length words → length words ≤ n * PAGE_WORDS
    → (part : List ℕ) × (slice_get (parts_from n words) (j / PAGE_WORDS) ≡ Some part) × (slice_get part (j % PAGE_WORDS) ≡ Some (get_or words j 0))
word_part zero words j inside fits = absurd (omega arith)
word_part (suc n) words j inside fits = by (word_part n) (cases_lt j PAGE_WORDS)
  where
    by : ((ws : List ℕ) (i : ℕ) → i < length ws → length ws ≤ n * PAGE_WORDS → (part : List ℕ) × (slice_get (parts_from n ws) (i / PAGE_WORDS) ≡ Some part) × (slice_get part (i % PAGE_WORDS) ≡ Some (get_or ws i 0)))
        → (j < PAGE_WORDS) ⊎ (PAGE_WORDS ≤ j) → (part : List ℕ) × (slice_get (parts_from (suc n) words) (j / PAGE_WORDS) ≡ Some part) × (slice_get part (j % PAGE_WORDS) ≡ Some (get_or words j 0))
    by rec (inl low) = (
      take PAGE_WORDS words,
      ap (slice_get (parts_from (suc n) words)) (let g : j / PAGE_WORDS ≡ 0 = omega arith in g),
      ap (slice_get (take PAGE_WORDS words)) (let g : j % PAGE_WORDS ≡ j = omega arith in g) ∙ (slice_get-get_or (take PAGE_WORDS words) j 0 (omega (arith, length-take PAGE_WORDS words)) ∙ ap Some (get_or-take PAGE_WORDS words j 0 low)),
    )
    by rec (inr up) = let t = rec (drop PAGE_WORDS words) (j - PAGE_WORDS) (omega (arith, length-drop PAGE_WORDS words)) (omega (arith, length-drop PAGE_WORDS words)) in (
      t.0,
      ap (slice_get (parts_from (suc n) words)) (let g : j / PAGE_WORDS ≡ suc ((j - PAGE_WORDS) / PAGE_WORDS) = omega arith in g) ∙ t.1,
      ap (slice_get t.0) (let g : j % PAGE_WORDS ≡ (j - PAGE_WORDS) % PAGE_WORDS = omega arith in g)
          ∙ (t.2 ∙ ap Some (get_or-drop PAGE_WORDS words (j - PAGE_WORDS) 0 ∙ ap (λ (k : ℕ). get_or words k 0) (let g : PAGE_WORDS + (j - PAGE_WORDS) ≡ j = omega arith in g))),
    )

-- ---- one program

module _ (before : OperatorValue) (pages words : List ℕ) (free : AreFreePages before pages) (counted : length pages ≡ pages_for (length words)) where
  abbrev cut : List (List ℕ)
  cut = parts_of words

  pub no_word_yet : FillsPages before before pages cut × BeginsIn before pages words 0
  no_word_yet = (record { steps = no_steps (IsFillOfPart before pages cut) before; rows = λ q i low small. refl; others = λ q k none low small. refl }, λ j low. absurd (omega arith))

  pub page_there : (n : ℕ) → n < length words → slice_get pages (n / PAGE_WORDS) ≡ Some (slice_index pages (n / PAGE_WORDS))
  page_there n low = slice_get-get_or pages (n / PAGE_WORDS) 0 (omega (arith, counted))

  pub page_free : (now : OperatorValue) (n : ℕ) → n < length words → FillsPages before now pages cut → IsFreePage the_shape now.view (slice_index pages (n / PAGE_WORDS))
  page_free now n low h = h.steps.free_pages (slice_index pages (n / PAGE_WORDS)) (free.free (n / PAGE_WORDS) (slice_index pages (n / PAGE_WORDS)) (page_there n low))

  pub one_word_more : (now after : OperatorValue) (n page place : ℕ) → n < length words → page ≡ slice_index pages (n / PAGE_WORDS) → place ≡ n % PAGE_WORDS → length now.view.stored ≡ stored_words the_shape
      → after ≡ filled_page page place (slice_index words n) now → FillsPages before now pages cut × BeginsIn now pages words n → FillsPages before after pages cut × BeginsIn after pages words (n + 1)
  one_word_more now after n page place low page_is place_is whole e (h, begins) =
      let here : slice_get pages (n / PAGE_WORDS) ≡ Some page = page_there n low ∙ ap Some (sym page_is) in
      let small : place < PAGE_WORDS = omega arith in
      let in_pool : page < the_shape.pages = (free.free (n / PAGE_WORDS) page here).0 in
      let found = word_part (pages_for (length words)) words n low (omega arith) in (
        subst (λ (o : OperatorValue). FillsPages before o pages cut) (sym e) (record {
          steps = one_step_more (IsFillOfPart before pages cut) before now (page_begin the_shape page + place) (slice_index words n) h.steps (record {
            index = n / PAGE_WORDS;
            page = page;
            k = place;
            x = slice_index words n;
            part = found.0;
            page_is = here;
            free = free.free (n / PAGE_WORDS) page here;
            part_is = found.1;
            word_is = ap (slice_get found.0) place_is ∙ found.2;
            fill = refl;
          });
          rows = λ q i in_rows inside. row_word_kept now (filled_page page place (slice_index words n) now) page place (slice_index words n) in_pool small whole refl q i in_rows inside ∙ h.rows q i in_rows inside;
          others = λ q k none under inside. page_word_kept now (filled_page page place (slice_index words n) now) page place (slice_index words n) in_pool small whole refl q k inside (inl (λ same. none (n / PAGE_WORDS) (here ∙ ap Some (sym same)) (free.free (n / PAGE_WORDS) q (here ∙ ap Some (sym same))))) ∙ h.others q k none under inside;
        }),
        λ j below. dite (ℕ_discrete j n)
            (λ same. ap (λ (i : ℕ). slice_index after.view.stored (ROWS * ROW_WORDS + (slice_index pages (i / PAGE_WORDS) * PAGE_WORDS + i % PAGE_WORDS))) same
            ∙ (ap (λ (q : ℕ). slice_index after.view.stored (ROWS * ROW_WORDS + (q * PAGE_WORDS + n % PAGE_WORDS))) (sym page_is)
            ∙ (ap (λ (k : ℕ). slice_index after.view.stored (ROWS * ROW_WORDS + (page * PAGE_WORDS + k))) (sym place_is)
            ∙ (page_word_filled now after page place (slice_index words n) in_pool small whole e ∙ ap (slice_index words) (sym same)))))
            (λ other. let earlier : j < n = omega arith in
            page_word_kept now after page place (slice_index words n) in_pool small whole e (slice_index pages (j / PAGE_WORDS)) (j % PAGE_WORDS) (omega arith) (apart j earlier page_is place_is) ∙ begins j earlier),
      )
    where
      apart : (j : ℕ) → j < n → page ≡ slice_index pages (n / PAGE_WORDS) → place ≡ n % PAGE_WORDS → (slice_index pages (j / PAGE_WORDS) ≢ page) ⊎ (j % PAGE_WORDS ≢ place)
      apart j earlier page_is place_is = ⊎_elim
          (λ (before_it : j / PAGE_WORDS < n / PAGE_WORDS). inl (λ same.
          let up = free.rise (j / PAGE_WORDS) (n / PAGE_WORDS) (slice_index pages (j / PAGE_WORDS)) (slice_index pages (n / PAGE_WORDS)) before_it (page_there j (omega arith)) (page_there n low) in omega arith))
          (λ (not_before : n / PAGE_WORDS ≤ j / PAGE_WORDS). inr (λ same. omega arith))
          (cases_lt (j / PAGE_WORDS) (n / PAGE_WORDS))

  pub program_filled : (now : OperatorValue) (n : ℕ) → length words ≤ n → FillsPages before now pages cut × BeginsIn now pages words n → FillsParts before now pages cut
  program_filled now n all (h, begins) = record {
    fills = h;
    standing = λ index page k x part at there word.
        let t = part_word (pages_for (length words)) words index k x part there word in let inside = t.0 in let small = t.1 in
        let j = index * PAGE_WORDS + k in let index_is : j / PAGE_WORDS ≡ index = omega arith in let k_is : j % PAGE_WORDS ≡ k = omega arith in
        let page_is : slice_index pages (j / PAGE_WORDS) ≡ page = ap (slice_index pages) index_is ∙ get_or_from_slice_get pages index page 0 at in
        sym (ap (λ (q : ℕ). slice_index now.view.stored (ROWS * ROW_WORDS + (q * PAGE_WORDS + j % PAGE_WORDS))) page_is ∙ ap (λ (i : ℕ). slice_index now.view.stored (ROWS * ROW_WORDS + (page * PAGE_WORDS + i))) k_is)
        ∙ (begins j (omega arith) ∙ t.2);
  }

-- ---- one program behind the others

module _ (before now after : OperatorValue) (done own : List ℕ) (first second : List (List ℕ)) (same : length done ≡ length first) (under : (i page : ℕ) → slice_get done i ≡ Some page → page < PAGES)
    (sizes : (i : ℕ) (part : List ℕ) → slice_get first i ≡ Some part → length part ≤ PAGE_WORDS) (h : FillsParts before now done first) where
  abbrev IsFill : Entry → Type 0
  IsFill = IsFillOfPart before (done ++ own) (first ++ second)

  -- the words in the pages that are done stay
  abbrev KeepsDone : Type 0
  KeepsDone = (i page k : ℕ) → slice_get done i ≡ Some page → k < PAGE_WORDS
      → slice_index after.view.stored (ROWS * ROW_WORDS + (page * PAGE_WORDS + k)) ≡ slice_index now.view.stored (ROWS * ROW_WORDS + (page * PAGE_WORDS + k))

  earlier_steps : Fills before now IsFill
  earlier_steps = steps_on (IsFillOfPart before done first) IsFill (λ e t. record {
    index = t.index;
    page = t.page;
    k = t.k;
    x = t.x;
    part = t.part;
    page_is = slice_get-front done own t.index t.page t.page_is;
    free = t.free;
    part_is = slice_get-front first second t.index t.part t.part_is;
    word_is = t.word_is;
    fill = t.fill;
  }) before now h.fills.steps

  later_steps : Fills now after (IsFillOfPart now own second) → Fills now after IsFill
  later_steps more = steps_on (IsFillOfPart now own second) IsFill (λ e t. record {
    index = length done + t.index;
    page = t.page;
    k = t.k;
    x = t.x;
    part = t.part;
    page_is = slice_get-back done own t.index (length done) t.page t.page_is refl;
    free = h.fills.steps.were_free t.page t.free;
    part_is = slice_get-back first second t.index (length done) t.part t.part_is (sym same);
    word_is = t.word_is;
    fill = t.fill;
  }) now after more

  both_stand : KeepsDone → PartsAre after own second → PartsAre after (done ++ own) (first ++ second)
  both_stand kept stand index page k x part at there word = stands (slice_get-front_or_back done own index page at) (slice_get-front_or_back first second index part there)
    where
      stands : ((index < length done) × (slice_get done index ≡ Some page)) ⊎ ((length done ≤ index) × (slice_get own (index - length done) ≡ Some page))
          → ((index < length first) × (slice_get first index ≡ Some part)) ⊎ ((length first ≤ index) × (slice_get second (index - length first) ≡ Some part))
          → slice_index after.view.stored (ROWS * ROW_WORDS + (page * PAGE_WORDS + k)) ≡ x
      stands (inl (low, at)) (inl (below, there)) = kept index page k at (omega (arith, slice_get_within part k x word, sizes index part there)) ∙ h.standing index page k x part at there word
      stands (inl (low, at)) (inr (up, there)) = absurd (omega arith)
      stands (inr (up, at)) (inl (below, there)) = absurd (omega arith)
      stands (inr (up, at)) (inr (up', there)) = stand (index - length done) page k x part at (ap (slice_get second) (let g : index - length done ≡ index - length first = omega arith in g) ∙ there) word

  -- the program is filled into free pages, which no earlier program has
  pub parts_then : ((i j page : ℕ) → slice_get done i ≡ Some page → slice_get own j ≡ Some page → IsFreePage the_shape now.view page → ⊥) → FillsParts now after own second → FillsParts before after (done ++ own) (first ++ second)
  parts_then apart more = record {
    fills = record {
      steps = steps_then IsFill before now after earlier_steps (later_steps more.fills.steps);
      rows = λ q i low small. more.fills.rows q i low small ∙ h.fills.rows q i low small;
      others = λ q k none low small.
          more.fills.others q k (λ j at free. none (length done + j) (slice_get-back done own j (length done) q at refl) (h.fills.steps.were_free q free)) low small
          ∙ h.fills.others q k (λ j at free. none j (slice_get-front done own j q at) free) low small;
    };
    standing = both_stand (λ i page k at small. more.fills.others page k (λ j at' free. apart i j page at at' free) (under i page at) small) more.standing;
  }

  -- the program stands there, and nothing is done
  pub parts_stay : PartsAre now own second → after ≡ now → FillsParts before after (done ++ own) (first ++ second)
  parts_stay stand e = record {
    fills = record {
      steps = subst (λ (o : OperatorValue). Fills before o IsFill) (sym e) earlier_steps;
      rows = λ q i low small. ap (λ (o : OperatorValue). slice_index o.view.stored (q * ROW_WORDS + i)) e ∙ h.fills.rows q i low small;
      others = λ q k none low small. ap (λ (o : OperatorValue). slice_index o.view.stored (ROWS * ROW_WORDS + (q * PAGE_WORDS + k))) e
          ∙ h.fills.others q k (λ j at free. none j (slice_get-front done own j q at) free) low small;
    };
    standing = both_stand (λ i page k at small. ap (λ (o : OperatorValue). slice_index o.view.stored (ROWS * ROW_WORDS + (page * PAGE_WORDS + k))) e)
        (subst (λ (o : OperatorValue). PartsAre o own second) (sym e) stand);
  }

-- ---- all programs, one behind the other

-- what is ready stays ready, as long as only free pages are filled
module _ (before now : OperatorValue) (pages : List ℕ) (cut : List (List ℕ)) (h : FillsPages before now pages cut) where
  stands_on : (words own : List ℕ) → StandsThere before words own → StandsThere now words own
  stands_on words own stands = record {
    low = stands.low;
    none_free = λ index page at free. stands.none_free index page at (h.steps.were_free page free);
    stand = λ index page k x part at there word.
        h.others page k (λ j there_too free. stands.none_free index page at free) (stands.low index page at) (let short = ((parts_of-cut words).sized index part there).1 in omega (arith, slice_get_within part k x word, short))
        ∙ stands.stand index page k x part at there word;
  }

  free_on : (own : List ℕ) → AllFree before.view own → AllFree now.view own
  free_on own free index page at = h.steps.free_pages page (free index page at)

  ready_on : (words own : List ℕ) → AllFree before.view own ⊎ StandsThere before words own → AllFree now.view own ⊎ StandsThere now words own
  ready_on words own ready = ⊎_elim (λ free. inl (free_on own free)) (λ stands. inr (stands_on words own stands)) ready

-- so many programs are written, and these programs and pages are left
pub record FillsSome (before now : OperatorValue) (pages left : List ℕ) (all rest : List (List ℕ)) : Type 0 where
  pub done : List ℕ
  pub cut : List (List ℕ)
  pub pages_are : pages ≡ done ++ left
  pub parts_are : flat_map parts_of all ≡ cut ++ flat_map parts_of rest
  pub counted : length done ≡ length cut
  pub filled : FillsParts before now done cut
  pub ready : EachIsReady before rest left

pub none_filled : (before : OperatorValue) (pages : List ℕ) (all rest : List (List ℕ)) → AreReady before all pages → rest ≡ all → FillsSome before before pages pages all rest
none_filled before pages all rest ready is = record {
  done = [];
  cut = [];
  pages_are = refl;
  parts_are = ap (flat_map parts_of) (sym is);
  counted = refl;
  filled = record { fills = record { steps = no_steps (IsFillOfPart before [] []) before; rows = λ q i low small. refl; others = λ q k none low small. refl }; standing = λ index page k x part at there word. absurd (none_some page at) };
  ready = subst (λ l. EachIsReady before l pages) (sym is) ready.each;
}

-- parts are short
pub short_parts : (programs : List (List ℕ)) (i : ℕ) (part : List ℕ) → slice_get (flat_map parts_of programs) i ≡ Some part → length part ≤ PAGE_WORDS
short_parts [] i part at = absurd (none_some part at)
short_parts (words ∷ rest) i part at = by (short_parts rest) (slice_get-front_or_back (parts_of words) (flat_map parts_of rest) i part (ap (λ l. slice_get l i) (sym (flat_map-cons parts_of words rest)) ∙ at))
  where
    by : ((j : ℕ) (other : List ℕ) → slice_get (flat_map parts_of rest) j ≡ Some other → length other ≤ PAGE_WORDS)
        → ((i < length (parts_of words)) × (slice_get (parts_of words) i ≡ Some part)) ⊎ ((length (parts_of words) ≤ i) × (slice_get (flat_map parts_of rest) (i - length (parts_of words)) ≡ Some part)) → length part ≤ PAGE_WORDS
    by rec (inl (low, here)) = ((parts_of-cut words).sized i part here).1
    by rec (inr (up, there)) = rec (i - length (parts_of words)) part there

module _ (before now : OperatorValue) (pages left : List ℕ) (all rest : List (List ℕ)) (ready : AreReady before all pages) (h : FillsSome before now pages left all rest) where
  in_all : (i page : ℕ) → slice_get left i ≡ Some page → slice_get pages (length h.done + i) ≡ Some page
  in_all i page at = ap (λ l. slice_get l (length h.done + i)) h.pages_are ∙ slice_get-back h.done left i (length h.done) page at refl

  in_done : (i page : ℕ) → slice_get h.done i ≡ Some page → slice_get pages i ≡ Some page
  in_done i page at = ap (λ l. slice_get l i) h.pages_are ∙ slice_get-front h.done left i page at

  module _ (words : List ℕ) (others : List (List ℕ)) (next : rest ≡ words ∷ others) where
    abbrev next_own : List ℕ
    next_own = take (pages_for (length words)) left

    abbrev behind : List ℕ
    behind = drop (pages_for (length words)) left

    parts_next : flat_map parts_of rest ≡ parts_of words ++ flat_map parts_of others
    parts_next = ap (flat_map parts_of) next ∙ flat_map-cons parts_of words others

    -- there are pages left for the next program
    pub left_counted : IsCounted all pages → pages_for (length words) ≤ length left
    left_counted counted =
        omega (arith, ap length h.pages_are, length-append h.done left, ap length h.parts_are, length-append h.cut (flat_map parts_of rest), h.counted, counted, ap length parts_next, length-append (parts_of words) (flat_map parts_of others), length-parts_of words)

    next_ready : (AllFree before.view next_own ⊎ StandsThere before words next_own) × EachIsReady before others behind
    next_ready = subst (λ l. EachIsReady before l left) next h.ready

    own_in_left : (i page : ℕ) → slice_get next_own i ≡ Some page → slice_get left i ≡ Some page
    own_in_left i page at = ap (λ l. slice_get l i) (sym (take-append-drop (pages_for (length words)) left)) ∙ slice_get-front next_own behind i page at

    pub left_ready : IsReady now words next_own
    left_ready = record {
      rise = λ i j page other up at there free last_free. ready.rise (length h.done + i) (length h.done + j) page other (omega arith) (in_all i page (own_in_left i page at)) (in_all j other (own_in_left j other there))
          (h.filled.fills.steps.were_free page free) (h.filled.fills.steps.were_free other last_free);
      ready = ready_on before now h.done h.cut h.filled.fills words next_own next_ready.0;
    }

    pub one_program_more : IsCounted all pages → (after : OperatorValue) (left' : List ℕ) → left' ≡ behind → FillsNew now after words next_own → FillsSome before after pages left' all others
    one_program_more counted after left' left_is new = subst (λ l. FillsSome before after pages l all others) (sym left_is) record {
      done = h.done ++ next_own;
      cut = h.cut ++ parts_of words;
      pages_are = h.pages_are ∙ (ap (λ l. h.done ++ l) (sym (take-append-drop (pages_for (length words)) left)) ∙ sym (append_assoc h.done next_own behind));
      parts_are = h.parts_are ∙ (ap (λ l. h.cut ++ l) parts_next ∙ sym (append_assoc h.cut (parts_of words) (flat_map parts_of others)));
      counted = omega (arith, length-append h.done next_own, length-append h.cut (parts_of words), h.counted, length-take-le (pages_for (length words)) left (left_counted counted), length-parts_of words);
      filled = ⊎_elim
          (λ t. parts_then before now after h.done next_own h.cut (parts_of words) h.counted under sizes h.filled apart t.1)
          (λ t. parts_stay before now after h.done next_own h.cut (parts_of words) h.counted under sizes h.filled t.0.stand t.1)
          new;
      ready = next_ready.1;
    }
      where
        under : (i page : ℕ) → slice_get h.done i ≡ Some page → page < PAGES
        under i page at = ready.low i page (in_done i page at)

        sizes : (i : ℕ) (part : List ℕ) → slice_get h.cut i ≡ Some part → length part ≤ PAGE_WORDS
        sizes i part at = short_parts all i part (ap (λ l. slice_get l i) h.parts_are ∙ slice_get-front h.cut (flat_map parts_of rest) i part at)

        apart : (i j page : ℕ) → slice_get h.done i ≡ Some page → slice_get next_own j ≡ Some page → IsFreePage the_shape now.view page → ⊥
        apart i j page at there free = let low = slice_get_within h.done i page at in let was = h.filled.fills.steps.were_free page free in
            let up = ready.rise i (length h.done + j) page page (omega arith) (in_done i page at) (in_all j page (own_in_left j page there)) was was in omega arith

-- all programs are written
pub all_filled : (before now : OperatorValue) (pages left : List ℕ) (all rest : List (List ℕ)) → FillsSome before now pages left all rest → rest ≡ [] → IsCounted all pages → FillsParts before now pages (flat_map parts_of all)
all_filled before now pages left all rest h none counted =
    let parts_are : flat_map parts_of all ≡ h.cut = h.parts_are ∙ (ap (λ l. h.cut ++ l) (ap (flat_map parts_of) none) ∙ append-nil h.cut) in
    let left_none : length left ≡ 0 = omega (arith, ap length h.pages_are, length-append h.done left, ap length parts_are, h.counted, counted) in
    let pages_are : pages ≡ h.done = h.pages_are ∙ (ap (λ l. h.done ++ l) (no_items left left_none) ∙ append-nil h.done) in
    subst (λ l. FillsParts before now l (flat_map parts_of all)) (sym pages_are) (subst (FillsParts before now h.done) (sym parts_are) h.filled)
  where
    no_items : (xs : List ℕ) → length xs ≡ 0 → xs ≡ []
    no_items [] e = refl
    no_items (x ∷ xs) e = absurd (omega arith)

-- ---- one program, which is new or stands there

pub first_free : (operator : OperatorValue) (words own : List ℕ) (page : ℕ) → IsReady operator words own → slice_get own 0 ≡ Some page → IsFreePage the_shape operator.view page → AreFreePages operator own
first_free operator words own page h at free = record {
  free = all_free;
  rise = λ index later q other up here there. h.rise index later q other up here there (all_free index q here) (all_free later other there);
}
  where
    all_free : AllFree operator.view own
    all_free = ⊎_elim (λ t. t) (λ stands. absurd (stands.none_free 0 page at free)) h.ready

-- no page is free, or there is none
pub stays : (operator after : OperatorValue) (words own : List ℕ) → IsReady operator words own → ((page : ℕ) → slice_get own 0 ≡ Some page → IsFreePage the_shape operator.view page → ⊥) → length own ≡ pages_for (length words) → after ≡ operator → FillsNew operator after words own
stays operator after words [] h none counted e = inr (
  record {
    low = λ index page at. absurd (none_some page at);
    none_free = λ index page at. absurd (none_some page at);
    stand = λ index page k x part at. absurd (none_some page at);
  },
  e,
)
stays operator after words (page ∷ own) h none counted e = ⊎_elim (λ free. absurd (none page refl (free 0 page refl))) (λ stands. inr (stands, e)) h.ready

-- ---- no page is free that is left

-- the programs that are left stand in their pages
pub rest_stands : (before now : OperatorValue) (pages left : List ℕ) (all rest : List (List ℕ)) → AreReady before all pages → IsCounted all pages → FillsSome before now pages left all rest → NoneFree before.view left → FillsParts before now pages (flat_map parts_of all)
rest_stands before now pages left all [] ready counted h none = all_filled before now pages left all [] h refl counted
rest_stands before now pages left all (words ∷ others) ready counted h none = rest_stands before now pages (drop n left) all others ready counted
    (one_program_more before now pages left all (words ∷ others) ready h words others refl counted now (drop n left) refl
    (stays now now words (take n left) (left_ready before now pages left all (words ∷ others) ready h words others refl) first (length-take-le n left (left_counted before now pages left all (words ∷ others) ready h words others refl counted)) refl))
    (λ index page at. none (length (take n left) + index) page (further_on n left index page at))
  where
    n : ℕ
    n = pages_for (length words)

    first : (page : ℕ) → slice_get (take n left) 0 ≡ Some page → IsFreePage the_shape now.view page → ⊥
    first page at free = none 0 page (in_front n left 0 page at) (h.filled.fills.steps.were_free page free)

-- nothing is to be filled
pub none_to_fill : (operator : OperatorValue) (pages : List ℕ) (all : List (List ℕ)) → AreReady operator all pages → IsCounted all pages → AreFreeBelow operator.view pages 0 → FillsParts operator operator pages (flat_map parts_of all)
none_to_fill operator pages all ready counted below =
    rest_stands operator operator pages pages all all ready counted (none_filled operator pages all all ready refl) (λ index page at free. let low = below index page at free in omega arith)

-- the last page that is free was among those of the program that was filled
module _ (before now after : OperatorValue) (pages left : List ℕ) (all rest : List (List ℕ)) (ready : AreReady before all pages) (h : FillsSome before now pages left all rest)
    (words : List ℕ) (others : List (List ℕ)) (next : rest ≡ words ∷ others) (counted : IsCounted all pages) (behind : List ℕ) (left_is : behind ≡ drop (pages_for (length words)) left) (new : FillsNew now after words (take (pages_for (length words)) left))
    (end : ℕ) (below : AreFreeBelow before.view pages end) (index page : ℕ) (at : slice_get left index ≡ Some page) (inside : index < pages_for (length words)) (free : IsFreePage the_shape now.view page) (last : page + 1 ≡ end) where
  pub last_filled : FillsParts before after pages (flat_map parts_of all)
  last_filled = rest_stands before after pages behind all others ready counted (one_program_more before now pages left all rest ready h words others next counted after behind left_is new) none
    where
      in_pages : (i q : ℕ) → slice_get left i ≡ Some q → slice_get pages (length h.done + i) ≡ Some q
      in_pages i q at' = ap (λ l. slice_get l (length h.done + i)) h.pages_are ∙ slice_get-back h.done left i (length h.done) q at' refl

      none : NoneFree before.view behind
      none j q there free' =
          let here = further_on (pages_for (length words)) left j q (ap (λ l. slice_get l j) (sym left_is) ∙ there) in
          let long = length-take-le (pages_for (length words)) left (left_counted before now pages left all rest ready h words others next counted) in
          let later = in_pages (length (take (pages_for (length words)) left) + j) q here in
          let up = ready.rise (length h.done + index) (length h.done + (length (take (pages_for (length words)) left) + j)) page q (omega (arith, long, inside)) (in_pages index page at) later (h.filled.fills.steps.were_free page free) free' in
          let low = below (length h.done + (length (take (pages_for (length words)) left) + j)) q later free' in omega arith
