-- The programs of a version whose pages are chosen: each is ready to be filled, or stands there.
use Rattle.std.proofs.Common.{◌≡◌, ◌∙◌, ◌⊎◌, ℕ, ◌+◌, ◌*◌, ◌<◌, List, Some, [], ◌∷◌, ap, arith, drop, inl, inr, length, refl, slice_get, slice_index, subst, suc, sym, take, zero, ⊎_elim}
use Rattle.std.specs.List.{flat_map}
use Rattle.std.proofs.lemmas.List.{take-append-drop}
use Rattle.std.proofs.lemmas.List.Concat.{flat_map-cons}
use Rattle.config_image.specs.declared.TheConstants.{PAGE_WORDS, ROW_WORDS}
use Rattle.config_image.specs.Image.{Group}
use Rattle.config_image.specs.Pooled.{pages_for, parts, parts_of}
use Rattle.config_image.specs.Walk.{words_of_programs}
use Rattle.config_image.proofs.PartsLemmas.{length-parts_of}
use Rattle.config_image.proofs.ProgramLemmas.{parts-by_words}
use Rattle.versions.specs.declared.layout.TheConstants.{PAGES, ROWS}
use Rattle.versions.specs.Table.{the_shape}
use Rattle.versions.proofs.MirrorLemmas.{none_some, some_same}
use Rattle.versions.proofs.OpenedLemmas.{slice_get-front_or_back}
use Rattle.versions.proofs.ShapeLemmas.{pages_is}
use Rattle.versions.proofs.WorldLemmas.{slice_get-front}
use Rattle.read_section.specs.Operator.{OperatorValue, StandsIn}
use Rattle.retire.specs.Publish.{HasPages, TakesFor, pages_of_each}
use Rattle.retire.specs.body.Filling.{AreReady, EachIsReady, PartsAre, StandsThere}
use Rattle.retire.specs.body.Allocation.{AllFree, ChoosesPages, IsCounted}
use Rattle.retire.proofs.SharingLemmas.{further_on, in_front, length-first, others_counted, own_among, slice_get-back, stands_counted}
use Rattle.retire.proofs.AllocationLemmas.{current_held, own_held}

module _ (operator : OperatorValue) where
  -- the parts of a program stand in its pages, where those of all programs do
  own_parts : (programs : List (List ℕ)) (pages words own : List ℕ) → IsCounted programs pages → PartsAre operator pages (flat_map parts_of programs) → HasPages programs pages words own → PartsAre operator own (parts_of words)
  own_parts [] pages words own counted stand (index, at, there) = absurd (none_some words at)
  own_parts (first ∷ others) pages words own counted stand (zero, at, there) =
      subst (λ w. PartsAre operator own (parts_of w)) (some_same first words at) (subst (λ l. PartsAre operator l (parts_of first)) (some_same (take (pages_for (length first)) pages) own there)
      (λ i page k x part here part_here word. stand i page k x part (in_front (pages_for (length first)) pages i page here)
      (ap (λ l. slice_get l i) (flat_map-cons parts_of first others) ∙ slice_get-front (parts_of first) (flat_map parts_of others) i part part_here) word))
  own_parts (first ∷ others) pages words own counted stand (suc index, at, there) =
      own_parts others (drop (pages_for (length first)) pages) words own (others_counted first others pages counted)
      (λ i page k x part here part_here word. stand (length (take (pages_for (length first)) pages) + i) page k x part (further_on (pages_for (length first)) pages i page here)
      (ap (λ l. slice_get l (length (take (pages_for (length first)) pages) + i)) (flat_map-cons parts_of first others)
      ∙ slice_get-back (parts_of first) (flat_map parts_of others) i (length (take (pages_for (length first)) pages)) part part_here (length-parts_of first ∙ sym (length-first first others pages counted))) word)
      (index, at, there)

  -- the current version's parts stand in its pages, which lie in the pool
  current_parts : (config : List Group) (pages : List ℕ) → StandsIn operator.view config pages → PartsAre operator pages (flat_map parts_of (words_of_programs config))
  unfolding the_shape
  current_parts config pages stands index page k x part at there word =
      ap (λ (n : ℕ). slice_index operator.view.stored n) (let g : ROWS * ROW_WORDS + (page * PAGE_WORDS + k) ≡ 0 + (ROWS * ROW_WORDS + (page * PAGE_WORDS + k)) = omega arith in g)
      ∙ stands.holds.standing index page k x part at (ap (λ l. slice_get l index) (parts-by_words config) ∙ there) word

  current_low : (config : List Group) (pages : List ℕ) → StandsIn operator.view config pages → (index page : ℕ) → slice_get pages index ≡ Some page → page < PAGES
  current_low config pages stands index page at = omega (arith, stands.holds.below index page at, pages_is)

  module _ (config : List Group) (pages : List ℕ) (chosen : ChoosesPages operator.view config pages) where
    one_ready : (words own : List ℕ) → TakesFor operator.view (words_of_programs chosen.earlier) chosen.current_pages words own → AllFree operator.view own ⊎ StandsThere operator words own
    one_ready words own (inl has) = inr (record {
      low = λ index page at. let t = own_among (words_of_programs chosen.earlier) chosen.current_pages words own has index page at in current_low chosen.earlier chosen.current_pages chosen.stands t.0 page t.1;
      none_free = own_held operator.view (words_of_programs chosen.earlier) chosen.current_pages words own (current_held operator.view chosen.earlier chosen.current_pages chosen.stands) has;
      stand = own_parts (words_of_programs chosen.earlier) chosen.current_pages words own (stands_counted operator.view chosen.earlier chosen.current_pages chosen.stands) (current_parts chosen.earlier chosen.current_pages chosen.stands) has;
    })
    one_ready words own (inr new) = inl new.1

    each_ready : (programs : List (List ℕ)) (left : List ℕ)
        → ((index : ℕ) (words own : List ℕ) → slice_get programs index ≡ Some words → slice_get (pages_of_each programs left) index ≡ Some own → TakesFor operator.view (words_of_programs chosen.earlier) chosen.current_pages words own)
        → EachIsReady operator programs left
    each_ready [] left each = tt
    each_ready (words ∷ rest) left each = (
      one_ready words (take (pages_for (length words)) left) (each 0 words (take (pages_for (length words)) left) refl refl),
      each_ready rest (drop (pages_for (length words)) left) (λ index w o at there. each (suc index) w o at there),
    )

    each_low : (programs : List (List ℕ)) (left : List ℕ) → EachIsReady operator programs left → IsCounted programs left → (i page : ℕ) → slice_get left i ≡ Some page → page < PAGES
    each_low [] [] ready counted i page at = absurd (none_some page at)
    each_low [] (first ∷ left) ready counted i page at = absurd (omega (arith, counted))
    each_low (words ∷ rest) left ready counted i page at = ⊎_elim
        (λ here. ⊎_elim (λ free. omega (arith, (free i page here.1).0, pages_is)) (λ stands. stands.low i page here.1) ready.0)
        (λ there. each_low rest (drop n left) ready.1 (others_counted words rest left counted) _ page there.1)
        (slice_get-front_or_back (take n left) (drop n left) i page (ap (λ l. slice_get l i) (take-append-drop n left) ∙ at))
      where
        n : ℕ
        n = pages_for (length words)

    pub chosen_ready : AreReady operator (words_of_programs config) pages
    chosen_ready = record {
      each = each_ready (words_of_programs config) pages chosen.takes.each;
      rise = chosen.takes.rise;
      low = each_low (words_of_programs config) pages (each_ready (words_of_programs config) pages chosen.takes.each) chosen.counted;
    }

    pub chosen_counted : length pages ≡ length (parts config)
    chosen_counted = chosen.counted ∙ ap length (sym (parts-by_words config))
