-- Which steps are legal, told by the kept numbers.
use Rattle.std.proofs.Common.{◌≡◌, ℕ, ◌+◌, ◌*◌, ◌<◌, ◌≤◌, ◌⊎◌, List, MatchOption, None, Option, Some, ap, arith, drop, inl, inr, length, length-drop, refl, slice_get, subst, sym, ◌∙◌}
use Rattle.config_image.specs.Image.{Group}
use Rattle.versions.specs.declared.layout.TheConstants.{LAST_NUMBER, ROWS, TABLE_WORDS}
use Rattle.versions.specs.declared.progress.Progress.{Progress}
use Rattle.versions.specs.declared.step.Step.TheVariants.{Announce}
use Rattle.versions.specs.declared.view.Stage.TheVariants.{Inside, Peeked}
use Rattle.versions.specs.Layout.{HoldsForm, IsInRow, IsPartPlace, current_word, pages_named, rows_begin}
use Rattle.versions.specs.Free.{IsFreeRow, number_after}
use Rattle.versions.specs.State.{IsWordOf, State}
use Rattle.versions.specs.Legal.{CanPublish, HoldsPlace, IsNextOf, IsReached}
use Rattle.versions.specs.body.Mirror.{AllHaveRoom, IsDecided, IsMirror}
use Rattle.versions.specs.Pooled.{HasRoom, pages_in}
use Rattle.versions.specs.Table.{the_shape}
use Rattle.std.proofs.lemmas.List.{ext_get_or, get_or-drop}
use Rattle.versions.proofs.HeldVersions.{IsKept, held_is_kept}
use Rattle.versions.proofs.MirrorLemmas.{holds_version, next_of, some_same, stage_of_held}
use Rattle.versions.proofs.TraceLemmas.{Coheres-reached}
use Rattle.versions.proofs.Coherence.{Bounds, Coheres}
use Rattle.versions.proofs.SafetyLemmas.{version_place}
use Rattle.versions.proofs.ShapeLemmas.{last_number_is, page_below, place_below, rows_is}

-- behind the front of the table stand the words that the operator knows
stored_behind : (s : State (List Group)) → Coheres the_shape s → drop (rows_begin the_shape) s.words ≡ s.operator.stored
stored_behind s h = ext_get_or 0 (drop (rows_begin the_shape) s.words) s.operator.stored
    (omega (arith, length-drop (rows_begin the_shape) s.words, h.words_length, h.stored_length))
    (λ i inside. get_or-drop (rows_begin the_shape) s.words i 0 ∙ h.stored i (omega (arith, length-drop (rows_begin the_shape) s.words, h.words_length)))

module _ {A : Type 0} (s : State (List Group)) (reached : IsReached the_shape s) (words : List ℕ) (progress : Progress A) (m : IsMirror the_shape s words progress) where
  -- the row and the pages of a version that a worker holds, in the words of the table
  pub record IsKeptIn (n r : ℕ) : Type 0 where
    pub kept : IsKept the_shape s n r
    pub row_low : r < ROWS
    pub room : HasRoom kept.config
    pub holds : HoldsForm the_shape (rows_begin the_shape) words r kept.config kept.pages

  -- the version of a peek is not above the last number
  peeked_low : (w n : ℕ) (x : ℕ) → slice_get progress.stages w ≡ Some (Peeked n) → IsNextOf s w (Announce w) x → n ≤ LAST_NUMBER
  peeked_low w n x at next =
      let h = Coheres-reached the_shape s reached in let view = next.0 in let is : view.stage ≡ Peeked n = some_same _ _ (sym (m.stages w view next.1) ∙ at) in
      let low : n ≤ number_after s.operator.log = subst (Bounds w s.operator (length view.seen)) is (h.each_worker w view next.1).bounds in let all = h.numbered in omega (arith, last_number_is)

  pub decided_announce : (w n : ℕ) (found : Option ℕ) → slice_get progress.stages w ≡ Some (Peeked n) → MatchOption found (LAST_NUMBER < n) (λ x. x ≡ n + 1) → IsDecided s (Announce w) found
  decided_announce w n (Some x) at e = next_of the_shape s words progress m (Coheres-reached the_shape s reached) w (Peeked n) (Announce w) x at (n, refl, e)
  decided_announce w n None at above = λ x next. let low = peeked_low w n x at next in omega arith

  -- what the row and the pages of the version held are
  pub held_form : (w k n r : ℕ) → slice_get progress.stages w ≡ Some (Inside k n r) → AllHaveRoom s → IsKeptIn n r
  held_form w k n r at room =
      let h = Coheres-reached the_shape s reached in let kept = held_is_kept the_shape s h w n r (holds_version the_shape s words progress m h w k n r at) in record {
        kept = kept;
        row_low = omega (arith, h.rows_below n r kept.in_row, rows_is);
        room = room.published n kept.config kept.published;
        holds = subst (λ l. HoldsForm the_shape (rows_begin the_shape) l r kept.config kept.pages) (sym m.words_same) kept.holds;
      }

  -- a place that a fetch may go to is a word of it
  pub fetch_word_of : (w k n r place : ℕ) → slice_get progress.stages w ≡ Some (Inside k n r) → (kept : IsKept the_shape s n r) → HoldsPlace the_shape s w place → IsInRow the_shape r place ⊎ IsPartPlace the_shape kept.config kept.pages place
  fetch_word_of w k n r place at kept (version, row, held, word) = let same = stage_of_held the_shape s words progress m w k n r version row at held in
      version_place the_shape s n r place kept (subst (λ (v : ℕ). IsWordOf the_shape s v place) (sym same.0) word)

  pub fetch_below : (w k n r place : ℕ) → slice_get progress.stages w ≡ Some (Inside k n r) → HoldsPlace the_shape s w place → place < TABLE_WORDS
  fetch_below w k n r place at holds =
      let h = Coheres-reached the_shape s reached in let kept = held_is_kept the_shape s h w n r (holds_version the_shape s words progress m h w k n r at) in
      word_below (h.rows_below n r kept.in_row) kept (fetch_word_of w k n r place at kept holds)
    where
      word_below : {n r place : ℕ} → r < the_shape.rows → (kept : IsKept the_shape s n r) → IsInRow the_shape r place ⊎ IsPartPlace the_shape kept.config kept.pages place → place < TABLE_WORDS
      word_below {r = r} {place = place} low kept (inl in_row) = place_below r place low in_row
      word_below {place = place} low kept (inr part) = let inside = part.inside in let fit = kept.holds.fits part.index part.part part.part_is in
          page_below part.page place (kept.holds.below part.index part.page part.page_is) (part.k, omega arith, part.at)

  -- and a word of it is a place that a fetch may go to
  pub word_place : (w k n r place : ℕ) → slice_get progress.stages w ≡ Some (Inside k n r) → (kept : IsKept the_shape s n r) → IsInRow the_shape r place ⊎ IsPartPlace the_shape kept.config kept.pages place → HoldsPlace the_shape s w place
  word_place w k n r place at kept word = let h = Coheres-reached the_shape s reached in (n, r, holds_version the_shape s words progress m h w k n r at, of_version kept word)
    where
      of_version : {n r place : ℕ} (kept : IsKept the_shape s n r) → IsInRow the_shape r place ⊎ IsPartPlace the_shape kept.config kept.pages place → IsWordOf the_shape s n place
      of_version {r = r} kept (inl in_row) = inl (r, kept.in_row, in_row)
      of_version kept (inr part) = inr (kept.config, kept.pages, kept.published, kept.in_pages, part)

  pub number_low : (r : ℕ) → CanPublish the_shape s r → progress.book.number < LAST_NUMBER
  number_low r can = let low = can.number in omega (arith, last_number_is, m.book.number)

  -- the pages that a row names, in the words of the table and in those of the operator
  pub pages_same : (r : ℕ) → r < the_shape.rows → pages_in words r ≡ pages_named the_shape s.operator.stored r
  pages_same r low = let h = Coheres-reached the_shape s reached in
      ap (λ l. pages_named the_shape l r) (ap (drop (rows_begin the_shape)) m.words_same ∙ stored_behind s h)

  pub holds_proposed : (r : ℕ) (config : List Group) → s.operator.proposal ≡ Some config → CanPublish the_shape s r → HoldsForm the_shape (rows_begin the_shape) words r config (pages_in words r)
  holds_proposed r config given can = subst (HoldsForm the_shape (rows_begin the_shape) words r config) (sym (pages_same r can.free.0))
      (subst (λ l. HoldsForm the_shape (rows_begin the_shape) l r config (pages_named the_shape s.operator.stored r)) (sym m.words_same)
      (subst (λ (c : List Group). HoldsForm the_shape (rows_begin the_shape) s.words r c (pages_named the_shape s.operator.stored r)) (some_same _ _ (sym can.proposed ∙ given)) can.holds))

  pub can_publish : (r : ℕ) (config : List Group) → s.operator.proposal ≡ Some config → IsFreeRow the_shape s.operator r → progress.book.number < LAST_NUMBER
      → HoldsForm the_shape (rows_begin the_shape) words r config (pages_in words r) → CanPublish the_shape s r
  can_publish r config given free low held = record {
    free = free;
    config = config;
    proposed = given;
    holds = subst (λ l. HoldsForm the_shape (rows_begin the_shape) l r config (pages_named the_shape s.operator.stored r)) m.words_same
        (subst (HoldsForm the_shape (rows_begin the_shape) words r config) (pages_same r free.0) held);
    number = omega (arith, last_number_is, m.book.number);
  }

  pub publish_word : (r : ℕ) → (progress.book.number + 1) * ROWS + r ≡ current_word the_shape (number_after s.operator.log + 1) r
  publish_word r = ap (λ (n : ℕ). (n + 1) * ROWS + r) m.book.number ∙ ap (λ (k : ℕ). (number_after s.operator.log + 1) * k + r) (sym rows_is)
