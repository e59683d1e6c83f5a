-- The row of a configuration that is like the current one.
use Rattle.std.proofs.Common.{◌≡◌, ◌∙◌, ◌+◌, ◌*◌, ◌<◌, ◌≤◌, List, ap, arith, length, slice_index, sym, ℕ}
use Rattle.std.proofs.lemmas.Option.{get_or_from_slice_get, slice_get-get_or, slice_get_within}
use mathlib.Core.Option.{some, some-injective}
use lib.ListN.{get_elem?}
use Rattle.config_image.specs.declared.TheConstants.{ROW_WORDS}
use Rattle.config_image.specs.Image.{Group, programs_begin}
use Rattle.config_image.specs.PageTable.{entry_word, header_begin, start_of}
use Rattle.config_image.specs.Pooled.{ArePages, PooledRowTells, parts, pooled_row}
use Rattle.config_image.proofs.PooledLemmas.{row_tells_with_room}
use Rattle.versions.specs.declared.layout.TheConstants.{ROWS}
use Rattle.versions.specs.Pooled.{HasRoom}
use Rattle.versions.specs.Free.{IsFreeRow, number_after}
use Rattle.versions.specs.Table.{the_shape}
use Rattle.versions.proofs.FormLemmas.{are_pages}
use Rattle.versions.proofs.LogLemmas.{IsFree-of_row}
use Rattle.versions.proofs.ShapeLemmas.{pages_is, parts_is}
use Rattle.read_section.specs.Operator.{OperatorValue, StandsIn}
use Rattle.read_section.proofs.FilledLemmas.{word_at}
use Rattle.retire.specs.body.Alike.{AreAlike}
use Rattle.retire.specs.body.Filling.{CopiesFront, FillsFrom, FillsNames, HasNames, HoldsFront}
use Rattle.retire.proofs.AlikeLemmas.{same_begin, same_count, same_head, same_length, same_name}

module _ (operator : OperatorValue) (config other : List Group) (pages current_pages : List ℕ) (alike : AreAlike config other) (stands : StandsIn operator.view other current_pages) (room : HasRoom config) (are : ArePages config pages)
    (from : ℕ) (current : get_elem? operator.view.version_rows (number_after operator.view.log) ≡ some from) where
  tells : PooledRowTells config pages
  tells = row_tells_with_room config pages room are

  others : PooledRowTells other current_pages
  others = row_tells_with_room other current_pages (omega (arith, same_length config other alike, room))
      (are_pages other current_pages (stands.holds.counted ∙ ap length (parts_is other)) (λ index page at. omega (arith, stands.holds.below index page at, pages_is)))

  -- both have as many pages
  pub as_many_pages : length pages ≡ length current_pages
  as_many_pages = omega (arith, stands.holds.counted ∙ ap length (parts_is other), same_count config other alike, are.counted)

  -- the current row holds the current configuration's words
  in_row : (i : ℕ) → i < ROW_WORDS → word_at operator stands.row i ≡ slice_index (pooled_row other current_pages) i
  unfolding the_shape
  in_row i small = ap (λ (n : ℕ). slice_index operator.view.stored n) (let g : stands.row * ROW_WORDS + i ≡ 0 + (stands.row * ROW_WORDS + i) = omega arith in g) ∙ stands.holds.row i small

  words : (i : ℕ) → i < ROW_WORDS → word_at operator from i ≡ slice_index (pooled_row other current_pages) i
  words i small = ap (λ (r : ℕ). word_at operator r i) (some-injective from stands.row (sym current ∙ stands.in_row)) ∙ in_row i small

  -- a free row is another one
  pub apart : (row : ℕ) → IsFreeRow the_shape operator.view row → from ≡ row → ⊥
  apart row free same = let replaced = (IsFree-of_row the_shape operator.view row (number_after operator.view.log) free (current ∙ ap some same)).0 in omega arith

  module _ (first begin : ℕ) (first_is : first ≡ word_at operator from 0) (begin_is : begin ≡ header_begin first) where
    begin_at : begin ≡ programs_begin config
    begin_at = let form = get_or_from_slice_get (pooled_row other current_pages) 0 _ 0 others.form in let small : 0 < ROW_WORDS = omega arith in
        let is = first_is ∙ (words 0 small ∙ form) in begin_is ∙ (ap header_begin is ∙ (others.begin_part ∙ sym (same_begin config other alike)))

    pub whole : begin + length pages ≡ programs_begin config + length (parts config)
    whole = omega (arith, begin_at, are.counted)

    pub inside : begin + length pages ≤ ROW_WORDS
    inside = omega (arith, whole, tells.inside, tells.short)

    holds_front : HoldsFront operator from (pooled_row config pages) begin
    holds_front i low = words i (omega (arith, inside)) ∙ same_head config other alike pages current_pages tells others i (omega (arith, begin_at))

    has_names : (now : OperatorValue) → ((i : ℕ) → i < ROW_WORDS → word_at now from i ≡ word_at operator from i) → HasNames now from begin pages (pooled_row config pages)
    has_names now kept index page at =
        let low : index < length pages = slice_get_within pages index page at in
        let small : begin + index < ROW_WORDS = omega (arith, inside) in
        let there = slice_get-get_or current_pages index 0 (omega (arith, stands.holds.counted ∙ ap length (parts_is other), same_count config other alike, are.counted)) in
        ap (λ (w : ℕ). entry_word (start_of w) page) (kept (begin + index) small ∙ words (begin + index) small)
        ∙ (ap (λ (b : ℕ). entry_word (start_of (slice_index (pooled_row other current_pages) (b + index))) page) begin_at
        ∙ (same_name config other alike pages current_pages tells others index page (slice_index current_pages index) at there (omega (arith, stands.holds.below index (slice_index current_pages index) there, pages_is))
        ∙ ap (λ (b : ℕ). slice_index (pooled_row config pages) (b + index)) (sym begin_at)))

    module _ (row : ℕ) (in_rows : from < ROWS) (free : IsFreeRow the_shape operator.view row) (now : OperatorValue) (copies : CopiesFront operator now row from begin) where
      copied : FillsFrom operator now row (pooled_row config pages) × HoldsFront now row (pooled_row config pages) begin
      copied = copies (pooled_row config pages) tells.whole holds_front

      pub still_free : IsFreeRow the_shape now.view row
      still_free = copied.0.still_free

      -- the names behind them make the row
      pub row_made : (after : OperatorValue) → FillsNames now after row from begin pages → FillsFrom operator after row (pooled_row config pages) × HoldsFront after row (pooled_row config pages) (begin + length pages)
      row_made after names = names operator (pooled_row config pages) tells.whole (has_names now (λ i small. copied.0.others from i (apart row free) in_rows small)) copied.0 copied.1
