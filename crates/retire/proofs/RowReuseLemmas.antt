-- Words of a row that are reused from another row.
use Rattle.std.proofs.Common.{◌≡◌, ◌∙◌, ◌≢◌, ◌+◌, ◌<◌, ◌≤◌, List, Some, ap, arith, inl, length, refl, slice_get, slice_index, subst, sym, ℕ, ⊎_elim}
use mathlib.Core.Logic.{dite}
use native.Mathlib.Decide.{ℕ_discrete}
use Rattle.config_image.specs.declared.TheConstants.{ROW_WORDS}
use Rattle.config_image.specs.PageTable.{entry_word, start_of}
use Rattle.versions.specs.declared.layout.TheConstants.{ROWS}
use Rattle.versions.specs.Free.{IsFreeRow}
use Rattle.versions.specs.Table.{the_shape}
use Rattle.read_section.specs.Operator.{OperatorValue}
use Rattle.read_section.proofs.FilledLemmas.{word_at, word_kept}
use Rattle.retire.specs.body.Filling.{CopiesFront, FillsFrom, FillsNames, FillsOther, HasNames, HoldsFront}
use Rattle.retire.proofs.FillingLemmas.{no_fills, one_other_more, other_kept, other_there}

-- a free row stays free, and its first n words are reused
pub record Copied (before now : OperatorValue) (r from count n : ℕ) : Type 0 where
  pub free : IsFreeRow the_shape now.view r
  pub copied : (words : List ℕ) → length words ≡ ROW_WORDS → HoldsFront before from words count → FillsFrom before now r words × HoldsFront now r words n

-- its words before a place and n names are filled
pub record Named (before now : OperatorValue) (r from begin : ℕ) (pages : List ℕ) (n : ℕ) : Type 0 where
  pub free : IsFreeRow the_shape now.view r
  pub kept : (i : ℕ) → i < ROW_WORDS → word_at now from i ≡ word_at before from i
  pub named : (first : OperatorValue) (words : List ℕ) → length words ≡ ROW_WORDS → HasNames before from begin pages words → FillsFrom first before r words → HoldsFront before r words begin
      → FillsFrom first now r words × HoldsFront now r words (begin + n)

pub none_copied : (o : OperatorValue) (r from count : ℕ) → IsFreeRow the_shape o.view r → Copied o o r from count 0
none_copied o r from count free = record { free = free; copied = λ words long holds. (no_fills o r words free, λ i low. absurd (omega arith)) }

pub all_same : (o : OperatorValue) (r from count : ℕ) → IsFreeRow the_shape o.view r → ((i : ℕ) → i < count → word_at o r i ≡ word_at o from i) → CopiesFront o o r from count
all_same o r from count free same words long holds = (no_fills o r words free, λ i low. same i low ∙ holds i low)

pub none_named : (o : OperatorValue) (r from begin : ℕ) (pages : List ℕ) → IsFreeRow the_shape o.view r → Named o o r from begin pages 0
none_named o r from begin pages free = record { free = free; kept = λ i low. refl; named = λ first words long names fills holds. (fills, λ i low. holds i (omega arith)) }

module _ (before now after : OperatorValue) (r from place word : ℕ) (low : r < ROWS) (in_rows : from < ROWS) (apart : from ≢ r) (small : place < ROW_WORDS) (stored : FillsOther now after r place word) where
  free_on : IsFreeRow the_shape now.view r → IsFreeRow the_shape after.view r
  free_on free = ⊎_elim (λ t. subst (λ (o : OperatorValue). IsFreeRow the_shape o.view r) (sym t.2) free) (λ t. subst (λ (o : OperatorValue). IsFreeRow the_shape o.view r) (sym t.1) free) stored

  kept_on : (i : ℕ) → i < ROW_WORDS → word_at after from i ≡ word_at now from i
  kept_on i inside = ⊎_elim (λ t. word_kept now after r place word low small t.1 t.2 from i inside (inl apart)) (λ t. ap (λ (o : OperatorValue). word_at o from i) t.1) stored

  -- one word more of the front
  front_on : (words : List ℕ) → word ≡ slice_index words place → HoldsFront now r words place → HoldsFront after r words (place + 1)
  front_on words is holds i below = dite (ℕ_discrete i place)
      (λ same. ap (word_at after r) same ∙ (other_there now now after r place word low small stored ∙ (is ∙ ap (slice_index words) (sym same))))
      (λ ne. other_kept now now after r place word low small stored i (omega arith) ne ∙ holds i (omega arith))

  pub one_copied_more : (count : ℕ) → place < count → word ≡ word_at now from place → Copied before now r from count place → Copied before after r from count (place + 1)
  one_copied_more count inside e h = record {
    free = free_on h.free;
    copied = λ words long holds.
        let t = h.copied words long holds in let is = e ∙ (t.0.others from place apart in_rows small ∙ holds place inside) in
        (one_other_more before now after r place word low small stored words t.0 (omega (arith, long)) is, front_on words is t.1);
  }

  pub one_named_more : (begin : ℕ) (pages : List ℕ) (index page : ℕ) → place ≡ begin + index → slice_get pages index ≡ Some page → word ≡ entry_word (start_of (word_at now from place)) page
      → Named before now r from begin pages index → Named before after r from begin pages (index + 1)
  one_named_more begin pages index page at there e h = record {
    free = free_on h.free;
    kept = λ i inside. kept_on i inside ∙ h.kept i inside;
    named = λ first words long has fills holds.
        let t = h.named first words long has fills holds in
        let is = e ∙ (ap (λ (w : ℕ). entry_word (start_of w) page) (h.kept place small ∙ ap (word_at before from) at) ∙ (has index page there ∙ ap (slice_index words) (sym at))) in
        (one_other_more first now after r place word low small stored words t.0 (omega (arith, long)) is, λ i below. front_on words is (λ j under. t.1 j (omega arith)) i (omega arith));
  }

pub all_copied : (before now : OperatorValue) (r from count n : ℕ) → count ≤ n → Copied before now r from count n → CopiesFront before now r from count
all_copied before now r from count n all h words long holds = let t = h.copied words long holds in (t.0, λ i low. t.1 i (omega arith))

pub all_named : (before now : OperatorValue) (r from begin : ℕ) (pages : List ℕ) (n : ℕ) → length pages ≤ n → Named before now r from begin pages n → FillsNames before now r from begin pages
all_named before now r from begin pages n all h first words long has fills holds = let t = h.named first words long has fills holds in (t.0, λ i low. t.1 i (omega arith))
