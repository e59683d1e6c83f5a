use Rattle.std.proofs.Common.{◌≡◌, ◌∙◌, ◌+◌, ◌-◌, ◌*◌, ◌≤◌, false, get_or, sym, true, ℕ}
use Rattle.std.proofs.lemmas.Option.{get_or_from_slice_get}
use borrow.Author.Count.{below_more}
use Rattle.config_image.specs.declared.TheConstants.{PAGE_WORDS}
use Rattle.config_image.specs.Image.{image}
use Rattle.versions.specs.declared.layout.TheConstants.{POOL_BEGIN}
use Rattle.versions.proofs.form.part_stands.Goals as goal

false_true : false ≡ true → ⊥
false_true e = cc

pub loop-i-preserved : goal.loop-i-preserved
loop-i-preserved g c =
    let i = c.loop-i.i in
    let begin = c.args.begin in
    let words = c.args.words.now in
    let config = image c.args.config.now in
    let here = rw c.page_place.ensures at c.if-words-page_place.false ∙ sym (get_or_from_slice_get config i c.image_word.result 0 c.image_word.ensures.word_exact) in λ k from low.
    below_more (λ (k : ℕ). begin ≤ k → get_or words (POOL_BEGIN + c.args.page * PAGE_WORDS + (k - begin)) 0 ≡ get_or config k 0) i
    (λ k low from. c.loop-i.invariant k from low) (λ from. here) k low from

pub returns-then-words-page_place : goal.returns-then-words-page_place
returns-then-words-page_place g c = (
  (λ e. absurd (false_true e)),
  λ h. absurd ((rw c.page_place.ensures at c.if-words-page_place.true) (h c.loop-i.i c.loop-i.auto.i c.loop-i-test.true
      ∙ get_or_from_slice_get (image c.args.config.now) c.loop-i.i c.image_word.result 0 c.image_word.ensures.word_exact)),
)
