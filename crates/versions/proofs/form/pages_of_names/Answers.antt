use Rattle.std.proofs.Common.{◌≡◌, ◌∙◌, ap, arith, get_or, get_or-set_other, get_or-set_same, length-set, set, ℕ}
use Rattle.config_image.specs.PageTable.{page_of}
use mathlib.Core.Logic.{dite}
use native.Mathlib.Decide.{ℕ_discrete}
use Rattle.versions.proofs.FormLemmas.{page_at, pages_read}
use Rattle.versions.proofs.form.pages_of_names.Goals as goal

pub returns-then-page-ge-PAGES : goal.returns-then-page-ge-PAGES
returns-then-page-ge-PAGES c = (c.loop-index.index, page_of (get_or c.args.names.now c.loop-index.index 0), page_at c.args.names.now c.loop-index.index c.loop-index-test.true, rw c.page-page.ensures.page at c.if-page-ge-PAGES.true)

pub loop-index-preserved : goal.loop-index-preserved
loop-index-preserved c = let low = c.loop-index-test.true in let few = c.requires in let at = c.loop-index.index in let page = c.page-page.result in let told = c.page-page.ensures.page in let long = c.loop-index.invariant.0 in (
  length-set c.loop-index.pages at page ∙ long,
  λ i below. dite (ℕ_discrete i at)
      (λ same. (
        ap (λ (k : ℕ). get_or (set c.loop-index.pages at page) k 0) same ∙ (get_or-set_same c.loop-index.pages at page 0 (omega arith) ∙ (told ∙ ap (λ (k : ℕ). page_of (get_or c.args.names.now k 0)) (let g : at ≡ i = omega arith in g))),
        let under = c.if-page-ge-PAGES.false in let is = ap (λ (k : ℕ). page_of (get_or c.args.names.now k 0)) same in omega arith,
      ))
      (λ other. let was = c.loop-index.invariant.1 i (omega arith) in (get_or-set_other c.loop-index.pages at i page 0 other ∙ was.0, was.1)),
)

pub returns : goal.returns
returns c = let few = c.requires in let long = c.loop-index.invariant.0 in pages_read c.args.names.now c.loop-index.pages c.loop-index.index c.loop-index-test.false (omega arith) c.loop-index.invariant.1
