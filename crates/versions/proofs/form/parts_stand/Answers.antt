use Rattle.std.proofs.Common.{◌≡◌, ◌∙◌, ◌+◌, ◌-◌, ◌*◌, ◌<◌, ◌≤◌, arith, false, get_or, sym, true, refl, subst, ℕ}
use mathlib.Core.Logic.{dite}
use native.Mathlib.Decide.{ℕ_discrete}
use Rattle.config_image.specs.declared.TheConstants.{PAGE_WORDS}
use Rattle.config_image.specs.Image.{image}
use Rattle.config_image.specs.PageTable.{page_of}
use Rattle.versions.specs.declared.layout.TheConstants.{POOL_BEGIN}
use Rattle.versions.specs.body.Names.{begin_in}
use Rattle.versions.proofs.FormLemmas.{StandsIn, all_stand, one_stands, page_at, part_fits}
use Rattle.versions.proofs.form.parts_stand.Goals as goal

pub part_stands-requires-clause-page : goal.part_stands-requires-clause-page
part_stands-requires-clause-page g c = rw c.page-page.ensures.page (c.requires.pages c.loop-index.index _ (page_at c.args.names.now c.loop-index.index c.loop-index-test.true))

pub part_stands-requires-clause-part : goal.part_stands-requires-clause-part
part_stands-requires-clause-part g c = let fits = part_fits c.args.config.now c.args.names.now c.requires.names c.image_len-len.result c.loop-index.index c.image_len-len.ensures.length_exact c.loop-index-test.true in
    omega (arith, fits.0, c.part_begin-begin.ensures, c.part_begin-end.ensures)

pub part_stands-requires-clause-inside : goal.part_stands-requires-clause-inside
part_stands-requires-clause-inside g c = let fits = part_fits c.args.config.now c.args.names.now c.requires.names c.image_len-len.result c.loop-index.index c.image_len-len.ensures.length_exact c.loop-index-test.true in
    omega (arith, fits.1, c.part_begin-end.ensures)

false_true : false ≡ true → ⊥
false_true e = cc

true_false : true ≡ false → ⊥
true_false e = cc

pub loop-index-preserved : goal.loop-index-preserved
loop-index-preserved g c =
    let config = c.args.config.now in let names = c.args.names.now in let words = c.args.words.now in let len = c.image_len-len.result in let index = c.loop-index.index in let page = page_of (get_or names index 0) in
    let here : StandsIn config names words len index page =
    subst (λ (b : ℕ). (i : ℕ) → b ≤ i → i < begin_in names len (index + 1) → get_or words (POOL_BEGIN + page * PAGE_WORDS + (i - b)) 0 ≡ get_or (image config) i 0) c.part_begin-begin.ensures
    (subst (λ (e : ℕ). (i : ℕ) → c.part_begin-begin.result ≤ i → i < e → get_or words (POOL_BEGIN + page * PAGE_WORDS + (i - c.part_begin-begin.result)) 0 ≡ get_or (image config) i 0) c.part_begin-end.ensures
    (subst (λ (q : ℕ). (i : ℕ) → c.part_begin-begin.result ≤ i → i < c.part_begin-end.result → get_or words (POOL_BEGIN + q * PAGE_WORDS + (i - c.part_begin-begin.result)) 0 ≡ get_or (image config) i 0) c.page-page.ensures.page (c.part_stands.ensures.0 c.if-not-part_stands.false))) in
    λ k low. dite (ℕ_discrete k index)
    (λ same. subst (λ (j : ℕ). StandsIn config names words len j (page_of (get_or names j 0))) (sym same) here)
    (λ other. c.loop-index.invariant k (omega arith))

pub returns-then-not-part_stands : goal.returns-then-not-part_stands
returns-then-not-part_stands g c =
    let config = c.args.config.now in let names = c.args.names.now in let words = c.args.words.now in let len = c.image_len-len.result in let index = c.loop-index.index in let page = page_of (get_or names index 0) in (
      (λ e. absurd (false_true e)),
      λ h. absurd (true_false (sym (c.part_stands.ensures.1
          (subst (λ (q : ℕ). (i : ℕ) → c.part_begin-begin.result ≤ i → i < c.part_begin-end.result → get_or words (POOL_BEGIN + q * PAGE_WORDS + (i - c.part_begin-begin.result)) 0 ≡ get_or (image config) i 0) (sym c.page-page.ensures.page)
          (subst (λ (e : ℕ). (i : ℕ) → c.part_begin-begin.result ≤ i → i < e → get_or words (POOL_BEGIN + page * PAGE_WORDS + (i - c.part_begin-begin.result)) 0 ≡ get_or (image config) i 0) (sym c.part_begin-end.ensures)
          (subst (λ (b : ℕ). (i : ℕ) → b ≤ i → i < begin_in names len (index + 1) → get_or words (POOL_BEGIN + page * PAGE_WORDS + (i - b)) 0 ≡ get_or (image config) i 0) (sym c.part_begin-begin.ensures)
          (one_stands config names c.requires.names words len index c.image_len-len.ensures.length_exact c.loop-index-test.true h)))))
          ∙ c.if-not-part_stands.true)),
    )

pub returns : goal.returns
returns g c = (
  (λ e. all_stand c.args.config.now c.args.names.now c.requires.names c.args.words.now c.image_len-len.result c.loop-index.index c.image_len-len.ensures.length_exact c.loop-index-test.false c.loop-index.invariant),
  λ h. refl,
)
