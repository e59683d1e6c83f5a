use Rattle.std.proofs.Common.{◌≡◌, ◌∙◌, ◌++◌, ap, arith, get_or, get_or-set_other, get_or-set_same, length, length-set, set, subst, sym, ℕ}
use Rattle.std.proofs.lemmas.List.{length-take-le, take_all}
use mathlib.Core.Logic.{dite}
use native.Mathlib.Decide.{ℕ_discrete}
use Rattle.config_image.specs.Pooled.{ArePages, parts, pooled_row}
use Rattle.versions.specs.World.{first_pages}
use Rattle.versions.proofs.OpenedLemmas.{are_first_pages, few, first_pages_read, length-own_row, one_row_word_more}
use Rattle.versions.proofs.world.push_row.Goals as goal

pub loop-page-preserved : goal.loop-page-preserved
loop-page-preserved g c = let exact = c.page_count-count.ensures.exact in let few_pages = few c.args.config.now c.requires.room in let low = c.loop-page-test.true in let long = c.loop-page.invariant.0 in let page = c.loop-page.page in (
  length-set c.loop-page.pages page page ∙ long,
  λ k below. dite (ℕ_discrete k page)
      (λ same. ap (λ (i : ℕ). get_or (set c.loop-page.pages page page) i 0) same ∙ (get_or-set_same c.loop-page.pages page page 0 (omega arith) ∙ sym same))
      (λ other. get_or-set_other c.loop-page.pages page k page 0 other ∙ c.loop-page.invariant.1 k (omega arith)),
)

pub stored_word-requires-clause-pages : goal.stored_word-requires-clause-pages
stored_word-requires-clause-pages g c = let config = c.args.config.now in let room = c.requires.room in let exact = c.page_count-count.ensures.exact in let few_pages = few config room in let long = c.loop-page.invariant.0 in
    subst (ArePages config) (sym (first_pages_read config room c.loop-page.pages c.page_count-count.result c.loop-page.page c.page_count-count.ensures.exact c.loop-page-test.false (omega arith) c.loop-page.invariant.1)) (are_first_pages config room)

pub loop-i-preserved : goal.loop-i-preserved
loop-i-preserved g c = let config = c.args.config.now in let room = c.requires.room in let row = pooled_row config (first_pages (length (parts config))) in let low = c.loop-i-test.true in
    let long = c.loop-page.invariant.0 in let few_pages = few config room in let exact = c.page_count-count.ensures.exact in
    let word : c.stored_word.result ≡ get_or row c.loop-i.i 0 = c.stored_word.ensures.word_exact ∙ ap (λ l. get_or (pooled_row config l) c.loop-i.i 0)
    (first_pages_read config room c.loop-page.pages c.page_count-count.result c.loop-page.page exact c.loop-page-test.false (omega arith) c.loop-page.invariant.1) in
    one_row_word_more c.args.words.now.items c.loop-i.words.items c.push.new.self.items row c.loop-i.i c.stored_word.result c.loop-i.invariant c.in_ok-push.ensures.items word (omega (arith, length-own_row config room))

pub returns : goal.returns
returns g c = record { pushed = c.loop-i.invariant ∙ ap (λ l. c.args.words.now.items ++ l) (take_all c.loop-i.i (pooled_row c.args.config.now (first_pages (length (parts c.args.config.now)))) (let end = c.loop-i-test.false in omega (arith, length-own_row c.args.config.now c.requires.room))) }

pub bounds-pages-page : goal.bounds-pages-page
bounds-pages-page g c = let exact = c.page_count-count.ensures.exact in let few_pages = few c.args.config.now c.requires.room in let low = c.loop-page-test.true in omega arith

pub slice_bounds-pages-end : goal.slice_bounds-pages-end
slice_bounds-pages-end g c = let exact = c.page_count-count.ensures.exact in let few_pages = few c.args.config.now c.requires.room in let long = c.loop-page.invariant.0 in omega arith

pub slice_bounds-stored_word-end : goal.slice_bounds-stored_word-end
slice_bounds-stored_word-end g c = let exact = c.page_count-count.ensures.exact in let few_pages = few c.args.config.now c.requires.room in let long = c.loop-page.invariant.0 in
    sym (length-take-le c.page_count-count.result c.loop-page.pages (omega arith))
