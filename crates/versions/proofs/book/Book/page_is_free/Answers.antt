use Rattle.std.proofs.Common.{◌<◌, arith, rules}
use Rattle.std.proofs.lemmas.Bool.{le-leb, leb-true}
use Rattle.versions.specs.Table.{the_shape}
use Rattle.versions.proofs.BookLemmas.{free_page_is, page_is_free}
use Rattle.versions.proofs.ShapeLemmas.{pages_is, workers_is}
use Rattle.versions.proofs.book.Book.page_is_free.Goals as goal

pub returns-then-page-lt-PAGES-clause-free_page_exact : goal.returns-then-page-lt-PAGES-clause-free_page_exact
returns-then-page-lt-PAGES-clause-free_page_exact g c = λ view book.
    let some_worker : 0 < the_shape.workers = omega (arith, workers_is) in let is_page = c.if-page-lt-PAGES.true in let low : c.args.page < the_shape.pages = omega (arith, pages_is) in let named = c.last_use.ensures in (
      (λ e. let up = leb-true _ _ e in page_is_free the_shape view c.args.self.now book c.args.page some_worker low (omega arith)),
      λ f. let up = free_page_is the_shape view c.args.self.now book c.args.page some_worker f in le-leb _ _ (omega arith),
    )

pub returns-else-page-lt-PAGES-clause-free_page_exact : goal.returns-else-page-lt-PAGES-clause-free_page_exact
returns-else-page-lt-PAGES-clause-free_page_exact g c = λ view book. let none = c.if-page-lt-PAGES.false in (
  (λ e. let low = Rattle.std.proofs.lemmas.Bool.ltb-true _ _ e in absurd (omega arith)),
  λ f. let low = f.0 in absurd (omega (arith, pages_is)),
)

pub returns-else-page-lt-PAGES-clause-a_page : goal.returns-else-page-lt-PAGES-clause-a_page
returns-else-page-lt-PAGES-clause-a_page g c = search rules

pub returns-then-page-lt-PAGES-clause-a_page : goal.returns-then-page-lt-PAGES-clause-a_page
returns-then-page-lt-PAGES-clause-a_page g c = search rules
