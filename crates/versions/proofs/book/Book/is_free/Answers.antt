use Rattle.std.proofs.Common.{◌<◌, arith, rules}
use Rattle.std.proofs.lemmas.Bool.{le-leb, leb-true}
use Rattle.versions.specs.Table.{the_shape}
use Rattle.versions.proofs.BookLemmas.{free_row_is, row_is_free}
use Rattle.versions.proofs.ShapeLemmas.{rows_is, workers_is}
use Rattle.versions.proofs.book.Book.is_free.Goals as goal

pub returns-then-row-lt-ROWS-clause-free_row_exact : goal.returns-then-row-lt-ROWS-clause-free_row_exact
returns-then-row-lt-ROWS-clause-free_row_exact g c = λ view book.
    let some_worker : 0 < the_shape.workers = omega (arith, workers_is) in let is_row = c.if-row-lt-ROWS.true in let low : c.args.row < the_shape.rows = omega (arith, rows_is) in (
      (λ e. row_is_free the_shape view c.args.self.now book c.args.self.now.free c.args.row some_worker book.free low (leb-true _ _ e)),
      λ f. le-leb _ _ (free_row_is the_shape view c.args.self.now book c.args.self.now.free c.args.row some_worker book.free f),
    )

pub returns-else-row-lt-ROWS-clause-a_row : goal.returns-else-row-lt-ROWS-clause-a_row
returns-else-row-lt-ROWS-clause-a_row g c = search rules

pub returns-else-row-lt-ROWS-clause-free_row_exact : goal.returns-else-row-lt-ROWS-clause-free_row_exact
returns-else-row-lt-ROWS-clause-free_row_exact g c = search rules

pub returns-then-row-lt-ROWS-clause-a_row : goal.returns-then-row-lt-ROWS-clause-a_row
returns-then-row-lt-ROWS-clause-a_row g c = search rules
