use Rattle.test_table.proofs.tests.pages.row_filled.Goals as goal

pub fill-requires-clause-free : goal.fill-requires-clause-free
fill-requires-clause-free c = c.is_free.ensures.free_row_exact.0 c.if-not-is_free.false
