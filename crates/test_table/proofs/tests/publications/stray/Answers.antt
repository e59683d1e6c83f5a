use Rattle.test_table.proofs.tests.publications.stray.Goals as goal

pub fill-requires-clause-free : goal.fill-requires-clause-free
fill-requires-clause-free c = c.is_free.ensures.free_row_exact.0 c.if-is_free.true
