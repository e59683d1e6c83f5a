use Rattle.test_table.proofs.tests.sections.publish.Goals as goal

pub fill_and_put-requires-clause-free : goal.fill_and_put-requires-clause-free
fill_and_put-requires-clause-free g c = c.is_free.ensures.free_row_exact.0 c.if-is_free.true
