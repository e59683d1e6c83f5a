use Rattle.test_table.proofs.tests.pages.page_filled.Goals as goal

pub fill_page-requires-clause-free : goal.fill_page-requires-clause-free
fill_page-requires-clause-free c = c.page_is_free.ensures.page_free_exact.0 c.if-not-page_is_free.false
