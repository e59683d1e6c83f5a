use Rattle.std.proofs.Common.{arith, inl, inr, subst, sym, ◌-◌, ◌/◌, ⊎_elim, rules}
use Rattle.config_image.specs.declared.TheConstants.{PAGE_WORDS, ROW_WORDS}
use Rattle.versions.specs.declared.layout.TheConstants.{POOL_BEGIN, ROWS_BEGIN}
use Rattle.versions.specs.Free.{IsFreePage, IsFreeRow}
use Rattle.versions.specs.Table.{the_shape}
use Rattle.versions.proofs.ShapeLemmas.{behind_pool_begin, page_at_place, page_by_division, row_at_place, row_below_pool, row_by_division}
use Rattle.versions.proofs.book.Book.may_fill.Goals as goal

pub returns-then-place-lt-POOL_BEGIN : goal.returns-then-place-lt-POOL_BEGIN
returns-then-place-lt-POOL_BEGIN g c = let low = c.if-place-lt-POOL_BEGIN.true in record {
  may_fill_exact = λ view book. let free = c.is_free.ensures.free_row_exact view book in (
    (λ e. inl ((c.args.place - ROWS_BEGIN) / ROW_WORDS, free.0 e, row_at_place c.args.place c.if-place-lt-ROWS_BEGIN.false)),
    ⊎_elim (λ t. free.1 (subst (IsFreeRow the_shape view) (sym (row_by_division t.0 c.args.place t.2)) t.1)) (λ t. let up = behind_pool_begin t.0 c.args.place t.2 in absurd (omega arith)),
  );
}

pub returns : goal.returns
returns g c = let up = c.if-place-lt-POOL_BEGIN.false in record {
  may_fill_exact = λ view book. let free = c.page_is_free.ensures.free_page_exact view book in (
    (λ e. inr ((c.args.place - POOL_BEGIN) / PAGE_WORDS, free.0 e, page_at_place c.args.place up)),
    ⊎_elim (λ t. let low = row_below_pool t.0 c.args.place t.1.0 t.2 in absurd (omega arith)) (λ t. free.1 (subst (IsFreePage the_shape view) (sym (page_by_division t.0 c.args.place t.2)) t.1)),
  );
}

pub returns-then-place-lt-ROWS_BEGIN : goal.returns-then-place-lt-ROWS_BEGIN
returns-then-place-lt-ROWS_BEGIN g c = search rules
