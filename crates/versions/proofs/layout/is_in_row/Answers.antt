use Rattle.std.proofs.Common.{ℕ, arith, eq-eqb, eqb-true, subst}
use Rattle.std.proofs.lemmas.Bool.{leb-true}
use Rattle.versions.specs.Layout.{IsInRow}
use Rattle.versions.specs.Table.{the_shape}
use Rattle.versions.proofs.ShapeLemmas.{behind_begin, row_at_place, row_by_division}
use Rattle.versions.proofs.layout.is_in_row.Goals as goal

pub returns-then-place-ge-ROWS_BEGIN : goal.returns-then-place-ge-ROWS_BEGIN
returns-then-place-ge-ROWS_BEGIN c = (
  (λ e. subst (λ (r : ℕ). IsInRow the_shape r c.args.place) (eqb-true _ _ e) (row_at_place c.args.place c.if-place-ge-ROWS_BEGIN.true)),
  λ h. eq-eqb _ _ (row_by_division c.args.row c.args.place h),
)

pub returns-else-place-ge-ROWS_BEGIN : goal.returns-else-place-ge-ROWS_BEGIN
returns-else-place-ge-ROWS_BEGIN c = let low = c.if-place-ge-ROWS_BEGIN.false in (
  (λ e. let h = leb-true _ _ e in absurd (omega arith)),
  λ h. let behind = behind_begin c.args.row c.args.place h in absurd (omega arith),
)
