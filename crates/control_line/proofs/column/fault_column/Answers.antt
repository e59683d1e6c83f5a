use Rattle.std.proofs.Common.{◌≡◌, ◌+◌, arith, length, subst}
use Rattle.control_line.specs.Column.{column_in}
use Rattle.control_line.proofs.ColumnLemmas.{one_text}
use Rattle.control_line.proofs.column.fault_column.Goals as goal

pub returns-in_default-clause-of_text : goal.returns-in_default-clause-of_text
returns-in_default-clause-of_text c = λ text has. absurd (c.in_default.ensures text has)

pub returns-then-place-line-clause-of_text : goal.returns-then-place-line-clause-of_text
returns-then-place-line-clause-of_text c = λ text has.
    let start = c.saturating_sub-start.ensures in
    let place = c.place_in.ensures in
    let sum = c.saturating_add-place.ensures in
    let inside = c.if-place-line.true in
    let fits = c.type_inv.line in
    subst (λ t. c.saturating_add-place.result + 1 ≡ column_in c.args.line.now t c.args.reason) (one_text c.args.line.now c.in-Some.text.now text c.in-Some.ensures has) (omega arith)

pub returns-else-place-line-clause-of_text : goal.returns-else-place-line-clause-of_text
returns-else-place-line-clause-of_text c = λ text has.
    let start = c.saturating_sub-start.ensures in
    let place = c.place_in.ensures in
    let sum = c.saturating_add-place.ensures in
    let past = c.if-place-line.false in
    subst (λ t. length c.args.line.now + 1 ≡ column_in c.args.line.now t c.args.reason) (one_text c.args.line.now c.in-Some.text.now text c.in-Some.ensures has) (omega arith)
