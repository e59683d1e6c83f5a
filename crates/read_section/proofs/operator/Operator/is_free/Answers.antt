use Rattle.std.proofs.Common.{IsTrue, subst, ◌↔◌}
use Rattle.versions.specs.Free.{IsFreeRow}
use Rattle.versions.specs.Table.{the_shape}
use Rattle.read_section.specs.Operator.{OperatorValue}
use Rattle.read_section.proofs.operator.Operator.is_free.Goals as goal

pub returns : goal.returns
returns c = record { free_row_exact = subst (λ (o : OperatorValue). IsTrue c.is_free.result ↔ IsFreeRow the_shape o.view c.args.row) c.self.view_is (c.is_free.ensures.free_row_exact _ c.self.invariant.steps_told) }
