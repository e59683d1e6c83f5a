use Rattle.std.proofs.Common.{IsTrue, subst, ◌↔◌}
use Rattle.versions.specs.Free.{IsFreePage}
use Rattle.versions.specs.Table.{the_shape}
use Rattle.read_section.specs.Operator.{OperatorValue}
use Rattle.read_section.proofs.operator.Operator.page_is_free.Goals as goal

pub returns : goal.returns
returns c = record { page_free_exact = subst (λ (o : OperatorValue). IsTrue c.page_is_free.result ↔ IsFreePage the_shape o.view c.args.page) c.self.view_is (c.page_is_free.ensures.free_page_exact _ c.self.invariant.steps_told) }
