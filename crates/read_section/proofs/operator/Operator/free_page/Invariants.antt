use Rattle.std.proofs.Common.{ℕ, ◌<◌, ◌≤◌}
use Rattle.versions.specs.Free.{IsFreePage}
use Rattle.versions.specs.Table.{the_shape}
use Rattle.read_section.proofs.operator.Operator.free_page.Given as goal

abbrev pub invariant-loop-page : goal.invariant-loop-page
invariant-loop-page l = (q : ℕ) → l.fn.from ≤ q → q < l.page → IsFreePage the_shape l.fn.self.view q → ⊥
