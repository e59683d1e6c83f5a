use Rattle.std.proofs.Common.{ℕ, ◌<◌}
use Rattle.versions.specs.Free.{IsFreeRow}
use Rattle.versions.specs.Table.{the_shape}
use Rattle.retire.proofs.row.free_row.Given as goal

abbrev pub invariant-loop-row : goal.invariant-loop-row
invariant-loop-row l = (r : ℕ) → r < l.row → IsFreeRow the_shape l.operator.view r → ⊥
