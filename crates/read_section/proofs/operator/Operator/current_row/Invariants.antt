use Rattle.std.proofs.Common.{◌≡◌, ◌+◌, ◌<◌, slice_index, ℕ}
use Rattle.read_section.proofs.operator.Operator.current_row.Given as goal

-- none of the rows before has the current version
abbrev pub invariant-loop-row : goal.invariant-loop-row
invariant-loop-row l = (q : ℕ) → q < l.row → slice_index l.self-inside.book.last q ≡ l.self-inside.book.number + 1 → ⊥
