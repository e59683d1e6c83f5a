use Rattle.std.proofs.Common.{◌≡◌, ◌<◌, IsTrue, slice_index, ℕ}
use Rattle.retire.proofs.row_reuse.all_same.Given as goal

abbrev pub invariant-loop-at : goal.invariant-loop-at
invariant-loop-at l = IsTrue l.same → (i : ℕ) → i < l.at → slice_index l.words i ≡ slice_index l.other i
