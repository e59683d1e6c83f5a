use Rattle.std.proofs.Common.{◌≡◌, ◌+◌, ◌≤◌}
use Rattle.test_table.proofs.tests.extents.ready_count.Given as goal

abbrev pub invariant-loop-place : goal.invariant-loop-place
invariant-loop-place g l =
    (g.W.Words.words l.words ≡ g.W.Words.words l.fn.words) × (g.W.Words.ready_shift l.words ≡ l.shift) × (g.W.Words.ready_from l.words ≤ l.i)
    × (l.limit ≡ l.shift + g.W.Words.ready_to l.words)
