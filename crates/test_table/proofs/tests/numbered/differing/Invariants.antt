use Rattle.std.proofs.Common.{length, ◌≡◌}
use Rattle.test_table.proofs.tests.numbered.differing.Given as goal

abbrev pub invariant-loop-i : goal.invariant-loop-i
invariant-loop-i g l = (g.W.Words.words l.words ≡ g.W.Words.words l.fn.words) × (g.W.Words.rest l.words ≡ g.W.Words.rest l.fn.words) × (l.i-end ≡ length (g.W.Words.words l.fn.words))
