use Rattle.std.proofs.Common.{◌≡◌}
use Rattle.test_config.proofs.tests.images.finds_members.Given as goal

abbrev pub invariant-loop-at : goal.invariant-loop-at
invariant-loop-at l = l.list ≡ l.words
