use Rattle.std.proofs.Common.{◌≡◌}
use Rattle.test_config.proofs.tests.images.finds_groups.Given as goal

abbrev pub invariant-loop-index : goal.invariant-loop-index
invariant-loop-index l = l.list ≡ l.words
