use Rattle.std.proofs.Common.{◌≡◌, ◌<◌, length, ℕ}
use Rattle.std.specs.List.{All}
use Rattle.test_config.proofs.tests.pooled.pages_from.Given as goal

abbrev pub invariant-loop-part : goal.invariant-loop-part
invariant-loop-part g l = (length l.pages.items ≡ l.part) × All (λ (page : ℕ). page < 65536) l.pages.items
