use Rattle.std.proofs.Common.{length, ◌≡◌}
use Rattle.command_operating.specs.Telling.{has_space}
use Rattle.command_operating.proofs.telling.has_space.Given as goal

abbrev pub invariant-loop-left : goal.invariant-loop-left
invariant-loop-left l = has_space l.left ≡ has_space l.word

abbrev pub decreases-loop-left : goal.decreases-loop-left
decreases-loop-left l = length l.left
