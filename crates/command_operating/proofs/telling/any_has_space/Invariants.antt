use Rattle.std.proofs.Common.{length, map, ◌≡◌}
use Rattle.std.specs.List.{list_any}
use Rattle.command_operating.specs.Telling.{has_space}
use Rattle.command_operating.proofs.telling.any_has_space.Given as goal

abbrev pub invariant-loop-left : goal.invariant-loop-left
invariant-loop-left l = list_any has_space (map (λ word. word.now) l.left) ≡ list_any has_space (map (λ word. word.now) l.words)

abbrev pub decreases-loop-left : goal.decreases-loop-left
decreases-loop-left l = length l.left
