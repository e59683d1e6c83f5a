use Rattle.std.proofs.Common.{◌≡◌, length}
use Rattle.counter_text.specs.Growth.{group_before}
use Rattle.counter_text.proofs.growth.group_before.Given as goal

abbrev pub invariant-loop-left : goal.invariant-loop-left
invariant-loop-left l = group_before l.left l.later ≡ group_before l.before l.later

abbrev pub decreases-loop-left : goal.decreases-loop-left
decreases-loop-left l = length l.left
