use Rattle.std.proofs.Common.{◌≡◌, length}
use Rattle.command_line.specs.Shares.{are_distinct}
use Rattle.command_line.proofs.shares.are_distinct.Given as goal

abbrev pub invariant-loop-left : goal.invariant-loop-left
invariant-loop-left l = are_distinct l.left ≡ are_distinct l.initial.left

abbrev pub decreases-loop-left : goal.decreases-loop-left
decreases-loop-left l = length l.left
