use Rattle.std.proofs.Common.{◌≡◌, length}
use Rattle.counter_text.specs.Growth.{member_before}
use Rattle.counter_text.proofs.growth.member_before.Given as goal

abbrev pub invariant-loop-left : goal.invariant-loop-left
invariant-loop-left l = member_before l.left l.later ≡ member_before l.before l.later

abbrev pub decreases-loop-left : goal.decreases-loop-left
decreases-loop-left l = length l.left
