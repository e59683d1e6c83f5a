use Rattle.std.proofs.Common.{◌≡◌, length}
use Rattle.control_line.specs.Rules.{is_skipped}
use Rattle.control_line.proofs.rules_file.is_skipped.Given as goal

abbrev pub invariant-loop-left : goal.invariant-loop-left
invariant-loop-left l = is_skipped l.left ≡ is_skipped l.line

abbrev pub decreases-loop-left : goal.decreases-loop-left
decreases-loop-left l = length l.left
