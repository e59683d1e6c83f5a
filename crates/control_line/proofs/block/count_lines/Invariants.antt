use Rattle.std.proofs.Common.{◌≡◌, ◌+◌, ◌≤◌, List, length, ℕ}
use Rattle.control_line.proofs.BlockLemmas.{AreReadTo}
use Rattle.control_line.proofs.block.count_lines.Given as goal

abbrev pub invariant-loop-line : goal.invariant-loop-line
invariant-loop-line l = ((lines : List (List ℕ)) × AreReadTo l.text l.left lines × (l.count ≡ length lines)) × (l.count + length l.left ≤ length l.text)

abbrev pub decreases-loop-line : goal.decreases-loop-line
decreases-loop-line l = length l.left
