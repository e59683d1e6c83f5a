use Rattle.std.proofs.Common.{◌+◌, ◌≤◌, List, length, ℕ}
use Rattle.control_line.specs.Block.{EndsLine}
use Rattle.control_line.specs.body.Blocks.{AreLines}
use Rattle.control_line.proofs.BlockLemmas.{AreDoneTo}
use Rattle.control_line.proofs.block.config_of_lines.Given as goal

abbrev pub invariant-loop-line : goal.invariant-loop-line
invariant-loop-line l = ((lines : List (List ℕ)) → AreLines l.text lines → AreDoneTo l.initial.config l.config l.number l.left lines)
    × EndsLine l.left
    × (l.number + length l.left ≤ length l.text)

abbrev pub decreases-loop-line : goal.decreases-loop-line
decreases-loop-line l = length l.left
