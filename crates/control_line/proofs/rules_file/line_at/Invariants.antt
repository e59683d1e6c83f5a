use Rattle.std.proofs.Common.{◌≡◌, length}
use Rattle.control_line.specs.Rules.{line_numbered, lines_in}
use Rattle.control_line.proofs.rules_file.line_at.Given as goal

abbrev pub invariant-loop-line : goal.invariant-loop-line
invariant-loop-line l = line_numbered l.number (lines_in l.text) ≡ line_numbered l.before (lines_in l.left)

abbrev pub decreases-loop-line : goal.decreases-loop-line
decreases-loop-line l = length l.left
