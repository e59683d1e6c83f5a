use Rattle.std.proofs.Common.{length}
use Rattle.control_line.proofs.RulesLemmas.{AreCounted}
use Rattle.control_line.proofs.rules_file.count_rules.Given as goal

abbrev pub invariant-loop-line : goal.invariant-loop-line
invariant-loop-line l = AreCounted l.text l.count l.left

abbrev pub decreases-loop-line : goal.decreases-loop-line
decreases-loop-line l = length l.left
