use Rattle.std.proofs.Common.{length}
use Rattle.control_line.proofs.RulesLemmas.{AreDoneBefore}
use Rattle.control_line.proofs.rules_file.config_of_rules.Given as goal

abbrev pub invariant-loop-line : goal.invariant-loop-line
invariant-loop-line l = AreDoneBefore l.text l.number l.left l.config

abbrev pub decreases-loop-line : goal.decreases-loop-line
decreases-loop-line l = length l.left
