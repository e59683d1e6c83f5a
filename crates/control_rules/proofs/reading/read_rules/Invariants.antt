use Rattle.control_rules.specs.History.{Learns}
use Rattle.control_rules.proofs.reading.read_rules.Given as goal

abbrev pub invariant-loop-turn : goal.invariant-loop-turn
invariant-loop-turn g l = Learns l.fn.client l.client (λ history. Unit {0})
