use Rattle.control_rules.specs.History.{History}
use Rattle.control_counters.specs.Reading.{IsKnown}
use Rattle.control_counters.specs.Watching.{Watches}
use Rattle.control_counters.proofs.reading.read_counters.Given as goal

abbrev pub invariant-loop-turn : goal.invariant-loop-turn
invariant-loop-turn g l =
    Watches l.fn.client l.client (λ history told. Unit {0}) × ((history : History) → IsKnown history l.fn.earlier → IsKnown history l.known)
