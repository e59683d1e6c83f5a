use Rattle.control_rules.specs.Drain.{AreDrainTries}
use Rattle.control_rules.proofs.draining.drain.Given as goal

abbrev pub invariant-loop-turn : goal.invariant-loop-turn
invariant-loop-turn g l = AreDrainTries l.key l.id l.fn.client l.client
