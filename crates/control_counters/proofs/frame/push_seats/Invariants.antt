use Rattle.control_rules.specs.History.{Learns}
use Rattle.control_counters.specs.body.Framed.{AddsFirstSeats}
use Rattle.control_counters.proofs.frame.push_seats.Given as goal

abbrev pub invariant-loop-index : goal.invariant-loop-index
invariant-loop-index g l =
    Learns l.fn.client l.client (λ history. AddsFirstSeats (history l.version) l.key l.members l.index l.fn.rows.items l.rows.items)
