use Rattle.control_rules.specs.History.{Learns}
use Rattle.control_counters.specs.body.Framed.{AddsFirstGroups}
use Rattle.control_counters.proofs.frame.push_groups.Given as goal

abbrev pub invariant-loop-index : goal.invariant-loop-index
invariant-loop-index g l =
    Learns l.fn.client l.client (λ history. AddsFirstGroups (history l.shown.version) l.index l.fn.groups.items l.groups.items l.fn.members.items l.members.items)
