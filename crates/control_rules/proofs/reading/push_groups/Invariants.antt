use Rattle.control_rules.specs.History.{Learns}
use Rattle.control_rules.specs.body.Progress.{AddsFirstGroups}
use Rattle.control_rules.proofs.reading.push_groups.Given as goal

abbrev pub invariant-loop-index : goal.invariant-loop-index
invariant-loop-index g l =
    Learns l.fn.client l.client (λ history. AddsFirstGroups (history l.version) l.groups l.index l.fn.text.items l.text.items)
