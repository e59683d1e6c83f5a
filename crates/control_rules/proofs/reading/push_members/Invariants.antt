use Rattle.control_rules.specs.History.{Learns}
use Rattle.control_rules.specs.body.Progress.{AddsFirstMembers}
use Rattle.control_rules.proofs.reading.push_members.Given as goal

abbrev pub invariant-loop-index : goal.invariant-loop-index
invariant-loop-index g l =
    Learns l.fn.client l.client (λ history. AddsFirstMembers (history l.version) l.key l.members l.index l.fn.text.items l.text.items)
