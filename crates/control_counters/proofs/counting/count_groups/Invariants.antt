use Rattle.std.proofs.Common.{◌≡◌, map, take}
use Rattle.control_counters.specs.Frame.{keys_of}
use Rattle.control_counters.specs.Counts.{group_exchange}
use Rattle.control_counters.specs.Watching.{Watches}
use Rattle.control_counters.proofs.counting.count_groups.Given as goal

abbrev pub invariant-loop-group : goal.invariant-loop-group
invariant-loop-group g l =
    Watches l.fn.client l.client (λ history told.
    (keys_of l.groups.items ≡ keys_of (take l.group-index l.known)) × (told ≡ map group_exchange l.groups.items))
