use Rattle.std.proofs.Common.{◌≡◌, map, take}
use Rattle.control_counters.specs.Frame.{seats_of}
use Rattle.control_counters.specs.Counts.{member_exchange}
use Rattle.control_counters.specs.Watching.{Watches}
use Rattle.control_counters.proofs.counting.count_members.Given as goal

abbrev pub invariant-loop-member : goal.invariant-loop-member
invariant-loop-member g l =
    Watches l.fn.client l.client (λ history told.
    (seats_of l.members.items ≡ seats_of (take l.member-index l.known)) × (told ≡ map member_exchange l.members.items))
