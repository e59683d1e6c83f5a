use Rattle.std.proofs.Common.{◌≡◌, ◌-◌, [], length}
use Rattle.std.specs.Arc.{arc_value}
use Rattle.std.specs.List.{All}
use Rattle.dispatch.specs.declared.tally.TheConstants.{COUNTERS}
use Rattle.dispatch.specs.body.TallyRule.{IsSeatOf}
use Rattle.dispatch.proofs.tally.new_counters.Given as goal

abbrev pub invariant-loop : goal.invariant-loop
invariant-loop l =
    (l.seat.me.0 ≡ record { added = []; counters = COUNTERS - l.counter; loads = [] })
    × IsSeatOf l.seat.me.1 l.seat.table_id (arc_value l.table).shared.table_id
    × (length l.counters.items ≡ l.counter)
    × All (λ counter. counter ≡ record { table = (arc_value l.table).shared.table_id; log = [] }) l.counters.items
