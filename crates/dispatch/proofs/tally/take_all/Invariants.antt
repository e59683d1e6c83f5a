use Rattle.std.proofs.Common.{◌≡◌, length}
use Rattle.packet_verdict.specs.declared.kind.Kind.{Kind}
use Rattle.dispatch.specs.Tally.{place_of, sum_of_counts, times}
use Rattle.dispatch.specs.body.TallyRule.{IsSeatOf}
use Rattle.dispatch.proofs.tally.take_all.Given as goal

abbrev pub invariant-loop-counter : goal.invariant-loop-counter
invariant-loop-counter l =
    (goal.iterator-loop-counter).can_next l.counter-iterator × (goal.iterator-loop-counter).is_finite l.counter-iterator
    × (l.seat.me.0.counters ≡ length l.yielded)
    × ((kind : Kind) → times (place_of kind) l.seat.me.0.added ≡ sum_of_counts kind l.yielded)
    × (l.seat.me.0.loads ≡ l.fn.seat.me.0.loads)
    × IsSeatOf l.seat.me.1 l.seat.table_id l.table.shared.table_id
