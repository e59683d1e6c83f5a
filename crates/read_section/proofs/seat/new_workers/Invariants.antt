use Rattle.std.specs.Arc.{arc_value}
use Rattle.read_section.specs.body.Seat.{IsSeatAt, IsSeating}
use Rattle.read_section.proofs.OpeningLemmas.{workers_so_far}
use Rattle.read_section.proofs.seat.new_workers.Given as goal

abbrev pub invariant-loop-number : goal.invariant-loop-number
invariant-loop-number l = IsSeating l.seat.me.0 (arc_value l.table).shared.key l.number × IsSeatAt l.seat.me.1 l.seat.table_id (arc_value l.table).shared.table_id
    × workers_so_far (arc_value l.table).shared.key (arc_value l.table).shared.table_id l.workers.items l.number
