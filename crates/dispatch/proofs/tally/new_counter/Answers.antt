use Rattle.std.proofs.Common.{ap, arith, sym, ◌∙◌}
use Rattle.atomic_table.specs.Seated.{TableId}
use Rattle.dispatch.proofs.TallyLemmas.{splits_counter}
use Rattle.dispatch.proofs.tally.new_counter.Goals as goal

pub split_seat-seat-requires : goal.split_seat-seat-requires
split_seat-seat-requires c =
    let h = c.requires in let lent = ap (λ t. t.shared.table_id) (c.deref.ensures ∙ c.in_ok-table.ensures) in
    let seven = h.seat.words in let words = ap (λ (t : TableId). t.words) lent in
    (h.seat.same_table ∙ sym lent, omega arith, splits_counter c.args.seat.now.id c.args.seat.now.me.0 h.counters h.nothing)
