use Rattle.std.proofs.Common.{ap, arith, ◌∙◌}
use Rattle.dispatch.specs.Tally.{CounterValue}
use Rattle.dispatch.proofs.TallyLemmas.{joins_counter}
use Rattle.dispatch.proofs.tally.take_back.Goals as goal

pub join_seat-requires : goal.join_seat-requires
join_seat-requires c =
    let seven = c.requires.seat.words in (
      c.requires.seat.same_table,
      ap (λ (counter : CounterValue). counter.table) c.counter.view_is ∙ c.requires.table,
      c.counter.invariant.1.no_slots,
      omega arith,
      joins_counter c.args.seat.now.id c.counter.inside.seat.id c.args.seat.now.me.0 c.counter.inside.seat.me.0,
    )
