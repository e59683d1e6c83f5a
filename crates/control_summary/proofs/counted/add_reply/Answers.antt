use Rattle.control_summary.proofs.CountLemmas.{counted_again, counted_first}
use Rattle.control_summary.proofs.counted.add_reply.Goals as goal

pub returns-in-Ok : goal.returns-in-Ok
returns-in-Ok c =
    counted_again c.args.rows.now.items c.deref.result.now c.args.kind.now c.in-Ok.place c.index_mut-row.result.now c.add_one.new.self c.deref.ensures.value c.in-Ok.ensures.found
    c.index_mut-row.ensures.value c.add_one.ensures

pub returns-in_ok-insert-in-Err : goal.returns-in_ok-insert-in-Err
returns-in_ok-insert-in-Err c =
    counted_first c.args.rows.now.items c.deref.result.now c.insert.new.self.items c.args.kind.now c.in-Err.place c.in_ok-row-in-Err.row c.deref.ensures.value
    c.in-Err.ensures.within c.in-Err.ensures.below c.in-Err.ensures.above c.in_ok-row-in-Err.ensures c.in_ok-insert-in-Err.ensures.items
