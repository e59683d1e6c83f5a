use Rattle.std.proofs.Common.{◌+◌, ◌-◌, ◌/◌, arith, sym, rules}
use Rattle.control_summary.proofs.CountLemmas.{above_more, below_more, is_place}
use Rattle.control_summary.proofs.counted.place_of.Goals as goal

pub loop-low-preserved-in-Less : goal.loop-low-preserved-in-Less
loop-low-preserved-in-Less c =
    let before = c.loop-low.invariant in
    let test = c.loop-low-test.true in record {
      ordered = omega arith;
      within = before.within;
      below = λ rising.
          below_more c.args.rows.now rising (c.loop-low.low + (c.loop-low.high - c.loop-low.low) / 2) c.index-rows-middle.result (omega arith) c.index-rows-middle.is c.args.kind.now
          (sym c.in-Less.ensures);
      above = before.above;
    }

pub loop-low-preserved : goal.loop-low-preserved
loop-low-preserved c =
    let before = c.loop-low.invariant in
    let test = c.loop-low-test.true in record {
      ordered = omega arith;
      within = omega arith;
      below = before.below;
      above = λ rising.
          above_more c.args.rows.now rising (c.loop-low.low + (c.loop-low.high - c.loop-low.low) / 2) c.index-rows-middle.result (omega arith) c.index-rows-middle.is c.args.kind.now
          (sym c.in-Greater.ensures);
    }

pub returns-in-Equal-clause-found : goal.returns-in-Equal-clause-found
returns-in-Equal-clause-found c =
    let before = c.loop-low.invariant in
    let test = c.loop-low-test.true in
    is_place c.args.rows.now (c.loop-low.low + (c.loop-low.high - c.loop-low.low) / 2) c.index-rows-middle.result (omega arith) c.index-rows-middle.is c.args.kind.now (sym c.in-Equal.ensures)

pub returns-clause-above : goal.returns-clause-above
returns-clause-above c = search rules

pub returns-clause-below : goal.returns-clause-below
returns-clause-below c = search rules

pub returns-clause-found : goal.returns-clause-found
returns-clause-found c = search rules

pub returns-clause-within : goal.returns-clause-within
returns-clause-within c = search rules

pub returns-in-Equal-clause-above : goal.returns-in-Equal-clause-above
returns-in-Equal-clause-above c = search rules

pub returns-in-Equal-clause-below : goal.returns-in-Equal-clause-below
returns-in-Equal-clause-below c = search rules

pub returns-in-Equal-clause-within : goal.returns-in-Equal-clause-within
returns-in-Equal-clause-within c = search rules
