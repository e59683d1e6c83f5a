use Rattle.std.proofs.Common.{◌-◌, ◌≤◌, length}
use Rattle.std.specs.List.{AllPairs}
use Rattle.control_summary.specs.Summary.{IsBefore}
use Rattle.control_summary.specs.body.Counted.{AreAbove, AreBelow}
use Rattle.control_summary.proofs.counted.place_of.Given as goal

abbrev pub invariant-loop-low : goal.invariant-loop-low
invariant-loop-low l = record {
  ordered : l.low ≤ l.high;
  within : l.high ≤ length l.rows;
  below : AllPairs IsBefore l.rows → AreBelow l.rows l.low l.kind;
  above : AllPairs IsBefore l.rows → AreAbove l.rows l.high l.kind;
}

abbrev pub decreases-loop-low : goal.decreases-loop-low
decreases-loop-low l = l.high - l.low
