use Rattle.std.proofs.Common.{◌≡◌, take}
use Rattle.std.specs.List.{flat_map}
use Rattle.control_summary.specs.Summary.{row_text}
use Rattle.control_summary.proofs.counted.Counted.text.Given as goal

abbrev pub invariant-loop-row : goal.invariant-loop-row
invariant-loop-row l = l.text.items ≡ flat_map row_text (take l.row-index l.self.rows.items)
