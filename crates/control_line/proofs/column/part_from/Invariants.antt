use Rattle.std.proofs.Common.{◌≡◌, ◌+◌, drop}
use Rattle.control_line.specs.Column.{place_of_line}
use Rattle.control_line.proofs.column.part_from.Given as goal

abbrev pub invariant-loop-place : goal.invariant-loop-place
invariant-loop-place l = place_of_line l.part l.text ≡ l.place + place_of_line l.left (drop l.place l.text)
