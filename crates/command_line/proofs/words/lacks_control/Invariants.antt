use Rattle.std.proofs.Common.{◌≡◌, length, map, string_bytes}
use Rattle.command_line.specs.Words.{lacks_control}
use Rattle.command_line.proofs.words.lacks_control.Given as goal

abbrev pub invariant-loop-left : goal.invariant-loop-left
invariant-loop-left l = lacks_control (map string_bytes l.left) ≡ lacks_control (map string_bytes l.initial.left)

abbrev pub decreases-loop-left : goal.decreases-loop-left
decreases-loop-left l = length l.left
