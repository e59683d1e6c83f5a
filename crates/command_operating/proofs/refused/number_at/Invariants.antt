use Rattle.std.proofs.Common.{length, ◌≡◌}
use Rattle.command_operating.specs.RefusalLines.{number_at}
use Rattle.command_operating.proofs.refused.number_at.Given as goal

abbrev pub invariant-loop-left : goal.invariant-loop-left
invariant-loop-left l = number_at l.other l.left l.place ≡ number_at l.other l.numbers l.initial.place

abbrev pub decreases-loop-left : goal.decreases-loop-left
decreases-loop-left l = length l.left
