use Rattle.std.proofs.Common.{Contains, length}
use Rattle.retire.specs.body.Allocation.{IsBehind, IsCounted}
use Rattle.retire.proofs.current_pages.PagedPrograms.find.Given as goal

abbrev pub invariant-loop-other : goal.invariant-loop-other
invariant-loop-other l = IsCounted l.self.programs l.self.pages.now × IsBehind l.fn.self.programs l.fn.self.pages.now l.self.programs l.self.pages.now
    × (Contains l.fn.self.programs l.words → Contains l.self.programs l.words)

abbrev pub decreases-loop-other : goal.decreases-loop-other
decreases-loop-other l = length l.self.programs
