use Rattle.std.proofs.Common.{length}
use Rattle.retire.proofs.RunLemmas.{IsRunning}
use Rattle.retire.proofs.current_pages.PagedPrograms.pass_equal.Given as goal

abbrev pub invariant-loop-words : goal.invariant-loop-words
invariant-loop-words l = IsRunning l.fn.programs l.fn.self.programs l.fn.self.pages.now l.programs l.self.programs l.self.pages.now l.count

abbrev pub decreases-loop-words : goal.decreases-loop-words
decreases-loop-words l = length l.programs
