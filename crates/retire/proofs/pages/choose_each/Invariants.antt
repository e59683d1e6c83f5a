use Rattle.std.proofs.Common.{◌≡◌, IfSome, length}
use Rattle.config_image.specs.Walk.{words_of_programs}
use Rattle.retire.specs.body.Allocation.{IsBehindNoneFree, IsPassing}
use Rattle.retire.proofs.AllocationLemmas.{SomeAllocated}
use Rattle.retire.proofs.pages.choose_each.Given as goal

abbrev pub invariant-loop-words : goal.invariant-loop-words
invariant-loop-words g l = SomeAllocated l.operator.view (words_of_programs l.initial.current.config.now) l.initial.current.pages.now (words_of_programs l.config) l.programs l.allocation
    × (l.current.config ≡ l.initial.current.config) × (l.current.pages ≡ l.initial.current.pages)
    × IsPassing (words_of_programs l.initial.current.config.now) l.initial.current.pages.now l.current.left.programs l.current.left.pages.now
    × IfSome l.first (λ first. IsBehindNoneFree l.operator.view (words_of_programs l.config) l.allocation.pages first.0.now first.1)

abbrev pub decreases-loop-words : goal.decreases-loop-words
decreases-loop-words g l = length l.programs
