use Rattle.retire.proofs.PageLemmas.{FillsSome}
use Rattle.retire.proofs.pages.fill_programs.Given as goal

abbrev pub invariant-loop-words : goal.invariant-loop-words
invariant-loop-words l = FillsSome l.fn.operator l.operator l.pages l.left l.fn.programs l.words-iterator
