use Rattle.bench_threads.specs.Sections.{AreSections}
use Rattle.bench_threads.proofs.sections.make_sections.Given as goal

abbrev pub invariant-loop-round : goal.invariant-loop-round
invariant-loop-round l = AreSections l._round l.fn.worker l.worker
