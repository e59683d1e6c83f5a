use Rattle.bench_threads.specs.Sections.{none, one_more}
use Rattle.bench_threads.proofs.sections.make_sections.Goals as goal

pub loop-round-init : goal.loop-round-init
loop-round-init c = none c.args.worker.now

pub loop-round-preserved : goal.loop-round-preserved
loop-round-preserved c = one_more _ _ _ _ c.loop-round.invariant c.make_section.ensures
