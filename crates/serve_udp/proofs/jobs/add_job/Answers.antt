use Rattle.std.proofs.Common.{refl}
use Rattle.serve_udp.proofs.JobsLemmas.{one_more, source_added}
use Rattle.serve_udp.proofs.jobs.add_job.Goals as goal

pub returns-clause-added : goal.returns-clause-added
returns-clause-added g c = λ many all all_counters made.
    one_more many _ _ _ _ _ made _ _ _ _ c.in-Some.ensures.items c.in-Some-pop.ensures.items _ refl refl
    c.requires.new c.requires.room _ c.in-Ok.ensures.items

pub returns-clause-source : goal.returns-clause-source
returns-clause-source g c = source_added _ _ _ c.in-Ok.ensures.items
