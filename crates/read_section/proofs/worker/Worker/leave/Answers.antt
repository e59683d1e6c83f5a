use Rattle.std.proofs.Common.{subst, sym}
use Rattle.read_section.specs.body.Cache.{IsCacheOf}
use Rattle.read_section.specs.Worker.{IsOutside, WorkerValue}
use Rattle.read_section.proofs.CacheLemmas.{cache_after_leave}
use Rattle.read_section.specs.Section.{EndsInFetches}
use Rattle.read_section.proofs.SectionLemmas.{EndsInFetches-inside, EndsInFetches-outside, outside_of_none}
use Rattle.read_section.proofs.worker.Worker.leave.Goals as goal

pub returns-then-is_none-clause-ends_in_fetches : goal.returns-then-is_none-clause-ends_in_fetches
returns-then-is_none-clause-ends_in_fetches c = subst EndsInFetches c.self.view_is (EndsInFetches-outside c.self.inside.seat (outside_of_none c.self.inside.held _ c.if-is_none.ensures c.self.invariant.0))

pub returns-clause-ends_in_fetches : goal.returns-clause-ends_in_fetches
returns-clause-ends_in_fetches c = subst EndsInFetches c.self.view_is (EndsInFetches-inside c.self.inside.seat c.leave.ensures.own_log)

pub invariant_of-self : goal.invariant_of-self
invariant_of-self c = subst (λ (w : WorkerValue). IsOutside w.view.stage × IsCacheOf w.view c.self.inside.cache) (sym c.leave.ensures.one_step) (tt, cache_after_leave c.self.inside.seat.view c.self.inside.cache c.self.invariant.1)
