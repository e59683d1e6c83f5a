use Rattle.std.proofs.Common.{subst, sym}
use Rattle.read_section.specs.body.Cache.{IsCacheOf}
use Rattle.read_section.specs.body.Seat.{TellsStage}
use Rattle.read_section.specs.Worker.{WorkerValue}
use Rattle.read_section.proofs.CacheLemmas.{cache_peeked, stage_peeked}
use Rattle.read_section.specs.Section.{EndsInFetches}
use Rattle.read_section.proofs.SectionLemmas.{EndsInFetches-held}
use Rattle.read_section.proofs.worker.Worker.meet_worker.Goals as goal

pub returns-clause-ends_in_fetches : goal.returns-clause-ends_in_fetches
returns-clause-ends_in_fetches c = subst EndsInFetches c.self.view_is (EndsInFetches-held c.self.inside.held c.self.inside.seat c.self.invariant.0 c.peek_told.ensures.worker.2.own_log)

pub invariant_of-self : goal.invariant_of-self
invariant_of-self c = let told = c.peek_told.ensures.worker in let seat = c.self.inside.seat in subst (λ (w : WorkerValue). TellsStage c.self.inside.held w.view.stage × IsCacheOf w.view c.self.inside.cache) (sym told.4)
    (stage_peeked c.self.inside.held seat.view.stage c.self.invariant.0 _, cache_peeked seat.view c.self.inside.cache c.self.invariant.1 told.0 told.1 told.2.shows.goes_on)
