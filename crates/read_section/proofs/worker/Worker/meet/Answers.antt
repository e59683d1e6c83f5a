use Rattle.std.proofs.Common.{subst, sym, rules}
use Rattle.read_section.specs.body.Cache.{IsCacheOf}
use Rattle.read_section.specs.body.Seat.{TellsStage}
use Rattle.read_section.specs.Worker.{WorkerValue}
use Rattle.read_section.proofs.CacheLemmas.{cache_peeked, stage_peeked}
use Rattle.read_section.specs.Section.{EndsInFetches}
use Rattle.read_section.proofs.SectionLemmas.{EndsInFetches-held}
use Rattle.read_section.proofs.worker.Worker.meet.Goals as goal

pub returns-clause-ends_in_fetches : goal.returns-clause-ends_in_fetches
returns-clause-ends_in_fetches c = subst EndsInFetches c.self.view_is (EndsInFetches-held c.self.inside.held c.self.inside.seat c.self.invariant.0 c.meet.ensures.own_log)

pub returns-clause-meets_by_two_steps : goal.returns-clause-meets_by_two_steps
returns-clause-meets_by_two_steps c = search rules

pub returns-clause-told_all : goal.returns-clause-told_all
returns-clause-told_all c = search rules

pub invariant_of-self : goal.invariant_of-self
invariant_of-self c = let meets = c.meet.ensures.meets in let seat = c.self.inside.seat in subst (λ (w : WorkerValue). TellsStage c.self.inside.held w.view.stage × IsCacheOf w.view c.self.inside.cache) (sym meets.one_peek)
    (stage_peeked c.self.inside.held seat.view.stage c.self.invariant.0 _, cache_peeked seat.view c.self.inside.cache c.self.invariant.1 meets.peeked _ meets.shows.goes_on)
