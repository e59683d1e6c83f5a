use Rattle.std.proofs.Common.{subst, sym, rules}
use Rattle.read_section.specs.body.Cache.{IsCacheOf}
use Rattle.read_section.specs.body.Seat.{TellsStage}
use Rattle.read_section.specs.Worker.{WorkerValue}
use Rattle.read_section.proofs.CacheLemmas.{cache_fetched}
use Rattle.read_section.proofs.worker.Worker.fetch.Goals as goal

pub invariant_of-self : goal.invariant_of-self
invariant_of-self c = let seat = c.self.inside.seat in subst (λ (w : WorkerValue). TellsStage c.self.inside.held w.view.stage × IsCacheOf w.view c.self.inside.cache) (sym c.fetch.ensures.one_step)
    (c.self.invariant.0, cache_fetched seat.view c.self.inside.cache c.self.invariant.1 c.args.place c.fetch.result)

pub returns-clause-word : goal.returns-clause-word
returns-clause-word c = search rules

pub returns-clause-one_fetch : goal.returns-clause-one_fetch
returns-clause-one_fetch c = search rules
