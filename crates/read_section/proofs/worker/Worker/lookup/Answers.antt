use Rattle.std.proofs.Common.{IfSome, None, Option, Some, subst}
use Rattle.config_image.specs.declared.pages.cache.Extent.{Extent}
use Rattle.config_image.specs.Cache.{Holds, IsCached}
use Rattle.read_section.specs.body.Found.{TellsExtent}
use Rattle.read_section.specs.Worker.{WorkerValue}
use Rattle.read_section.proofs.CacheLemmas.{extent_cached}
use Rattle.read_section.proofs.worker.Worker.lookup.Goals as goal

pub returns : goal.returns
returns c = told c.lookup.result c.lookup.ensures.kept
  where
    told : (found : Option Extent) → IfSome found (λ extent. IsCached c.self.inside.cache extent × Holds extent c.args.i) → IfSome found (λ extent. TellsExtent c.args.self.now.view extent × Holds extent c.args.i)
    told None none = none
    told (Some extent) is = (subst (λ (w : WorkerValue). TellsExtent w.view extent) c.self.view_is (extent_cached c.self.inside.seat.view c.self.inside.cache c.self.invariant.1 extent is.0), is.1)
