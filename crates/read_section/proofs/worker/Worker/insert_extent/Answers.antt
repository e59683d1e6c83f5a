use Rattle.std.proofs.Common.{subst, sym}
use Rattle.config_image.specs.declared.pages.cache.Extent.{Extent}
use Rattle.read_section.specs.body.Found.{IsExtentIn}
use Rattle.read_section.specs.Worker.{WorkerValue}
use Rattle.read_section.proofs.CacheLemmas.{extent_inserted}
use Rattle.read_section.proofs.worker.Worker.insert_extent.Goals as goal

pub invariant_of-self : goal.invariant_of-self
invariant_of-self c = let seat = c.self.inside.seat in let kept : Extent = record c.args.extent { version = c.version-version.result } in (
  c.self.invariant.0,
  extent_inserted seat.view c.self.inside.cache c.self.invariant.1 c.insert.new.self kept (subst (λ (w : WorkerValue). IsExtentIn w.view kept) (sym c.self.view_is) c.requires.is) c.insert.ensures.version c.insert.ensures.form c.insert.ensures.others,
)
