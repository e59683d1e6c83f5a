use Rattle.std.proofs.Common.{subst, sym}
use Rattle.config_image.specs.Cache.{CacheValue}
use Rattle.read_section.specs.body.Found.{IsFormIn}
use Rattle.read_section.specs.body.Cache.{IsCacheOf}
use Rattle.read_section.specs.Worker.{WorkerValue}
use Rattle.read_section.proofs.CacheLemmas.{form_inserted}
use Rattle.read_section.proofs.worker.Worker.set_form.Goals as goal

pub invariant_of-self : goal.invariant_of-self
invariant_of-self c = let seat = c.self.inside.seat in (
  c.self.invariant.0,
  subst (λ (m : CacheValue). IsCacheOf seat.view m) (sym c.set_form.ensures.kept)
      (form_inserted seat.view c.self.inside.cache c.self.invariant.1 c.args.form.0 (subst (λ (w : WorkerValue). IsFormIn w.view c.args.form.0) (sym c.self.view_is) c.requires)),
)
