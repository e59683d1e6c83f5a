use Rattle.std.proofs.Common.{◌<◌, subst, sym, ℕ}
use Rattle.read_section.specs.body.Found.{TellsForm}
use Rattle.read_section.specs.Worker.{WorkerValue}
use Rattle.read_section.proofs.CacheLemmas.{form_cached}
use Rattle.read_section.proofs.worker.Worker.form.Goals as goal

pub returns : goal.returns
returns c some = subst (λ (w : WorkerValue). TellsForm w.view c.form.result) c.self.view_is (subst (λ (f : ℕ). TellsForm c.self.inside.seat.view f) (sym c.form.ensures.form) (form_cached c.self.inside.seat.view c.self.inside.cache c.self.invariant.1 (subst (λ (f : ℕ). 0 < f) c.form.ensures.form some)))
