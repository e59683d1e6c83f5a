use Rattle.std.proofs.Common.{Some, ap, refl, sym, ◌∙◌}
use Rattle.versions.specs.declared.step.Step.TheVariants.{Leave}
use Rattle.versions.specs.declared.view.Stage.TheVariants.{Inside}
use Rattle.versions.specs.Table.{the_shape}
use Rattle.versions.proofs.MirrorLemmas.{next_of, no_worker}
use Rattle.versions.proofs.TraceLemmas.{Coheres-reached}
use Rattle.versions.proofs.progress.Progress.leave_word.Goals as goal

pub returns-in-Inside : goal.returns-in-Inside
returns-in-Inside g c = λ s reached room m. let held = c.in-Inside in
    next_of the_shape s c.args.words.now c.args.self.now m (Coheres-reached the_shape s reached) c.args.worker (Inside held.read_word held.version held.row) (Leave c.args.worker) 0 (sym c.stage.ensures ∙ c.in_ok-stage.was ∙ ap Some held.is) (held.read_word, held.version, held.row, refl, refl)

pub returns-in_err-stage : goal.returns-in_err-stage
returns-in_err-stage g c = λ s reached room m. rw c.from_residual.ensures (λ x legal.
    no_worker the_shape s c.args.words.now c.args.self.now m c.args.worker (Leave c.args.worker) x (sym c.stage.ensures ∙ c.in_err-stage.was) legal)
