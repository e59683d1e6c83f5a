use Rattle.std.proofs.Common.{Some, ap, refl, slice_index, sym, ◌∙◌}
use Rattle.versions.specs.declared.step.Step.TheVariants.{Pin}
use Rattle.versions.specs.declared.view.Stage.TheVariants.{Announced}
use Rattle.versions.specs.Table.{the_shape}
use Rattle.versions.proofs.MirrorLemmas.{next_of, no_worker}
use Rattle.versions.proofs.TraceLemmas.{Coheres-reached}
use Rattle.versions.proofs.progress.Progress.pin_word.Goals as goal

pub returns-in-Announced : goal.returns-in-Announced
returns-in-Announced g c = λ s reached room m. (
  next_of the_shape s c.args.words.now c.args.self.now m (Coheres-reached the_shape s reached) c.args.worker (Announced c.in-Announced.read_word) (Pin c.args.worker) (slice_index c.args.words.now 0) (sym c.stage.ensures ∙ c.in_ok-stage.was ∙ ap Some c.in-Announced.is) (c.in-Announced.read_word, refl),
  ap (λ l. slice_index l 0) m.words_same,
)

pub returns-in_err-stage : goal.returns-in_err-stage
returns-in_err-stage g c = λ s reached room m. rw c.from_residual.ensures (λ x legal.
    no_worker the_shape s c.args.words.now c.args.self.now m c.args.worker (Pin c.args.worker) x (sym c.stage.ensures ∙ c.in_err-stage.was) legal.0)
