use Rattle.std.proofs.Common.{ap, slice_index, sym, ◌∙◌}
use Rattle.versions.specs.declared.step.Step.TheVariants.{Peek}
use Rattle.versions.specs.Table.{the_shape}
use Rattle.versions.proofs.MirrorLemmas.{may_peek, next_of, no_worker}
use Rattle.versions.proofs.TraceLemmas.{Coheres-reached}
use Rattle.versions.proofs.progress.Progress.peek_word.Goals as goal

pub returns-in_default : goal.returns-in_default
returns-in_default g c = λ s reached room m. (
  next_of the_shape s c.args.words.now c.args.self.now m (Coheres-reached the_shape s reached) c.args.worker c.in_ok-stage.field-0 (Peek c.args.worker) (slice_index c.args.words.now 0) (sym c.stage.ensures ∙ c.in_ok-stage.was) (may_peek c.in_ok-stage.field-0 c.in_default.not-Announced),
  ap (λ l. slice_index l 0) m.words_same,
)

pub returns-in_err-stage : goal.returns-in_err-stage
returns-in_err-stage g c = λ s reached room m. rw c.from_residual.ensures (λ x legal.
    no_worker the_shape s c.args.words.now c.args.self.now m c.args.worker (Peek c.args.worker) x (sym c.stage.ensures ∙ c.in_err-stage.was) legal.0)
