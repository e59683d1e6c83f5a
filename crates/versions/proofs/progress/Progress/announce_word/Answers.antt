use Rattle.std.proofs.Common.{Some, ap, sym, ◌∙◌}
use Rattle.versions.specs.declared.step.Step.TheVariants.{Announce}
use Rattle.versions.specs.Table.{the_shape}
use Rattle.versions.proofs.MirrorLemmas.{no_worker}
use Rattle.versions.proofs.DecisionLemmas.{decided_announce}
use Rattle.versions.proofs.progress.Progress.announce_word.Goals as goal

pub returns-in-Peeked : goal.returns-in-Peeked
returns-in-Peeked g c = λ s reached room m.
    decided_announce s reached c.args.words.now c.args.self.now m c.args.worker c.in-Peeked.version c.announced.result (sym c.stage.ensures ∙ c.in_ok-version.was ∙ ap Some c.in-Peeked.is) c.announced.ensures

pub returns-in_err-version : goal.returns-in_err-version
returns-in_err-version g c = λ s reached room m. rw c.from_residual.ensures (λ x legal.
    no_worker the_shape s c.args.words.now c.args.self.now m c.args.worker (Announce c.args.worker) x (sym c.stage.ensures ∙ c.in_err-version.was) legal)
