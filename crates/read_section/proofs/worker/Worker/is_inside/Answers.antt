use Rattle.std.proofs.Common.{ap, if◌then◌else◌, length, sym, ◌∙◌}
use Rattle.versions.specs.Table.{the_shape}
use Rattle.read_section.specs.Section.{held_words}
use Rattle.read_section.specs.Worker.{WorkerValue}
use Rattle.read_section.proofs.SectionLemmas.{length-held_words}
use Rattle.read_section.proofs.worker.Worker.is_inside.Goals as goal

pub returns : goal.returns
returns c = ap (λ (w : WorkerValue). length (held_words w)) (sym c.self.view_is)
    ∙ (length-held_words c.self.inside.held c.self.inside.seat c.self.invariant.0 ∙ ap (λ b. if b then the_shape.row_words else 0) (sym c.is_some.ensures))
