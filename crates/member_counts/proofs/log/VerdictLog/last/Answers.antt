use Rattle.std.proofs.Common.{◌∙◌, Some, ap, sym}
use Rattle.member_counts.specs.declared.log.Run.{Run}
use Rattle.member_counts.specs.body.Runs.{has_run, whole}
use Rattle.member_counts.proofs.LogLemmas.{last-run}
use Rattle.member_counts.proofs.log.VerdictLog.last.Goals as goal

pub returns-then-has_run : goal.returns-then-has_run
returns-then-has_run c =
    let inside = c.self.inside in
    rw (← c.self.view_is)
    (ap (λ (run : Run). Some run) c.whole.ensures
    ∙ last-run inside.earlier.items (has_run inside.has_counts inside.packed) (whole inside.last inside.packed) (sym c.has_run.ensures ∙ c.if-has_run.true))
