use Rattle.std.proofs.Common.{◌∙◌}
use Rattle.member_counts.specs.body.Runs.{has_run, whole}
use Rattle.member_counts.proofs.LogLemmas.{earlier-runs}
use Rattle.member_counts.proofs.log.VerdictLog.earlier.Goals as goal

pub returns : goal.returns
returns c =
    let inside = c.self.inside in
    rw (← c.self.view_is)
    (c.as_slice.ensures.value
    ∙ earlier-runs inside.earlier.items (has_run inside.has_counts inside.packed) (whole inside.last inside.packed) (λ none. (c.self.invariant.2 none).0))
