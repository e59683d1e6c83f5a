use Rattle.std.proofs.Common.{◌∙◌, ap}
use Rattle.member_counts.specs.declared.log.Run.{Run}
use Rattle.member_counts.specs.Log.{Log, last_run}
use Rattle.member_counts.specs.body.Runs.{has_run, whole}
use Rattle.member_counts.proofs.LogLemmas.{last-is}
use Rattle.member_counts.proofs.log.VerdictLog.last_key.Goals as goal

pub returns : goal.returns
returns c last there =
    let inside = c.self.inside in
    ap (λ (run : Run). run.key)
    (last-is inside.earlier.items (has_run inside.has_counts inside.packed) (whole inside.last inside.packed) last (λ none. (c.self.invariant.2 none).0)
    (ap (λ (log : Log). last_run log.entries) c.self.view_is ∙ there))
