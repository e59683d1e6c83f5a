use Rattle.std.proofs.Common.{◌≡◌, ◌∙◌, ap, ap₂, sym}
use Rattle.member_counts.specs.declared.counts.Counts.{Counts}
use Rattle.member_counts.specs.declared.log.Run.{Run}
use Rattle.member_counts.specs.Counts.{plus}
use Rattle.member_counts.specs.Log.{Log, last_run}
use Rattle.member_counts.specs.body.Runs.{has_run, unpacked, whole}
use Rattle.member_counts.proofs.LogLemmas.{in-turn, last-is, none-in-turn}
use Rattle.member_counts.proofs.log.VerdictLog.add_last_to.Goals as goal

pub returns-then-self : goal.returns-then-self
returns-then-self c last there =
    let inside = c.self.inside in
    let is : whole inside.last inside.packed ≡ last =
    last-is inside.earlier.items (has_run inside.has_counts inside.packed) (whole inside.last inside.packed) last (λ none. (c.self.invariant.2 none).0)
    (ap (λ (log : Log). last_run log.entries) c.self.view_is ∙ there) in
    c.add-then-self.ensures ∙ ap₂ (λ sum more. plus sum more) c.add.ensures c.unpacked.ensures
    ∙ in-turn c.args.sum.now inside.last.counts (unpacked inside.packed) ∙ ap (λ (run : Run). plus c.args.sum.now run.counts) is

pub returns : goal.returns
returns c last there =
    let inside = c.self.inside in
    let is : whole inside.last inside.packed ≡ last =
    last-is inside.earlier.items (has_run inside.has_counts inside.packed) (whole inside.last inside.packed) last (λ none. (c.self.invariant.2 none).0)
    (ap (λ (log : Log). last_run log.entries) c.self.view_is ∙ there) in
    c.add-2.ensures ∙ ap (λ (more : Counts). plus c.args.sum.now more) c.unpacked-2.ensures
    ∙ none-in-turn c.args.sum.now (unpacked inside.packed)
    ∙ ap (λ (counts : Counts). plus c.args.sum.now (plus counts (unpacked inside.packed))) (sym (c.self.invariant.3 c.if-self.false))
    ∙ ap (λ (run : Run). plus c.args.sum.now run.counts) is
