use Rattle.std.proofs.Common.{◌≡◌, ◌∙◌, ◌*◌, ◌/◌, ◌^◌, ap, sym}
use Rattle.selector_buckets.specs.Buckets.{BucketsValue}
use Rattle.selector_buckets.proofs.WidthLemmas.{whole_width}
use Rattle.selector_buckets.proofs.buckets.Buckets.width.Goals as goal

pub returns-clause-whole : goal.returns-clause-whole
returns-clause-whole c =
    let seen : c.self.inside.depth ≡ c.args.self.now.depth = ap (λ (v : BucketsValue). v.depth) c.self.view_is in
    ap (λ d. 2 ^ d * (2 ^ 32 / c.len.result)) (sym seen)
    ∙ (ap (λ n. 2 ^ c.self.inside.depth * (2 ^ 32 / n)) (c.len.ensures ∙ (c.self.inside.members.ok.0 ∙ c.self.invariant.whole)) ∙ whole_width c.self.inside.depth c.self.invariant.limited)
