use Rattle.std.proofs.Common.{subst, sym, ℕ, ◌<◌, rules}
use Rattle.versions.proofs.ShapeLemmas.{workers_is}
use Rattle.read_section.proofs.KeeperLemmas.{IsKeptBy-scanned}
use Rattle.read_section.proofs.operator.Operator.scan.Goals as goal

pub invariant_of-self : goal.invariant_of-self
invariant_of-self c =
    let t = c.scan-word.ensures in
    let kept = IsKeptBy-scanned _ _ _ _ _ _ _ c.self.invariant c.args.worker c.scan-word.result t.0 in
    search (rules, kept, t.2)

pub scan-word-requires : goal.scan-word-requires
scan-word-requires c = subst (λ (n : ℕ). c.args.worker < n) (sym workers_is) c.requires

pub returns : goal.returns
returns c = search rules
