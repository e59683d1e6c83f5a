use Rattle.std.proofs.Common.{◌≡◌, IsSome, Option, Some, refl, subst}
use Rattle.std.specs.BTreeMap.{is_at}
use Rattle.std.specs.Map.{lookup}
use Rattle.member_counts.specs.declared.counts.Counts.{Counts}
use Rattle.member_counts.proofs.KeyLemmas.{order}
use Rattle.member_counts.proofs.StepLemmas.{adds_at_kept, conserves_at_kept}
use Rattle.member_counts.proofs.table.MemberTable.add_last.Goals as goal

pub returns-in-Some-clause-adds : goal.returns-in-Some-clause-adds
returns-in-Some-clause-adds c =
    let entries = c.self.inside.entries.entries in
    let run = c.args.run.now in
    let key = c.last_key.result.now in
    let found : Some c.in-Some.sum.now ≡ lookup (is_at (order key)) entries = rw c.in-Some.is at c.get_mut.ensures.value in
    let holds = c.get_mut.follows.holds c.add_last_to.new.sum in
    let updates = holds.3 (subst (λ (o : Option Counts). IsSome o) found refl) in
    rw (← c.last_key.ensures run c.requires, ← c.self.view_is)
    (adds_at_kept entries c.self.inside.gone key run.counts _ c.in-Some.sum.now c.add_last_to.new.sum found (c.add_last_to.ensures run c.requires) updates.0)

pub returns-in-Some-clause-conserved : goal.returns-in-Some-clause-conserved
returns-in-Some-clause-conserved c =
    let entries = c.self.inside.entries.entries in
    let run = c.args.run.now in
    let key = c.last_key.result.now in
    let found : Some c.in-Some.sum.now ≡ lookup (is_at (order key)) entries = rw c.in-Some.is at c.get_mut.ensures.value in
    let holds = c.get_mut.follows.holds c.add_last_to.new.sum in
    rw (← c.self.view_is)
    (conserves_at_kept entries c.self.inside.gone key run.counts _ c.in-Some.sum.now c.add_last_to.new.sum found (c.add_last_to.ensures run c.requires) holds.0)
