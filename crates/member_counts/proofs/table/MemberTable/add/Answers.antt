use Rattle.std.proofs.Common.{◌≡◌, IsSome, Option, Some, refl, subst}
use Rattle.std.specs.BTreeMap.{is_at}
use Rattle.std.specs.Map.{lookup}
use Rattle.member_counts.specs.declared.counts.Counts.{Counts}
use Rattle.member_counts.proofs.KeyLemmas.{order}
use Rattle.member_counts.proofs.StepLemmas.{adds_at_kept, conserves_at_kept}
use Rattle.member_counts.proofs.table.MemberTable.add.Goals as goal

pub returns-in-Some-clause-adds : goal.returns-in-Some-clause-adds
returns-in-Some-clause-adds c =
    let entries = c.self.inside.entries.entries in
    let run = c.args.run.now in
    let found : Some c.in-Some.sum.now ≡ lookup (is_at (order run.key)) entries = rw c.in-Some.is at c.get_mut.ensures.value in
    let holds = c.get_mut.follows.holds c.add.new.self in
    let updates = holds.3 (subst (λ (o : Option Counts). IsSome o) found refl) in
    rw (← c.self.view_is)
    (adds_at_kept entries c.self.inside.gone run.key run.counts _ c.in-Some.sum.now c.add.new.self found c.add.ensures updates.0)

pub returns-in-Some-clause-conserved : goal.returns-in-Some-clause-conserved
returns-in-Some-clause-conserved c =
    let entries = c.self.inside.entries.entries in
    let run = c.args.run.now in
    let found : Some c.in-Some.sum.now ≡ lookup (is_at (order run.key)) entries = rw c.in-Some.is at c.get_mut.ensures.value in
    let holds = c.get_mut.follows.holds c.add.new.self in
    rw (← c.self.view_is)
    (conserves_at_kept entries c.self.inside.gone run.key run.counts _ c.in-Some.sum.now c.add.new.self found c.add.ensures holds.0)
