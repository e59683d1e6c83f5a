use Rattle.std.proofs.Common.{◌≡◌, ◌∙◌, None, ap, sym}
use Rattle.std.specs.BTreeMap.{is_at}
use Rattle.std.specs.Map.{lookup}
use Rattle.member_counts.specs.Table.{Table, kept_at}
use Rattle.member_counts.proofs.KeyLemmas.{order}
use Rattle.member_counts.proofs.StepLemmas.{adds_at_new, as_kept, conserves_at_new, on_ok}
use Rattle.member_counts.proofs.table.MemberTable.add_new.Goals as goal

pub returns-then-is_ok-clause-adds : goal.returns-then-is_ok-clause-adds
returns-then-is_ok-clause-adds c =
    let entries = c.self.inside.entries.entries in
    let key = c.args.run.now.key in
    let absent : None ≡ lookup (is_at (order key)) entries = sym (as_kept key entries ∙ ap (λ (table : Table). kept_at key table) c.self.view_is ∙ c.requires) in
    let updates = on_ok c.insert.result (sym c.is_ok.ensures.value ∙ c.if-is_ok.true) c.insert.ensures.updates in
    rw (← c.self.view_is) (adds_at_new entries c.self.inside.gone key c.args.run.now.counts _ absent updates.0)

pub returns-then-is_ok-clause-conserved : goal.returns-then-is_ok-clause-conserved
returns-then-is_ok-clause-conserved c =
    let entries = c.self.inside.entries.entries in
    let key = c.args.run.now.key in
    let absent : None ≡ lookup (is_at (order key)) entries = sym (as_kept key entries ∙ ap (λ (table : Table). kept_at key table) c.self.view_is ∙ c.requires) in
    let inserted = on_ok c.insert.result (sym c.is_ok.ensures.value ∙ c.if-is_ok.true) c.insert.ensures.entries in
    rw (← c.self.view_is) (conserves_at_new entries c.self.inside.gone key c.args.run.now.counts _ absent inserted)
