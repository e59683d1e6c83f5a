use Rattle.std.proofs.Common.{◌≡◌, ◌∙◌, Bool, [], ap, not, rules, sym}
use Rattle.std.proofs.lemmas.Map.Iter.{rest_all}
use Rattle.std.proofs.lemmas.Map.Made.{filter_same_pairs}
use Rattle.std.specs.List.{filter}
use Rattle.std.specs.Map.Iter.{deref_pair}
use Rattle.member_counts.specs.declared.counts.Counts.{Counts}
use Rattle.member_counts.specs.declared.key.CountKey.{CountKey}
use Rattle.member_counts.specs.Key.{has}
use Rattle.member_counts.specs.Table.{plus_kept}
use Rattle.member_counts.proofs.KeyLemmas.{distinct_keys}
use Rattle.member_counts.proofs.SettleLemmas.{removed}
use Rattle.member_counts.proofs.table.MemberTable.remove_lacking.Goals as goal

pub returns-clause-removed : goal.returns-clause-removed
returns-clause-removed c =
    let groups = c.args.groups.now in
    let goes : CountKey × Counts → Bool = λ entry. not (has groups entry.0) in
    let entries = c.self.inside.entries.entries in
    let kept = filter_same_pairs _ (λ entry. has groups entry.0) _ (λ k v b w f' t. search rules) _ _ c.retain.ensures.filtered in
    let none_left : c.loop-key.key-iterator ≡ [] = rest_all deref_pair c.loop-key.key-iterator c.next.new.self c.next.result c.in-None.is c.next.ensures.steps in
    let start : c.into_iter-key-iterator.result ≡ entries = c.into_iter-key-iterator.ensures.into_iter_gives ∙ c.iter-key-items.ensures.rest in
    let gone = ap (λ left. plus_kept c.loop-key.gone (filter goes left)) (sym none_left) ∙ c.loop-key.invariant
    ∙ ap (λ all. plus_kept c.self.inside.gone (filter goes all)) start in
    rw (← c.self.view_is) (removed groups entries c.retain.new.self.entries c.self.inside.gone c.loop-key.gone kept gone)

pub returns-clause-once : goal.returns-clause-once
returns-clause-once c = distinct_keys c.retain.new.self.entries c.retain.ensures.ordered
