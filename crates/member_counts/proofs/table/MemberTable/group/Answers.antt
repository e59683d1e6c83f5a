use Rattle.std.proofs.Common.{◌≡◌, ◌∙◌, Bool, [], ap, sym}
use Rattle.std.proofs.lemmas.Map.Iter.{rest_all}
use Rattle.std.specs.List.{filter}
use Rattle.std.specs.Map.Iter.{deref_pair}
use Rattle.member_counts.specs.declared.counts.Counts.{Counts}
use Rattle.member_counts.specs.declared.key.CountKey.{CountKey}
use Rattle.member_counts.specs.Counts.{group_part}
use Rattle.member_counts.specs.Key.{same_group}
use Rattle.member_counts.specs.Table.{plus_kept}
use Rattle.member_counts.proofs.SumLemmas.{plus_kept-sum_of}
use Rattle.member_counts.proofs.table.MemberTable.group.Goals as goal

pub returns : goal.returns
returns c =
    let own : CountKey × Counts → Bool = λ entry. same_group entry.0.group c.args.group in
    let entries = c.self.inside.entries.entries in
    let none_left : c.loop-key.key-iterator ≡ [] = rest_all deref_pair c.loop-key.key-iterator c.next.new.self c.next.result c.in-None.is c.next.ensures.steps in
    let start : c.into_iter-key-iterator.result ≡ entries = c.into_iter-key-iterator.ensures.into_iter_gives ∙ c.iter-key-items.ensures.rest in
    let sum = ap (λ left. plus_kept c.loop-key.sum (filter own left)) (sym none_left) ∙ c.loop-key.invariant
    ∙ ap (λ all. plus_kept c.none-sum.result (filter own all)) start
    ∙ ap (λ zero. plus_kept zero (filter own entries)) c.none-sum.ensures ∙ plus_kept-sum_of (filter own entries) in
    rw (← c.self.view_is) (c.group_part.ensures ∙ ap group_part sum)
