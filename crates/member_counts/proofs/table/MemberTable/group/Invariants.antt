use Rattle.std.proofs.Common.{◌≡◌}
use Rattle.std.specs.List.{filter}
use Rattle.member_counts.specs.Key.{same_group}
use Rattle.member_counts.specs.Table.{plus_kept}
use Rattle.member_counts.proofs.table.MemberTable.group.Given as goal

abbrev pub invariant-loop-key : goal.invariant-loop-key
invariant-loop-key l =
    plus_kept l.sum (filter (λ entry. same_group entry.0.group l.group) l.key-iterator)
    ≡ plus_kept l.initial.sum (filter (λ entry. same_group entry.0.group l.group) l.initial.key-iterator)
