use Rattle.std.proofs.Common.{◌≡◌, not}
use Rattle.std.specs.List.{filter}
use Rattle.member_counts.specs.Key.{has}
use Rattle.member_counts.specs.Table.{plus_kept}
use Rattle.member_counts.proofs.table.MemberTable.remove_lacking.Given as goal

abbrev pub invariant-loop-key : goal.invariant-loop-key
invariant-loop-key l =
    plus_kept l.gone (filter (λ entry. not (has l.groups entry.0)) l.key-iterator)
    ≡ plus_kept l.initial.gone (filter (λ entry. not (has l.groups entry.0)) l.initial.key-iterator)
