use Rattle.std.proofs.Common.{take}
use Rattle.member_counts.proofs.TableLemmas.{IsCountedSoFar}
use Rattle.member_counts.proofs.table.MemberTable.count.Given as goal

abbrev pub invariant-loop-entry : goal.invariant-loop-entry
invariant-loop-entry l = IsCountedSoFar l.initial.self (take l.entry-index l.entry-items) l.self
