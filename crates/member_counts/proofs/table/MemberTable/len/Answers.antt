use Rattle.member_counts.proofs.KeyLemmas.{distinct_keys}
use Rattle.member_counts.proofs.table.MemberTable.len.Goals as goal

pub returns-clause-once : goal.returns-clause-once
returns-clause-once c = rw (← c.self.view_is) (distinct_keys c.self.inside.entries.entries c.len.ensures.ordered)
