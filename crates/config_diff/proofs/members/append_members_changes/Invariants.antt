use Rattle.config_diff.proofs.StayLemmas.{GetsTheRest}
use Rattle.config_diff.proofs.members.append_members_changes.Given as goal

abbrev pub invariant-loop-at : goal.invariant-loop-at
invariant-loop-at g l = GetsTheRest l.initial.changes.items l.changes.items l.key l.from l.to l.at
