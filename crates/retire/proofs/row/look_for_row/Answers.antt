use Rattle.std.proofs.Common.{rules}
use Rattle.retire.proofs.PublishLemmas.{busy, none_then}
use Rattle.retire.proofs.row.look_for_row.Goals as goal

pub returns-clause-none : goal.returns-clause-none
returns-clause-none c = none_then c.free_row-2.result _ _ (busy c.args.operator.now c.scan_each.new.operator c.in_default.ensures.none c.scan_each.ensures) c.free_row-2.ensures.none

pub returns-clause-looked : goal.returns-clause-looked
returns-clause-looked c = search rules

pub returns-clause-some : goal.returns-clause-some
returns-clause-some c = search rules

pub returns-in-Some-clause-looked : goal.returns-in-Some-clause-looked
returns-in-Some-clause-looked c = search rules

pub returns-in-Some-clause-none : goal.returns-in-Some-clause-none
returns-in-Some-clause-none c = search rules

pub returns-in-Some-clause-some : goal.returns-in-Some-clause-some
returns-in-Some-clause-some c = search rules
