use Rattle.std.proofs.Common.{rules}
use Rattle.filter_emit.proofs.code.Code.note.Goals as goal

pub returns-in_ok-jump-clause-noted : goal.returns-in_ok-jump-clause-noted
returns-in_ok-jump-clause-noted g c = search rules

pub returns-in_ok-jump-clause-by : goal.returns-in_ok-jump-clause-by
returns-in_ok-jump-clause-by g c = search rules

pub returns-in_ok-add-clause-noted : goal.returns-in_ok-add-clause-noted
returns-in_ok-add-clause-noted g c = search rules

pub returns-in_ok-add-clause-by : goal.returns-in_ok-add-clause-by
returns-in_ok-add-clause-by g c = search rules
