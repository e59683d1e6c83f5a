use Rattle.std.proofs.Common.{rules}
use Rattle.command_line.proofs.AcceptedLemmas.{second_accepted, third_accepted}
use Rattle.command_flood.proofs.flood_versions.selector.Goals as goal

pub returns-then-i-eq0-clause-accepted : goal.returns-then-i-eq0-clause-accepted
returns-then-i-eq0-clause-accepted c = second_accepted

pub returns-else-i-eq0-clause-accepted : goal.returns-else-i-eq0-clause-accepted
returns-else-i-eq0-clause-accepted c = third_accepted

pub returns-else-i-eq0-clause-in_turn : goal.returns-else-i-eq0-clause-in_turn
returns-else-i-eq0-clause-in_turn c = search rules

pub returns-then-i-eq0-clause-in_turn : goal.returns-then-i-eq0-clause-in_turn
returns-then-i-eq0-clause-in_turn c = search rules
