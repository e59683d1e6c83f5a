use Rattle.std.proofs.Common.{rules}
use Rattle.control_summary.proofs.verdict.names_no_member.Goals as goal

pub returns-else-is_name-2 : goal.returns-else-is_name-2
returns-else-is_name-2 c = search rules

pub returns-then-is_name-2 : goal.returns-then-is_name-2
returns-then-is_name-2 c = search rules
