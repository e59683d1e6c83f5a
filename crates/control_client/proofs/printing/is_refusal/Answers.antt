use Rattle.std.proofs.Common.{rules}
use Rattle.control_client.proofs.printing.is_refusal.Goals as goal

pub returns-else-starts_with : goal.returns-else-starts_with
returns-else-starts_with c = search rules

pub returns-then-starts_with : goal.returns-then-starts_with
returns-then-starts_with c = search rules
