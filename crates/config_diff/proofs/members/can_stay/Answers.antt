use Rattle.std.proofs.Common.{rules}
use Rattle.config_diff.proofs.members.can_stay.Goals as goal

pub returns-then-other : goal.returns-then-other
returns-then-other g c = search rules
