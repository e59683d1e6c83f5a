use Rattle.std.proofs.Common.{rules}
use Rattle.dispatch.proofs.kind.place.Goals as goal

pub returns : goal.returns
returns c = search rules
