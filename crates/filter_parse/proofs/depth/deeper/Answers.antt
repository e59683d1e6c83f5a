use Rattle.std.proofs.Common.{rules}
use Rattle.filter_parse.proofs.depth.deeper.Goals as goal

pub returns : goal.returns
returns c = search rules
