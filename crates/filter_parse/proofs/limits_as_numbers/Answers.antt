use Rattle.std.proofs.Common.{rules}
use Rattle.filter_parse.proofs.limits_as_numbers.Goals as goal

pub returns : goal.returns
returns c = search rules
