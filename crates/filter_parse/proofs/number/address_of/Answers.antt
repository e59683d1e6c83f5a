use Rattle.std.proofs.Common.{rules}
use Rattle.filter_parse.proofs.number.address_of.Goals as goal

pub returns : goal.returns
returns c = search rules
