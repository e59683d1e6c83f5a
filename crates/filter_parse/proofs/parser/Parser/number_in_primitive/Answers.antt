use Rattle.std.proofs.Common.{rules}
use Rattle.filter_parse.proofs.parser.Parser.number_in_primitive.Goals as goal

pub returns : goal.returns
returns g c = search rules
