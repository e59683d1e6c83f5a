use Rattle.std.proofs.Common.{rules}
use Rattle.filter_parse.proofs.parser.Parser.after_source.Goals as goal

pub returns : goal.returns
returns g c = search rules
