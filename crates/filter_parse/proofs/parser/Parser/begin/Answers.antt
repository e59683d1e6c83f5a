use Rattle.std.proofs.Common.{rules}
use Rattle.filter_parse.proofs.parser.Parser.begin.Goals as goal

pub returns-in_ok-one_more_bracket-in-Open : goal.returns-in_ok-one_more_bracket-in-Open
returns-in_ok-one_more_bracket-in-Open g c = search rules
