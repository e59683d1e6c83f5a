use Rattle.std.proofs.Common.{rules}
use Rattle.filter_parse.proofs.parser.Parser.read.Goals as goal

pub returns : goal.returns
returns g c = search rules

pub returns-in_err-step : goal.returns-in_err-step
returns-in_err-step g c = search rules

pub loop-token-preserved : goal.loop-token-preserved
loop-token-preserved g c = search rules
