use Rattle.std.proofs.Common.{arith}
use Rattle.std.proofs.lemmas.Grind.{common_steps}
use Rattle.filter_parse.proofs.parser.Parser.after_number.Goals as goal

pub returns-in-Operates-default : goal.returns-in-Operates-default
returns-in-Operates-default g c = grind (arith, common_steps)

pub returns-in-Compares-default : goal.returns-in-Compares-default
returns-in-Compares-default g c = grind (arith, common_steps)

pub returns-in-Compares-default-2 : goal.returns-in-Compares-default-2
returns-in-Compares-default-2 g c = grind (arith, common_steps)

pub returns-in-Close-Some-Bracket : goal.returns-in-Close-Some-Bracket
returns-in-Close-Some-Bracket g c = grind (arith, common_steps)

pub returns-in-CloseIndex-Some-Index : goal.returns-in-CloseIndex-Some-Index
returns-in-CloseIndex-Some-Index g c = grind (arith, common_steps)

pub returns-in-Colon-Some-Index : goal.returns-in-Colon-Some-Index
returns-in-Colon-Some-Index g c = grind (arith, common_steps)
