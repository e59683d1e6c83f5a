-- The codes of faults (docs/COMMANDS.md, "Refusals").
use Rattle.std.specs.Prelude.{codes}
use Rattle.fault_code.specs.Code.{at, plain}
use Rattle.fault_code.specs.declared.Code.{Code}
use Rattle.filter_parse.specs.declared.fault.ParseFault.{ParseFault}
use Rattle.filter_parse.specs.declared.fault.ParseFault.TheVariants.{BadAddress, BadPrefix, NumberTooBig, OutOfMemory, Syntax, TooDeep}

-- with the place of the fault in the expression's text
abbrev pub parse_code : ParseFault → Code
parse_code (Syntax place) = at (codes "P") 1 place
parse_code (NumberTooBig place) = at (codes "P") 2 place
parse_code (BadAddress place) = at (codes "P") 3 place
parse_code (BadPrefix place) = at (codes "P") 4 place
parse_code (TooDeep place) = at (codes "P") 5 place
parse_code OutOfMemory = plain (codes "P") 6
