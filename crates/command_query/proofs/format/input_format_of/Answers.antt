use Rattle.std.proofs.Common.{rules}
use Rattle.command_query.proofs.format.input_format_of.Goals as goal

pub returns-in-asm : goal.returns-in-asm
returns-in-asm c = search rules

pub returns-in-ddd : goal.returns-in-ddd
returns-in-ddd c = search rules

pub returns-in-hex : goal.returns-in-hex
returns-in-hex c = search rules

pub returns-in_default : goal.returns-in_default
returns-in_default c = search rules
